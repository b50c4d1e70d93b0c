use Rattle.std.proofs.Common.{◌≡◌, ap, arith}
use Rattle.cc_vm.proofs.Growing.{grown-on, grown-ready, on-after, runs-after}
use Rattle.cc_vm.specs.Running.{work}
use Rattle.cc_vm.specs.declared.registers.Stop.TheVariants.{Fault, Other}
use Rattle.cc_vm.proofs.pauses.run_on.Goals as goal

pub growths-preserved : goal.growths-preserved
growths-preserved c = let same : work c.grow.new.lists.registers ≡ work c.run_within.new.lists.registers = ap work c.in_ok-grow-in-Room.ensures.grows.registers in (
  grown-ready c.args.raw.now c.args.room c.run_within.new.lists c.grow.new.lists c.in-Room.ensures.runs.0 c.in_ok-grow-in-Room.ensures.grows,
  on-after c.args.raw.now c.args.room c.args.lists.now c.growths.lists c.grow.new.lists c.growths.invariant.1
      (on-after c.args.raw.now c.args.room c.growths.lists c.run_within.new.lists c.grow.new.lists c.in-Room.ensures.runs.1
      (grown-on c.args.raw.now c.args.room c.run_within.new.lists c.grow.new.lists c.in-Room.ensures.runs.0 c.in_ok-grow-in-Room.ensures.grows)),
  omega (arith, same, c.in-Room.ensures.falls, c.growths.invariant.2),
)

pub returns-in-Fault-clause-comes : goal.returns-in-Fault-clause-comes
returns-in-Fault-clause-comes c =
    runs-after c.args.raw.now c.args.room c.args.lists.now c.growths.lists c.run_within.new.lists (Fault c.in-Fault.kind) c.growths.invariant.1 c.in-Fault.ensures.runs

pub returns-in-Other-clause-falls : goal.returns-in-Other-clause-falls
returns-in-Other-clause-falls c = (omega (arith, c.in-Other.ensures.falls.0, c.growths.invariant.2), c.in-Other.ensures.falls.1)

pub returns-in-Other-clause-comes : goal.returns-in-Other-clause-comes
returns-in-Other-clause-comes c =
    runs-after c.args.raw.now c.args.room c.args.lists.now c.growths.lists c.run_within.new.lists Other c.growths.invariant.1 c.in-Other.ensures.runs
