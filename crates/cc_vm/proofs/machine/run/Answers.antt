use Rattle.std.proofs.Common.{◌<◌, arith}
use Rattle.cc_vm.proofs.Running.{bound-so, came-on, ready-next, stops-falls, stops-so, work-falls}
use Rattle.cc_vm.specs.Running.{work}
use Rattle.cc_vm.proofs.machine.run.Goals as goal

pub returns-in-Some-clause-runs : goal.returns-in-Some-clause-runs
returns-in-Some-clause-runs c =
    stops-so c.args.raw.now c.requires.verified c.args.room c.requires.room c.instructions.stack c.instructions.cells c.instructions.frames c.instructions.r c.instructions.invariant.0
    c.args.stack.now c.args.cells.now c.args.frames.now c.args.registers.now c.instructions.invariant.1 c.step.new.stack c.step.new.cells c.step.new.frames c.step.new.r c.in-Some.stop c.in-Some.ensures.moves

pub returns-in-Some-clause-falls : goal.returns-in-Some-clause-falls
returns-in-Some-clause-falls c =
    stops-falls c.args.raw.now c.requires.verified c.args.room c.requires.room c.instructions.stack c.instructions.cells c.instructions.frames c.instructions.r c.instructions.invariant.0
    c.args.registers.now c.instructions.invariant.2 c.step.new.stack c.step.new.cells c.step.new.frames c.step.new.r c.in-Some.stop c.in-Some.ensures.moves c.in-Some.ensures.left

pub returns-then-r-gt-MOST_STEPS-clause-runs : goal.returns-then-r-gt-MOST_STEPS-clause-runs
returns-then-r-gt-MOST_STEPS-clause-runs c =
    bound-so c.args.raw.now c.requires.verified c.args.room c.requires.room c.instructions.stack c.instructions.cells c.instructions.frames c.instructions.r c.instructions.invariant.0
    c.args.stack.now c.args.cells.now c.args.frames.now c.args.registers.now c.instructions.invariant.1 c.step.new.stack c.step.new.cells c.step.new.frames c.step.new.r c.in-None.ensures.moves c.if-r-gt-MOST_STEPS.true

pub instructions-smaller : goal.instructions-smaller
instructions-smaller c =
    work-falls c.args.raw.now c.requires.verified c.args.room c.requires.room c.instructions.stack c.instructions.cells c.instructions.frames c.instructions.r c.instructions.invariant.0
    c.step.new.stack c.step.new.cells c.step.new.frames c.step.new.r c.in-None.ensures.moves c.if-r-gt-MOST_STEPS.false

pub instructions-preserved : goal.instructions-preserved
instructions-preserved c = let falls : work c.step.new.r < work c.instructions.r =
    work-falls c.args.raw.now c.requires.verified c.args.room c.requires.room c.instructions.stack c.instructions.cells c.instructions.frames c.instructions.r c.instructions.invariant.0
    c.step.new.stack c.step.new.cells c.step.new.frames c.step.new.r c.in-None.ensures.moves c.if-r-gt-MOST_STEPS.false in (
      ready-next c.args.raw.now c.requires.verified c.args.room c.requires.room c.instructions.stack c.instructions.cells c.instructions.frames c.instructions.r c.instructions.invariant.0
          c.step.new.stack c.step.new.cells c.step.new.frames c.step.new.r c.in-None.ensures.moves c.if-r-gt-MOST_STEPS.false,
      came-on c.args.raw.now c.requires.verified c.args.room c.requires.room c.instructions.stack c.instructions.cells c.instructions.frames c.instructions.r c.instructions.invariant.0
          c.args.stack.now c.args.cells.now c.args.frames.now c.args.registers.now c.instructions.invariant.1 c.step.new.stack c.step.new.cells c.step.new.frames c.step.new.r c.in-None.ensures.moves c.if-r-gt-MOST_STEPS.false,
      omega (arith, falls, c.instructions.invariant.2),
    )
