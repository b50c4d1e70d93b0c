use Rattle.std.proofs.Common.{◌++◌, refl, sym, subst, arith}
use Rattle.cc_code.proofs.Standing.{fragment-stands}
use Rattle.cc_code.specs.Meaning.{nothing_left}
use Rattle.cc_vm.proofs.Fragments.{Reached, reached-end, reached-next}
use Rattle.cc_vm.proofs.Found.{address-low}
use Rattle.cc_vm.proofs.fragment.value.Goals as goal

pub instructions-init : goal.instructions-init
instructions-init c =
    subst (Reached c.args.raw.now (c.args.args.now ++ c.args.env.now) c.args.entry c.args.entry) (sym c.new-stack.ensures) (record {
      ready = fragment-stands c.args.raw.now c.requires.verified c.args.entry (c.args.args.now ++ c.args.env.now) nothing_left c.requires.fragment;
      reached = (0, omega arith, refl);
    })

pub instructions-preserved : goal.instructions-preserved
instructions-preserved c =
    reached-next c.args.raw.now c.requires.verified (c.args.args.now ++ c.args.env.now) c.args.entry c.instructions.at c.in-To.to c.instructions.stack c.step.new.stack c.instructions.invariant
    (address-low c.args.raw.now c.requires.verified c.instructions.at c.instructions.invariant.ready.address) c.in-To.ensures

pub returns-in-Ended : goal.returns-in-Ended
returns-in-Ended c =
    reached-end c.args.raw.now c.requires.verified (c.args.args.now ++ c.args.env.now) c.args.entry c.instructions.at c.instructions.stack c.step.new.stack c.in-Ended.value c.instructions.invariant c.in-Ended.ensures
