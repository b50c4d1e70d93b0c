use Rattle.std.proofs.Common.{refl, []}
use Rattle.kernel_tests.proofs.Calm.{worked}
use Rattle.kernel_tests.proofs.WorkedWell.{no_fit-well}
use Rattle.kernel_tests.specs.Worked.NoFit as no_fit
use Rattle.kernel_tests.proofs.worked.a_call_that_does_not_fit_does_not_hold_up_the_end.Goals as goal

pub returns : goal.returns
returns c =
    record {
      run = worked no_fit.program no_fit.journal [] no_fit-well refl refl;
      ends = record { complete = refl; no_fault = refl };
      not_taken = refl;
    }
