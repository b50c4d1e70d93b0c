use Rattle.std.proofs.Common.{refl, [], ◌∷◌}
use Rattle.kernel_tests.proofs.Calm.{worked}
use Rattle.kernel_tests.proofs.WorkedWell.{late_call-well}
use Rattle.kernel_tests.specs.Worked.LateCall as late_call
use Rattle.kernel_tests.proofs.worked.a_late_call_is_withdrawn.Goals as goal

pub returns : goal.returns
returns c =
    record {
      run = worked late_call.program late_call.journal (55 ∷ 49 ∷ []) late_call-well refl refl;
      ends = record { complete = refl; no_fault = refl };
      once = refl;
      not_taken = refl;
      not_untimed = refl;
    }
