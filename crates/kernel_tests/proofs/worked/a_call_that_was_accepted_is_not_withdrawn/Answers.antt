use Rattle.std.proofs.Common.{refl, [], ◌∷◌}
use Rattle.kernel_tests.proofs.Calm.{worked}
use Rattle.kernel_tests.proofs.WorkedWell.{accepted_in_time-well}
use Rattle.kernel_tests.specs.Worked.AcceptedInTime as accepted_in_time
use Rattle.kernel_tests.proofs.worked.a_call_that_was_accepted_is_not_withdrawn.Goals as goal

pub returns : goal.returns
returns c =
    record {
      run = worked accepted_in_time.program accepted_in_time.journal (57 ∷ []) accepted_in_time-well refl refl;
      ends = record { complete = refl; no_fault = refl };
      not_withdrawn = refl;
      no_time = refl;
    }
