use Rattle.std.proofs.Common.{refl, []}
use Rattle.kernel_tests.proofs.Calm.{worked}
use Rattle.kernel_tests.proofs.WorkedWell.{end_is_due-well}
use Rattle.kernel_tests.specs.Worked.EndIsDue as end_is_due
use Rattle.kernel_tests.proofs.worked.a_deadline_does_not_hold_up_the_end.Goals as goal

pub returns : goal.returns
returns c =
    record {
      run = worked end_is_due.program end_is_due.journal [] end_is_due-well refl refl;
      ends = record { complete = refl; no_fault = refl };
      not_before = refl;
      no_time = refl;
    }
