use Rattle.std.proofs.Common.{refl, [], ◌∷◌}
use Rattle.kernel_tests.proofs.Calm.{worked}
use Rattle.kernel_tests.proofs.WorkedWell.{immediate-closed_well}
use Rattle.kernel_tests.specs.Worked.Immediate as immediate
use Rattle.kernel_tests.proofs.worked.an_immediate_alternative_is_taken_where_no_call_is.Goals as goal

pub returns : goal.returns
returns c =
    record {
      run = worked immediate.closed_program immediate.closed_journal (105 ∷ []) immediate-closed_well refl refl;
      ends = record { complete = refl; no_fault = refl };
      not_taken = refl;
    }
