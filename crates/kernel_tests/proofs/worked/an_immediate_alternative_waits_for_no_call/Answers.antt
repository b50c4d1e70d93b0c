use Rattle.std.proofs.Common.{refl, [], ◌∷◌}
use Rattle.kernel_tests.proofs.Calm.{worked}
use Rattle.kernel_tests.proofs.WorkedWell.{immediate-open_well}
use Rattle.kernel_tests.specs.Worked.Immediate as immediate
use Rattle.kernel_tests.proofs.worked.an_immediate_alternative_waits_for_no_call.Goals as goal

pub returns : goal.returns
returns c =
    record {
      run = worked immediate.open_program immediate.open_journal (97 ∷ []) immediate-open_well refl refl;
      ends = record { complete = refl; no_fault = refl };
      not_at_once = refl;
    }
