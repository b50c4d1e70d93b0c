use Rattle.std.proofs.Common.{refl, [], ◌∷◌}
use Rattle.kernel_tests.proofs.Calm.{worked}
use Rattle.kernel_tests.proofs.WorkedWell.{nested-well}
use Rattle.kernel_tests.specs.Worked.Nested as nested
use Rattle.kernel_tests.proofs.worked.the_innermost_call_is_answered.Goals as goal

pub returns : goal.returns
returns c =
    record {
      run = worked nested.program nested.journal (116 ∷ 49 ∷ 117 ∷ 50 ∷ []) nested-well refl refl;
      ends = record { complete = refl; no_fault = refl };
      not_the_outer = refl;
    }
