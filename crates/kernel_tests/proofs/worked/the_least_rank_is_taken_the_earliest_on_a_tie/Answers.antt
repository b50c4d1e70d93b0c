use Rattle.std.proofs.Common.{refl, [], ◌∷◌}
use Rattle.kernel_tests.proofs.Calm.{worked}
use Rattle.kernel_tests.proofs.WorkedWell.{least_rank-well}
use Rattle.kernel_tests.specs.Worked.LeastRank as least_rank
use Rattle.kernel_tests.proofs.worked.the_least_rank_is_taken_the_earliest_on_a_tie.Goals as goal

pub returns : goal.returns
returns c =
    record {
      run = worked least_rank.program least_rank.journal (98 ∷ 99 ∷ 97 ∷ []) least_rank-well refl refl;
      ends = record { complete = refl; no_fault = refl };
      no_later = refl;
      no_greater = refl;
    }
