use Rattle.std.proofs.Common.{[], ◌∷◌}
use Rattle.cc_code.proofs.Marked.{Grown-after}
use Rattle.cc_code.specs.Reach.{begin}
use Rattle.cc_code.proofs.reach.visit_two.Goals as goal

pub returns-clause-grown : goal.returns-clause-grown
returns-clause-grown c = Grown-after (begin c.args.first c.args.label ∷ []) (begin c.args.second c.args.label ∷ []) _ _ _ _ _ _ c.in_ok-visit.ensures.grown c.in_ok-visit-2.ensures.grown
