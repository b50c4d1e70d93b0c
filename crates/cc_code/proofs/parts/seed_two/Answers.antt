use Rattle.std.proofs.Common.{[], ◌∷◌}
use Rattle.cc_code.proofs.Noting.{Seeded-after}
use Rattle.cc_code.specs.Reach.{begin}
use Rattle.cc_code.proofs.parts.seed_two.Goals as goal

pub returns : goal.returns
returns c = Seeded-after c.args.labels.now.items (begin c.args.first c.args.label ∷ []) (begin c.args.second c.args.label ∷ []) _ _ _ c.in_ok-put_seed.ensures c.in_ok-put_seed-2.ensures
