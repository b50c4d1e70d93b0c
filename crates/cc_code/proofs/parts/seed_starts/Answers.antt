use Rattle.std.proofs.Common.{List, [], ◌∷◌, get_or, sym, subst, take}
use Rattle.std.proofs.lemmas.List.{take_more}
use Rattle.cc_code.proofs.Noting.{Seeded-after, Seeded-none}
use Rattle.cc_code.specs.Checked.{Seeded}
use Rattle.cc_code.specs.Reach.{begin}
use Rattle.cc_code.specs.declared.reach.Start.{Start}
use Rattle.cc_code.proofs.parts.seed_starts.Goals as goal

pub loop-start-init : goal.loop-start-init
loop-start-init c = Seeded-none c.args.labels.now.items c.args.seeds.now.items

pub loop-start-preserved : goal.loop-start-preserved
loop-start-preserved c =
    subst (λ (ss : List Start). Seeded c.args.labels.now.items ss c.args.seeds.now.items c.put_seed.new.seeds.items) (sym (take_more c.args.starts.now c.loop-start.start-index (begin 0 0) c.loop-start-test.true))
    (Seeded-after c.args.labels.now.items (take c.loop-start.start-index c.args.starts.now) (get_or c.args.starts.now c.loop-start.start-index (begin 0 0) ∷ []) _ _ _ c.loop-start.invariant c.in_ok-put_seed.ensures)
