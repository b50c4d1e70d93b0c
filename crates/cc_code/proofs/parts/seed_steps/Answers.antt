use Rattle.std.proofs.Common.{ℕ, get_or, None, Option, sym, subst, add-one}
use Rattle.cc_code.proofs.Noting.{Seeded-after, Seeded-none}
use Rattle.cc_code.specs.Checked.{Seeded, steps, steps_of}
use Rattle.cc_code.proofs.parts.seed_steps.Goals as goal

pub loop-place-init : goal.loop-place-init
loop-place-init c = Seeded-none c.args.labels.now.items c.args.seeds.now.items

pub loop-place-preserved : goal.loop-place-preserved
loop-place-preserved c =
    let k = c.args.raw.now in
    let m = c.args.labels.now.items in
    subst (λ (n : ℕ). Seeded m (steps k m n) c.args.seeds.now.items c.seed_if.new.seeds.items) (sym (add-one c.loop-place.place))
    (Seeded-after m (steps k m c.loop-place.place) (steps_of k c.loop-place.place (get_or m c.loop-place.place None)) _ _ _ c.loop-place.invariant
    (subst (λ (o : Option ℕ). Seeded m (steps_of k c.loop-place.place o) c.loop-place.seeds.items c.seed_if.new.seeds.items) c.label_at.ensures c.in_ok-seed_if.ensures))
