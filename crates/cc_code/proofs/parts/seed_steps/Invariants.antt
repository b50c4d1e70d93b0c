use Rattle.cc_code.specs.Checked.{Seeded, steps}
use Rattle.cc_code.proofs.parts.seed_steps.Given as goal

abbrev pub invariant-loop-place : goal.invariant-loop-place
invariant-loop-place l = Seeded l.labels.items (steps l.raw l.labels.items l.place) l.fn.seeds.items l.seeds.items
