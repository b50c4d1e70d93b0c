use Rattle.std.proofs.Common.{take}
use Rattle.cc_code.specs.Checked.{Seeded}
use Rattle.cc_code.proofs.parts.seed_starts.Given as goal

abbrev pub invariant-loop-start : goal.invariant-loop-start
invariant-loop-start l = Seeded l.labels.items (take l.start-index l.starts) l.fn.seeds.items l.seeds.items
