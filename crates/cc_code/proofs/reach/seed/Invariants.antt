use Rattle.std.proofs.Common.{take}
use Rattle.cc_code.specs.Reach.{Grown}
use Rattle.cc_code.proofs.reach.seed.Given as goal

abbrev pub invariant-loop-start : goal.invariant-loop-start
invariant-loop-start l = Grown (take l.start-index l.starts) l.fn.labels.items l.fn.work.items l.labels.items l.work.items
