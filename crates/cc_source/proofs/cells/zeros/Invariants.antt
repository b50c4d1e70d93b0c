use Rattle.std.proofs.Common.{◌≡◌, pos, replicate}
use Rattle.cc_source.proofs.cells.zeros.Given as goal

abbrev pub invariant-loop-at : goal.invariant-loop-at
invariant-loop-at l = l.all ≡ replicate l.at (pos 0)
