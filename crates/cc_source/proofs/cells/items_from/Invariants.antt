use Rattle.std.proofs.Common.{◌≡◌, ◌++◌, drop}
use Rattle.cc_source.proofs.cells.items_from.Given as goal

abbrev pub invariant-loop-at : goal.invariant-loop-at
invariant-loop-at l = l.all ++ drop l.at l.cells ≡ l.cells
