use Rattle.std.proofs.Common.{◌≡◌, ◌++◌, drop}
use Rattle.cc_source.proofs.cells.append.Given as goal

abbrev pub invariant-loop-cell : goal.invariant-loop-cell
invariant-loop-cell l = l.all ++ drop l.cell-index l.more ≡ l.fn.all ++ l.more
