use Rattle.std.proofs.Common.{◌≡◌, ◌+◌, ◌≤◌, drop}
use Rattle.cc_typed.specs.Table.{cells_in_all}
use Rattle.cc_declared.proofs.sums.are_within.Given as goal

abbrev pub invariant-loop-t : goal.invariant-loop-t
invariant-loop-t l = (l.sum + cells_in_all l.structures (drop l.t-index l.types) ≡ cells_in_all l.structures l.types) × l.sum ≤ l.most
