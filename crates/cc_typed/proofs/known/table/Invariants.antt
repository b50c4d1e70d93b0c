use Rattle.std.proofs.Common.{◌≡◌, drop}
use Rattle.cc_typed.specs.Table.{are_structures}
use Rattle.cc_typed.proofs.known.table.Given as goal

abbrev pub invariant-loop-number : goal.invariant-loop-number
invariant-loop-number l =
    are_structures l.structures l.number (drop l.number l.structures) ≡ are_structures l.structures 0 l.structures
