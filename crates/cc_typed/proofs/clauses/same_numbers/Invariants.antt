use Rattle.std.proofs.Common.{◌≡◌, drop}
use Rattle.cc_typed.specs.Clauses.{are_numbers}
use Rattle.cc_typed.proofs.clauses.same_numbers.Given as goal

abbrev pub invariant-loop-at : goal.invariant-loop-at
invariant-loop-at l = are_numbers (drop l.at l.xs) (drop l.at l.ys) ≡ are_numbers l.xs l.ys
