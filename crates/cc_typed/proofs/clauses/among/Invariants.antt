use Rattle.std.proofs.Common.{◌≡◌, drop}
use Rattle.cc_typed.specs.Clauses.{is_among}
use Rattle.cc_typed.proofs.clauses.among.Given as goal

abbrev pub invariant-loop-x : goal.invariant-loop-x
invariant-loop-x l = is_among (drop l.x-index l.seen) l.variable ≡ is_among l.seen l.variable
