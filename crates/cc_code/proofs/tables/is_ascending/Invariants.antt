use Rattle.cc_code.proofs.Ascending.{RisesBelow}
use Rattle.cc_code.proofs.tables.is_ascending.Given as goal

abbrev pub invariant-loop-at : goal.invariant-loop-at
invariant-loop-at l = RisesBelow l.table l.at
