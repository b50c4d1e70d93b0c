use Rattle.std.proofs.Common.{◌≡◌, false, replicate}
use Rattle.cc_typed.proofs.accepts.unseen.Given as goal

abbrev pub invariant-loop-at : goal.invariant-loop-at
invariant-loop-at l = l.seen ≡ replicate l.at false
