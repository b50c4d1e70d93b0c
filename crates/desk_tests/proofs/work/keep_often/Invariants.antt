use Rattle.std.proofs.Common.{◌≡◌, None}
use Rattle.desk_tests.proofs.work.keep_often.Given as goal

abbrev pub invariant-loop : goal.invariant-loop
invariant-loop g l = (l.seat.turn ≡ None) × (l.seat.out ≡ None) × (l.seat.desk ≡ l.desk)
