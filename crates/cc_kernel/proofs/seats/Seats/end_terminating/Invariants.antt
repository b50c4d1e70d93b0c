use Rattle.std.proofs.Common.{◌≡◌}
use Rattle.cc_kernel.proofs.Walking.{walked}
use Rattle.cc_kernel.specs.Counted.{ended_seat}
use Rattle.cc_kernel.specs.Seats.{vacant}
use Rattle.cc_kernel.proofs.seats.Seats.end_terminating.Given as goal

abbrev pub invariant-loop-at : goal.invariant-loop-at
invariant-loop-at g l = l.self.items ≡ walked vacant ended_seat 0 l.at l.initial.self.items
