use Rattle.std.proofs.Common.{ap, ◌∙◌, nat_lt}
use Rattle.cc_kernel.proofs.Counted.{some-pass}
use Rattle.cc_kernel.specs.declared.seat.Seat.{Seat}
use Rattle.cc_rules.specs.State.{is_faulted}
use Rattle.cc_kernel.proofs.seats.Seats.some_faulted.Goals as goal

pub returns : goal.returns
returns g c =
    rw (← c.self.view_is)
    (ap (nat_lt 0) c.self.invariant.counted.faulted ∙ some-pass (λ (seat : Seat g.row.P.Denot). is_faulted seat.standing) c.self.inside.items.items)
