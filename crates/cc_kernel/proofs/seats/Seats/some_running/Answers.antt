use Rattle.std.proofs.Common.{ap, ◌∙◌, nat_lt}
use Rattle.cc_kernel.proofs.Counted.{some-pass}
use Rattle.cc_kernel.specs.declared.seat.Seat.{Seat}
use Rattle.cc_rules.specs.State.{is_running}
use Rattle.cc_kernel.proofs.seats.Seats.some_running.Goals as goal

pub returns : goal.returns
returns g c =
    rw (← c.self.view_is)
    (ap (nat_lt 0) c.self.invariant.counted.running ∙ some-pass (λ (seat : Seat g.row.P.Denot). is_running seat.standing) c.self.inside.items.items)
