use Rattle.std.proofs.Common.{◌≡◌, rules, ap, ◌∙◌, nat_eq, length}
use Rattle.cc_kernel.proofs.Counted.{all-pass}
use Rattle.cc_kernel.specs.declared.seat.Seat.{Seat}
use Rattle.cc_rules.specs.State.{is_over}
use Rattle.cc_kernel.proofs.seats.Seats.all_over.Goals as goal

pub returns : goal.returns
returns g c =
    let seats = c.self.inside.items.items in
    let long : c.len.result ≡ length seats = search rules in
    rw (← c.self.view_is)
    (ap (nat_eq c.self.inside.counts.over) long
    ∙ ap (λ n. nat_eq n (length seats)) c.self.invariant.counted.over
    ∙ all-pass (λ (seat : Seat g.row.P.Denot). is_over seat.standing) seats)
