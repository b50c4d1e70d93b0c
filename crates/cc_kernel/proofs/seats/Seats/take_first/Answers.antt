use Rattle.std.proofs.Common.{rules, refl, ap, sym, ◌∙◌}
use Rattle.std.proofs.lemmas.List.{get_or_read}
use Rattle.cc_kernel.proofs.Counted.{first-ready, kept-out, ready-at-hand}
use Rattle.cc_kernel.specs.Seats.{seat_at, vacant}
use Rattle.cc_kernel.specs.declared.seat.Seat.{Seat}
use Rattle.cc_kernel.proofs.seats.Seats.take_first.Goals as goal

pub index_mut-seat-requires : goal.index_mut-seat-requires
index_mut-seat-requires g c =
    let k = c.self.inside in
    let within = (first-ready k.items.items k.ready.items c.pop_front.new.self.items c.in-Some.at c.self.invariant.listed c.in-Some.ensures.items).1 in
    search (rules, within)

pub unreachable-requires : goal.unreachable-requires
unreachable-requires g c =
    let k = c.self.inside in
    let first = first-ready k.items.items k.ready.items c.pop_front.new.self.items c.in-Some.at c.self.invariant.listed c.in-Some.ensures.items in
    let was = get_or_read k.items.items c.in-Some.at c.index_mut-seat.result.now first.1 c.index_mut-seat.ensures.value vacant in
    ready-at-hand (seat_at k.items.items c.in-Some.at).whereabouts first.0
    (λ process grant e. c.in_default-replace.not-Ready process grant (c.replace.ensures.value ∙ ap (λ (x : Seat g.row.P.Denot). x.whereabouts) was ∙ e))

pub invariant_of-self-2 : goal.invariant_of-self-2
invariant_of-self-2 g c =
    let k = c.self.inside in
    let first = first-ready k.items.items k.ready.items c.pop_front.new.self.items c.in-Some.at c.self.invariant.listed c.in-Some.ensures.items in
    let was = get_or_read k.items.items c.in-Some.at c.index_mut-seat.result.now first.1 c.index_mut-seat.ensures.value vacant in
    rw (c.replace.ensures.after, ap (λ (x : Seat g.row.P.Denot). x.standing) was, c.in-Some.ensures.capacity)
    (kept-out k.items.items k.counts k.ready.items c.pop_front.new.self.items k.spare _ _ c.in-Some.at c.self.invariant c.in-Some.ensures.items)

pub returns-clause-whereabouts : goal.returns-clause-whereabouts
returns-clause-whereabouts g c =
    let k = c.self.inside in
    let first = first-ready k.items.items k.ready.items c.pop_front.new.self.items c.in-Some.at c.self.invariant.listed c.in-Some.ensures.items in
    let was = get_or_read k.items.items c.in-Some.at c.index_mut-seat.result.now first.1 c.index_mut-seat.ensures.value vacant in
    rw (← c.self.view_is) (
      first.1,
      ap (λ (x : Seat g.row.P.Denot). x.whereabouts) (sym was) ∙ sym c.replace.ensures.value ∙ c.in-Ready.is,
      rw (c.replace.ensures.after, ap (λ (x : Seat g.row.P.Denot). x.standing) was) refl,
    )
