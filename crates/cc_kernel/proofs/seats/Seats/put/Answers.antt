use Rattle.std.proofs.Common.{subst}
use Rattle.std.proofs.lemmas.List.{get_or_read}
use Rattle.cc_kernel.proofs.Counted.{kept-set, list-room}
use Rattle.cc_kernel.specs.Counted.{HasMoved}
use Rattle.cc_kernel.specs.Seats.{vacant}
use Rattle.cc_kernel.specs.declared.seat.Seat.{Seat}
use Rattle.cc_kernel.proofs.seats.Seats.put.Goals as goal

pub list_where_ready-requires : goal.list_where_ready-requires
list_where_ready-requires g c =
    let k = c.self.inside in
    list-room k.items.items k.counts k.ready.items k.spare _ _ c.args.at c.self.invariant
    (rw (← c.self.view_is) at c.requires.within)
    (rw (← c.self.view_is) at c.requires.idle)

pub invariant_of-self : goal.invariant_of-self
invariant_of-self g c =
    let k = c.self.inside in
    let within = rw (← c.self.view_is) at c.requires.within in
    let old = get_or_read k.items.items c.args.at c.index.result.now within c.index.ensures vacant in
    let F : Seat g.row.P.Denot → Type 0 = λ seat. HasMoved seat.standing c.args.seat.standing k.counts c.change.new.self in
    rw c.list_where_ready.ensures.capacity
    (kept-set k.items.items k.counts c.change.new.self k.ready.items c.list_where_ready.new.ready.items k.spare _ _ c.args.at c.args.seat
    c.self.invariant within
    (rw (← c.self.view_is) at c.requires.idle)
    c.requires.agrees
    (subst F old c.change.ensures)
    c.list_where_ready.ensures.items)
