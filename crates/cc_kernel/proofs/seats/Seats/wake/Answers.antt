use Rattle.std.proofs.Common.{rules, subst, ap, ◌∙◌}
use Rattle.std.proofs.lemmas.List.{get_or_read}
use Rattle.cc_kernel.proofs.Counted.{kept-set, list-room, listed-woken, waits-not-ready, woken-agrees}
use Rattle.cc_kernel.specs.Counted.{HasMoved}
use Rattle.cc_kernel.specs.Seats.{seat_at, vacant, woken}
use Rattle.cc_kernel.specs.declared.seat.Seat.{Seat}
use Rattle.cc_rules.specs.declared.process.ProcessStanding.TheVariants.{Running}
use Rattle.cc_kernel.proofs.seats.Seats.wake.Goals as goal

pub push_back_reserved-requires : goal.push_back_reserved-requires
push_back_reserved-requires g c =
    let k = c.self.inside in
    let waits = rw (← c.self.view_is) at c.requires.waits in
    let room =
    list-room k.items.items k.counts k.ready.items k.spare _ _ c.args.at c.self.invariant
    (rw (← c.self.view_is) at c.requires.within)
    (waits-not-ready (seat_at k.items.items c.args.at) (c.self.invariant.agree c.args.at) waits) in
    search (rules, room)

pub invariant_of-self : goal.invariant_of-self
invariant_of-self g c =
    let k = c.self.inside in
    let within = rw (← c.self.view_is) at c.requires.within in
    let waits = rw (← c.self.view_is) at c.requires.waits in
    let old = get_or_read k.items.items c.args.at c.index.result.now within c.index.ensures vacant in
    let seat = seat_at k.items.items c.args.at in
    let F : Seat g.row.P.Denot → Type 0 = λ seat. HasMoved seat.standing Running k.counts c.change.new.self in
    let same = c.go_on.ensures ∙ ap (λ (x : Seat g.row.P.Denot). woken x c.args.grant) (get_or_read k.items.items c.args.at c.index_mut.result.now within c.index_mut.ensures.value vacant) in
    rw (same, c.push_back_reserved.ensures.capacity)
    (kept-set k.items.items k.counts c.change.new.self k.ready.items c.push_back_reserved.new.self.items k.spare _ _ c.args.at (woken seat c.args.grant)
    c.self.invariant within
    (waits-not-ready seat (c.self.invariant.agree c.args.at) waits)
    (woken-agrees seat c.args.grant (c.self.invariant.agree c.args.at) waits)
    (subst F old c.change.ensures)
    (c.push_back_reserved.ensures.items ∙ listed-woken seat c.args.grant (c.self.invariant.agree c.args.at) waits k.ready.items c.args.at))
