use Rattle.std.proofs.Common.{refl, subst}
use Rattle.std.proofs.lemmas.List.{get_or_read}
use Rattle.cc_kernel.proofs.Counted.{kept-set, waits-not-ready}
use Rattle.cc_kernel.specs.Counted.{HasMoved}
use Rattle.cc_kernel.specs.Seats.{seat_at, vacant, with_left}
use Rattle.cc_kernel.specs.declared.seat.Seat.{Seat}
use Rattle.cc_rules.specs.declared.process.ProcessStanding.TheVariants.{Ended}
use Rattle.cc_kernel.proofs.seats.Seats.end.Goals as goal

pub invariant_of-self : goal.invariant_of-self
invariant_of-self g c =
    let k = c.self.inside in
    let within = rw (← c.self.view_is) at c.requires.within in
    let old = get_or_read k.items.items c.args.at c.index.result.now within c.index.ensures vacant in
    let F : Seat g.row.P.Denot → Type 0 = λ seat. HasMoved seat.standing Ended k.counts c.change.new.self in
    kept-set k.items.items k.counts c.change.new.self k.ready.items k.ready.items k.spare _ _ c.args.at (with_left Ended)
    c.self.invariant within
    (waits-not-ready (seat_at k.items.items c.args.at) (c.self.invariant.agree c.args.at) (rw (← c.self.view_is) at c.requires.waits))
    refl
    (subst F old c.change.ensures)
    refl
