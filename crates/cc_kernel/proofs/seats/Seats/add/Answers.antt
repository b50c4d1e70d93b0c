use Rattle.std.proofs.Common.{◌≡◌, rules, refl, length}
use Rattle.cc_kernel.proofs.Counted.{kept-push}
use Rattle.cc_kernel.proofs.seats.Seats.add.Goals as goal

pub invariant_of-self : goal.invariant_of-self
invariant_of-self g c =
    let k = c.self.inside in
    let long : c.len.result ≡ length k.items.items = search rules in
    rw (c.push_reserved.ensures.items, c.push_reserved.ensures.capacity, c.push_back_reserved.ensures.items, c.push_back_reserved.ensures.capacity, long)
    (kept-push k.items.items k.counts _ k.ready.items k.spare _ _ c.args.process c.args.grant c.self.invariant
    (rw (← c.self.view_is) at c.requires.few)
    (rw (← c.self.view_is) at c.requires.room)
    refl)
