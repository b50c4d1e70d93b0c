use Rattle.std.proofs.Common.{◌≡◌, sym, subst}
use Rattle.cc_timer.specs.Deadlines.{without_deadline, AreInOrder}
use Rattle.cc_timer.proofs.Order.{without_in_order}
use Rattle.cc_timer.proofs.timers.Timers.remove.Goals as goal

pub invariant_of-self : goal.invariant_of-self
invariant_of-self c =
    let order = subst AreInOrder (sym c.replace.ensures.value) c.self.invariant.0 in
    (subst AreInOrder (sym c.remove.ensures) (without_in_order _ _ order), c.self.invariant.1)
