use Rattle.std.proofs.Common.{◌≡◌, ◌∙◌, sym, subst, arith}
use Rattle.cc_timer.specs.Deadlines.{with_deadline, AreInOrder}
use Rattle.cc_timer.proofs.Order.{with_in_order}
use Rattle.cc_timer.proofs.timers.Timers.add.Goals as goal

pub invariant_of-self : goal.invariant_of-self
invariant_of-self c =
    let order = subst AreInOrder (sym c.replace.ensures.value) c.self.invariant.0 in
    (subst AreInOrder (sym c.insert.ensures) (with_in_order _ _ order), omega (arith, c.in-Some.ensures.cases, c.self.invariant.1))
