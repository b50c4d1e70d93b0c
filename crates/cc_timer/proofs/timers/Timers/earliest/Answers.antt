use Rattle.std.proofs.Common.{◌≡◌, Some, sym, ◌∙◌, subst}
use Rattle.cc_timer.specs.Deadlines.{Deadlines, IsFirst, first}
use Rattle.cc_timer.proofs.Order.{head_is_first}
use Rattle.cc_timer.proofs.timers.Timers.earliest.Goals as goal

pub returns : goal.returns
returns c =
    let is : first c.self.inside.tree ≡ Some (c.in_ok-moment.moment, c.in_ok-moment._who) = sym c.first.ensures ∙ c.in_ok-moment.was in
    let P : Deadlines → Type 0 = λ v. IsFirst (c.in_ok-moment.moment, c.in_ok-moment._who) v.pairs in
    (c.in_ok-moment._who, subst P c.self.view_is (head_is_first _ c.self.inside.tree c.self.invariant.0 is))
