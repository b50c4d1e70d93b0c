use Rattle.std.proofs.Common.{◌≡◌, ℕ, ◌<◌, Some, All, sym, ◌∙◌, subst}
use Rattle.cc_timer.specs.Deadlines.{Deadlines, IsFirst, first}
use Rattle.cc_timer.specs.declared.who.Who.{Who}
use Rattle.cc_timer.proofs.Order.{head_is_first, none_due}
use Rattle.cc_timer.proofs.timers.Timers.first_due.Goals as goal

pub returns-in-Some-clause-first : goal.returns-in-Some-clause-first
returns-in-Some-clause-first c =
    let is : first c.self.inside.tree ≡ Some (c.in-Some.moment, c.in-Some.who) = sym c.first.ensures ∙ c.in-Some.is in
    let P : Deadlines → Type 0 = λ v. IsFirst (c.in-Some.moment, c.in-Some.who) v.pairs in
    (c.in-Some.moment, c.if-moment-now.true, subst P c.self.view_is (head_is_first _ c.self.inside.tree c.self.invariant.0 is))

pub returns-in_default-clause-none : goal.returns-in_default-clause-none
returns-in_default-clause-none c =
    let is : first c.self.inside.tree ≡ Some (c.in-Some.moment, c.in-Some.who) = sym c.first.ensures ∙ c.in-Some.is in
    let P : Deadlines → Type 0 = λ v. All (λ (d : ℕ × Who). c.args.now < d.0) v.pairs in
    subst P c.self.view_is (none_due _ c.self.inside.tree c.args.now c.self.invariant.0 is c.if-moment-now.false)
