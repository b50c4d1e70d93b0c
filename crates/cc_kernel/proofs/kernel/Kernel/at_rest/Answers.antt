use Rattle.std.proofs.Common.{ap, sym, ◌∙◌, None, Some}
use Rattle.std.specs.Prelude.{nat_eq}
use Rattle.cc_kernel.proofs.Least.{earliest-is}
use Rattle.cc_kernel.proofs.Stands.{other-count, same-count}
use Rattle.cc_kernel.specs.Store.{contents}
use Rattle.cc_kernel.specs.Timed.{resting_standing}
use Rattle.cc_rules.specs.Runs.{state_after, turns}
use Rattle.cc_kernel.proofs.kernel.Kernel.at_rest.Goals as goal

pub returns-in_default : goal.returns-in_default
returns-in_default g c =
    let k = c.self.inside in
    let m = g.B.Behave.means k.code.value in
    let s = state_after m k.store.input k.journal.items in
    rw (← c.self.view_is)
    (ap (resting_standing (nat_eq (turns k.journal.items) k.turns)) (earliest-is (g.B.Behave.at k.code.value) s (contents k.store) None c.self.invariant.state c.in_default.ensures))

pub returns-then-self : goal.returns-then-self
returns-then-self g c =
    let k = c.self.inside in
    let m = g.B.Behave.means k.code.value in
    let s = state_after m k.store.input k.journal.items in
    rw (← c.self.view_is)
    (ap (λ b. resting_standing b (Some c.in-Some.until)) (sym (same-count k.spent k.turns (turns k.journal.items) c.self.invariant.spent_turns c.if-self.true))
    ∙ ap (resting_standing (nat_eq (turns k.journal.items) k.turns)) (earliest-is (g.B.Behave.at k.code.value) s (contents k.store) (Some c.in-Some.until) c.self.invariant.state c.in-Some.ensures))

pub returns : goal.returns
returns g c =
    let k = c.self.inside in
    let m = g.B.Behave.means k.code.value in
    let s = state_after m k.store.input k.journal.items in
    rw (← c.self.view_is)
    (ap (λ b. resting_standing b (Some c.in-Some.until)) (sym (other-count k.spent k.turns (turns k.journal.items) c.self.invariant.spent_turns c.if-self.false))
    ∙ ap (resting_standing (nat_eq (turns k.journal.items) k.turns)) (earliest-is (g.B.Behave.at k.code.value) s (contents k.store) (Some c.in-Some.until) c.self.invariant.state c.in-Some.ensures))
