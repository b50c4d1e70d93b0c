use Rattle.std.proofs.Common.{◌≤◌, ap, sym, ◌∙◌, arith, not}
use Rattle.std.specs.Prelude.{is_some}
use Rattle.cc_kernel.proofs.Least.{earliest-is}
use Rattle.cc_kernel.proofs.Moments.{allowed-is, later-allowed, now-refused, over-refused, resting-allowed}
use Rattle.cc_kernel.specs.Store.{contents}
use Rattle.cc_rules.specs.Runs.{state_after}
use Rattle.cc_kernel.proofs.kernel.Kernel.time_allowed.Goals as goal

pub returns-then-all_over : goal.returns-then-all_over
returns-then-all_over g c =
    let k = c.self.inside in
    let m = g.B.Behave.means k.code.value in
    let s = state_after m k.store.input k.journal.items in
    record {
      allowed =
          rw (← c.self.view_is)
          (sym
          (allowed-is (g.B.Behave.at k.code.value) m s (contents k.store) c.args.moment c.self.invariant.state c.self.invariant.quiet
          ∙ over-refused _ _ _ _ _ _ (sym c.all_over.ensures ∙ c.if-all_over.true)));
    }

pub returns-then-not-some_running : goal.returns-then-not-some_running
returns-then-not-some_running g c =
    let k = c.self.inside in
    let m = g.B.Behave.means k.code.value in
    let s = state_after m k.store.input k.journal.items in
    let past = c.if-moment-self.false in
    let reached : k.store.moment ≤ c.args.moment = omega (arith, past) in
    record {
      allowed =
          rw (← c.self.view_is)
          (c.is_some.ensures
          ∙ ap is_some (earliest-is (g.B.Behave.at k.code.value) s (contents k.store) _ c.self.invariant.state c.earliest.ensures)
          ∙ sym
          (allowed-is (g.B.Behave.at k.code.value) m s (contents k.store) c.args.moment c.self.invariant.state c.self.invariant.quiet
          ∙ resting-allowed c.args.moment k.store.moment _ _ _ _ _ reached (sym c.all_over.ensures ∙ c.if-all_over.false) (sym c.some_running.ensures ∙ c.if-not-some_running.true)));
    }

pub returns-then-moment-self-2 : goal.returns-then-moment-self-2
returns-then-moment-self-2 g c =
    let k = c.self.inside in
    let m = g.B.Behave.means k.code.value in
    let s = state_after m k.store.input k.journal.items in
    record {
      allowed =
          rw (← c.self.view_is)
          (sym
          (allowed-is (g.B.Behave.at k.code.value) m s (contents k.store) c.args.moment c.self.invariant.state c.self.invariant.quiet
          ∙ now-refused c.args.moment k.store.moment _ _ _ _ _ c.if-moment-self-2.true (sym c.some_running.ensures ∙ c.if-not-some_running.false)));
    }

pub returns : goal.returns
returns g c =
    let k = c.self.inside in
    let m = g.B.Behave.means k.code.value in
    let s = state_after m k.store.input k.journal.items in
    let past = c.if-moment-self.false in
    let reached : k.store.moment ≤ c.args.moment = omega (arith, past) in
    let after = rw (← c.self.view_is) at c.is_after_time.ensures in
    record {
      allowed =
          rw (← c.self.view_is)
          (ap not after
          ∙ sym
          (allowed-is (g.B.Behave.at k.code.value) m s (contents k.store) c.args.moment c.self.invariant.state c.self.invariant.quiet
          ∙ later-allowed c.args.moment k.store.moment _ _ _ _ reached c.if-moment-self-2.false (sym c.all_over.ensures ∙ c.if-all_over.false) (sym c.some_running.ensures ∙ c.if-not-some_running.false)));
    }
