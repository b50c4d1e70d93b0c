use Rattle.std.proofs.Common.{sym, ◌∙◌}
use Rattle.cc_kernel.proofs.Least.{none-stands}
use Rattle.cc_kernel.proofs.Stands.{never-idle, other-count, same-count, shape-ended, shape-going, shape-resting, shape-spent, some-running, stands-as}
use Rattle.cc_rules.proofs.SoundRun.{Sound-run}
use Rattle.cc_kernel.specs.Store.{contents}
use Rattle.cc_rules.specs.Runs.{state_after, turns}
use Rattle.cc_kernel.proofs.kernel.Kernel.state.Goals as goal

pub returns-then-all_over-clause-standing : goal.returns-then-all_over-clause-standing
returns-then-all_over-clause-standing g c =
    let k = c.self.inside in
    let m = g.B.Behave.means c.self.inside.code.value in
    rw (← c.self.view_is)
    (sym
    (stands-as (g.B.Behave.at k.code.value) (g.B.Behave.means k.code.value) (state_after (g.B.Behave.means k.code.value) k.store.input k.journal.items) (contents k.store) (turns k.journal.items) k.turns
    c.self.invariant.state c.self.invariant.quiet
    ∙ shape-ended _ _ _ _ c.some_faulted.result _ (sym c.all_over.ensures ∙ c.if-all_over.true) (sym c.some_faulted.ensures)))

pub returns-then-not-some_running-clause-standing : goal.returns-then-not-some_running-clause-standing
returns-then-not-some_running-clause-standing g c =
    let k = c.self.inside in
    c.at_rest.ensures
    ∙ rw (← c.self.view_is)
    (sym
    (stands-as (g.B.Behave.at k.code.value) (g.B.Behave.means k.code.value) (state_after (g.B.Behave.means k.code.value) k.store.input k.journal.items) (contents k.store) (turns k.journal.items) k.turns
    c.self.invariant.state c.self.invariant.quiet
    ∙ shape-resting _ _ _ _ _ (sym c.all_over.ensures ∙ c.if-all_over.false) (sym c.some_running.ensures ∙ c.if-not-some_running.true)))

pub returns-then-not-some_running-clause-untimed : goal.returns-then-not-some_running-clause-untimed
returns-then-not-some_running-clause-untimed g c untimed until is =
    let k = c.self.inside in
    let m = g.B.Behave.means k.code.value in
    let asks = rw (← c.self.view_is) at untimed in
    let rests = rw (← c.self.view_is) at c.at_rest.ensures in
    never-idle _ _ until
    (none-stands m asks (state_after m k.store.input k.journal.items)
    (Sound-run m k.store.input k.journal.items (g.met.B.Behave.well_formed k.code.value) c.self.invariant.runs))
    (sym rests ∙ is)

pub returns-then-self-clause-standing : goal.returns-then-self-clause-standing
returns-then-self-clause-standing g c =
    let k = c.self.inside in
    rw (← c.self.view_is)
    (sym
    (stands-as (g.B.Behave.at k.code.value) (g.B.Behave.means k.code.value) (state_after (g.B.Behave.means k.code.value) k.store.input k.journal.items) (contents k.store) (turns k.journal.items) k.turns
    c.self.invariant.state c.self.invariant.quiet
    ∙ shape-spent _ _ _ _ _ (sym c.all_over.ensures ∙ c.if-all_over.false) (sym c.some_running.ensures ∙ c.if-not-some_running.false)
    (same-count k.spent k.turns (turns k.journal.items) c.self.invariant.spent_turns c.if-self.true)))

pub returns-clause-standing : goal.returns-clause-standing
returns-clause-standing g c =
    let k = c.self.inside in
    rw (← c.self.view_is)
    (sym
    (stands-as (g.B.Behave.at k.code.value) (g.B.Behave.means k.code.value) (state_after (g.B.Behave.means k.code.value) k.store.input k.journal.items) (contents k.store) (turns k.journal.items) k.turns
    c.self.invariant.state c.self.invariant.quiet
    ∙ shape-going _ _ _ _ _ (sym c.all_over.ensures ∙ c.if-all_over.false) (sym c.some_running.ensures ∙ c.if-not-some_running.false)
    (other-count k.spent k.turns (turns k.journal.items) c.self.invariant.spent_turns c.if-self.false)))

pub returns-clause-going : goal.returns-clause-going
returns-clause-going g c =
    let k = c.self.inside in
    λ going. rw (← c.self.view_is)
    (some-running (g.B.Behave.at k.code.value) (g.B.Behave.means k.code.value) k.store.input k.journal.items k.store.seats.items
    c.self.invariant.state.seated (sym c.some_running.ensures ∙ c.if-not-some_running.false))
