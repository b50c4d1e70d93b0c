use Rattle.std.proofs.Common.{arith, ℕ, ◌<◌, List, length, subst, sym, ap, ◌∙◌}
use Rattle.cc_kernel.proofs.Keeping.{all-served, kept-commit, legal-now}
use Rattle.cc_kernel.proofs.Known.{known-pending, known-served}
use Rattle.cc_kernel.proofs.Others.{others-stay, outs-run, prints-more, steps-on}
use Rattle.cc_kernel.proofs.Outs.{out-at, out-not-ready}
use Rattle.cc_kernel.proofs.Seated.{Seated-at, out-running, same-standing}
use Rattle.cc_kernel.proofs.Serving.{Rising-below}
use Rattle.cc_kernel.proofs.Stands.{below-allowed, going-left}
use Rattle.cc_kernel.specs.Store.{contents}
use Rattle.cc_kernel.proofs.Readying.{has-room}
use Rattle.cc_kernel.specs.Contract.{is_out_in}
use Rattle.cc_kernel.specs.Seats.{seat_at}
use Rattle.cc_base.specs.declared.request.Request.{Request}
use Rattle.cc_rules.specs.Effects.{effect}
use Rattle.cc_rules.specs.Events.{word_of}
use Rattle.cc_rules.specs.declared.process.TransactionCall.{TransactionCall}
use Rattle.std.specs.List.{All}
use Rattle.cc_rules.specs.Runs.{IsRun, state_after, turns}
use Rattle.cc_rules.specs.State.{is_running, process_at}
use Rattle.cc_kernel.proofs.kernel.Kernel.commit.Goals as goal

pub perform-bytes-requires-clause-ready : goal.perform-bytes-requires-clause-ready
perform-bytes-requires-clause-ready g c =
    (c.self.inside.journal.spare, rw (c.deref.ensures, c.replace-need.ensures.value) c.self.invariant.ready)

pub perform-bytes-requires-clause-timed : goal.perform-bytes-requires-clause-timed
perform-bytes-requires-clause-timed g c = c.self.invariant.state.timed

pub perform-bytes-requires-clause-known : goal.perform-bytes-requires-clause-known
perform-bytes-requires-clause-known g c =
    let k = c.self.inside in
    rw c.deref.ensures
    (all-served (λ call. call.trans < length (g.B.Behave.means k.code.value).shapes) (g.B.Behave.at k.code.value)
    (state_after (g.B.Behave.means k.code.value) k.store.input k.journal.items) (contents k.store) c.self.invariant.state
    (known-served (g.B.Behave.means k.code.value)
    (g.met.B.Behave.well_formed k.code.value) k.store.input k.journal.items c.self.invariant.runs))

pub perform-bytes-requires-clause-idle : goal.perform-bytes-requires-clause-idle
perform-bytes-requires-clause-idle g c =
    let out = rw (← c.self.view_is) at c.requires.out in
    out-not-ready c.self.inside.store.seats.items c.args.pid.0 out.0

-- each pending call has a number that was drawn
pub perform-bytes-requires-clause-last : goal.perform-bytes-requires-clause-last
perform-bytes-requires-clause-last g c =
    let k = c.self.inside in
    let s = state_after (g.B.Behave.means k.code.value) k.store.input k.journal.items in
    let st = c.self.invariant.state in
    rw (st.pending, st.drawn) (Rising-below 0 s.pending s.drawn st.rising)

pub perform-bytes-requires-clause-running : goal.perform-bytes-requires-clause-running
perform-bytes-requires-clause-running g c =
    let k = c.self.inside in
    let s = state_after (g.B.Behave.means k.code.value) k.store.input k.journal.items in
    let seated = c.self.invariant.state.seated in
    let out = rw (← c.self.view_is) at c.requires.out in
    ap is_running (same-standing (g.B.Behave.at k.code.value) s.processes k.store.seats.items c.args.pid.0 seated)
    ∙ outs-run (g.B.Behave.at k.code.value) s.processes k.store.seats.items seated c.args.pid.0 out.0

pub settle-requires-clause-state : goal.settle-requires-clause-state
settle-requires-clause-state g c =
    let k = c.self.inside in
    let m = g.B.Behave.means k.code.value in
    let s = state_after m k.store.input k.journal.items in
    let out = rw (← c.self.view_is) at c.requires.out in
    let served = rw c.deref.ensures at c.perform-bytes.ensures.state in
    rw c.deref-2.ensures (effect m s c.args.pid c.args.request, served s c.self.invariant.state out.1)

pub settle-requires-clause-events : goal.settle-requires-clause-events
settle-requires-clause-events g c =
    let k = c.self.inside in
    let prepared = rw (← c.self.view_is) at c.requires.prepared in
    let room = has-room (g.B.Behave.means k.code.value) (g.B.Behave.at k.code.value) k.store k.journal.spare k.need c.args.request prepared c.self.invariant.ready in
    let a = c.add.ensures.spare in
    let r = room.0 in
    let d = c.perform-bytes.ensures.deadlines in
    omega (arith, a, r, d)

pub settle-requires-clause-room : goal.settle-requires-clause-room
settle-requires-clause-room g c =
    let k = c.self.inside in
    let prepared = rw (← c.self.view_is) at c.requires.prepared in
    let room = has-room (g.B.Behave.means k.code.value) (g.B.Behave.at k.code.value) k.store k.journal.spare k.need c.args.request prepared c.self.invariant.ready in
    let p = c.perform-bytes.ensures.room in
    let r = room.1 in
    omega (arith, p, r)

pub settle-requires-clause-known : goal.settle-requires-clause-known
settle-requires-clause-known g c =
    let k = c.self.inside in
    let m = g.B.Behave.means k.code.value in
    let s = state_after m k.store.input k.journal.items in
    let inv = c.self.invariant in
    let out = rw (← c.self.view_is) at c.requires.out in
    let asks = rw (← c.self.view_is) at c.requires.asks in
    let there = out-at k.store.seats.items c.args.pid.0 out.0 in
    let running =
    out-running (g.B.Behave.at k.code.value) (process_at s.processes c.args.pid.0) (seat_at k.store.seats.items c.args.pid.0)
    (Seated-at (g.B.Behave.at k.code.value) s.processes k.store.seats.items c.args.pid.0 there.0 inv.state.seated)
    there.1 in
    let served = rw c.deref.ensures at c.perform-bytes.ensures.state in
    let asked = served s inv.state out.1 in
    let F : Request → Type 0 = λ r. All (λ (call : TransactionCall). call.trans < length m.shapes) (effect m s c.args.pid r).pending in
    let known =
    known-pending m (g.met.B.Behave.well_formed k.code.value) k.store.input k.journal.items inv.runs c.args.pid (word_of c.args.request)
    (legal-now m s c.args.pid c.args.request running asks) in
    rw (c.deref-2.ensures, asked.pending) (subst F (sym asks) known)

-- none but whom it rouses can take anything
pub settle-requires-clause-rest : goal.settle-requires-clause-rest
settle-requires-clause-rest g c =
    let rests = rw c.deref.ensures at c.perform-bytes.ensures.rest in
    rw (c.deref-2.ensures, c.roused_by-roused.ensures) (rests c.self.invariant.rest)

pub returns-clause-outs : goal.returns-clause-outs
returns-clause-outs g c p =
    let k = c.self.inside in
    let s = state_after (g.B.Behave.means k.code.value) k.store.input k.journal.items in
    let out = rw (← c.self.view_is) at c.requires.out in
    let served = rw c.deref.ensures at c.perform-bytes.ensures.state in
    let settled = rw c.deref-2.ensures at c.settle.ensures.outs in
    let asked = effect (g.B.Behave.means k.code.value) s c.args.pid c.args.request in
    rw (← c.self.view_is)
    (ap (λ xs. is_out_in xs p) (settled asked (served s c.self.invariant.state out.1)) ∙ c.perform-bytes.ensures.outs p)

pub invariant_of-self : goal.invariant_of-self
invariant_of-self g c =
    let k = c.self.inside in
    let inv = c.self.invariant in
    let out = rw (← c.self.view_is) at c.requires.out in
    let asks = rw (← c.self.view_is) at c.requires.asks in
    let going = rw (← c.self.view_is) at c.requires.going in
    let there = out-at k.store.seats.items c.args.pid.0 out.0 in
    let running =
    out-running (g.B.Behave.at k.code.value)
    (process_at (state_after (g.B.Behave.means k.code.value) k.store.input k.journal.items).processes c.args.pid.0)
    (seat_at k.store.seats.items c.args.pid.0)
    (Seated-at (g.B.Behave.at k.code.value) (state_after (g.B.Behave.means k.code.value) k.store.input k.journal.items).processes k.store.seats.items c.args.pid.0 there.0 inv.state.seated)
    there.1 in
    let left =
    below-allowed k.spent (turns k.journal.items) k.turns inv.spent_turns inv.within
    (going-left (g.B.Behave.at k.code.value) (g.B.Behave.means k.code.value) (state_after (g.B.Behave.means k.code.value) k.store.input k.journal.items) (contents k.store)
    (turns k.journal.items) k.turns inv.state inv.quiet going) in
    let served = rw c.deref.ensures at c.perform-bytes.ensures.state in
    let settles = rw (c.deref-2.ensures, c.add.ensures.items, c.of-word.ensures.word) at c.settle.ensures.settles in
    rw c.replace-need.ensures.after
    (kept-commit (g.B.Behave.means k.code.value) (g.B.Behave.at k.code.value)
    k.turns k.spent k.journal.items c.settle.new.journal.items k.journal.spare c.settle.new.journal.spare
    k.store c.perform-bytes.new.store c.settle.new.store k.need k.faults c.args.pid c.args.request
    inv running asks left
    c.perform-bytes.ensures.drawn
    c.settle.ensures.drawn
    (c.settle.ensures.input ∙ c.perform-bytes.ensures.input)
    (served (state_after (g.B.Behave.means k.code.value) k.store.input k.journal.items) inv.state out.1)
    (rw c.deref-2.ensures at c.settle.ensures.rest)
    ((rw c.deref-2.ensures at c.settle.ensures.cells) ((rw c.deref.ensures at c.perform-bytes.ensures.cells) inv.cells))
    settles)

pub returns-clause-runs : goal.returns-clause-runs
returns-clause-runs g c = (invariant_of-self g c).runs

pub returns-clause-settled : goal.returns-clause-settled
returns-clause-settled g c = (invariant_of-self g c).settled

pub returns-clause-within : goal.returns-clause-within
returns-clause-within g c =
    let store = invariant_of-self g c in
    omega (arith, store.spent_turns, store.within)

-- the journal goes on with what is asked
pub returns-clause-steps : goal.returns-clause-steps
returns-clause-steps g c =
    let k = c.self.inside in
    let m = g.B.Behave.means k.code.value in
    let located = g.B.Behave.at k.code.value in
    let s = state_after m k.store.input k.journal.items in
    let out = rw (← c.self.view_is) at c.requires.out in
    let asks = rw (← c.self.view_is) at c.requires.asks in
    let served = rw c.deref.ensures at c.perform-bytes.ensures.state in
    let settles = rw (c.deref-2.ensures, c.add.ensures.items, c.of-word.ensures.word) at c.settle.ensures.settles in
    rw (← c.self.view_is)
    (steps-on m located s k.journal.items c.settle.new.journal.items (contents c.perform-bytes.new.store) (contents c.settle.new.store) c.args.pid c.args.request
    asks (served s c.self.invariant.state out.1) settles)

pub returns-clause-printed : goal.returns-clause-printed
returns-clause-printed g c =
    let k = c.self.inside in
    let m = g.B.Behave.means k.code.value in
    let steps = rw (← c.self.view_is) at (returns-clause-steps g c) in
    let asks = rw (← c.self.view_is) at c.requires.asks in
    rw (← c.self.view_is, c.settle.ensures.input, c.perform-bytes.ensures.input)
    (prints-more m k.store.input k.journal.items c.settle.new.journal.items c.args.pid c.args.request steps asks)

pub returns-clause-others : goal.returns-clause-others
returns-clause-others g c q other out =
    let k = c.self.inside in
    let m = g.B.Behave.means k.code.value in
    let inv = c.self.invariant in
    let steps = rw (← c.self.view_is) at (returns-clause-steps g c) in
    let there = rw (← c.self.view_is) at out in
    let same = c.settle.ensures.input ∙ c.perform-bytes.ensures.input in
    let F : List ℕ → Type 0 = λ input. IsRun m input c.settle.new.journal.items in
    let runs = subst F same (invariant_of-self g c).runs in
    rw (← c.self.view_is, same)
    (others-stay m k.store.input k.journal.items c.settle.new.journal.items c.args.pid q c.args.request steps runs other
    (outs-run (g.B.Behave.at k.code.value) (state_after m k.store.input k.journal.items).processes k.store.seats.items inv.state.seated q.0 there))
