use Rattle.std.proofs.Common.{arith, sym, subst, ◌<◌, List, ℕ, length}
use Rattle.std.specs.List.{All}
use Rattle.cc_kernel.proofs.Keeping.{kept-time}
use Rattle.cc_kernel.proofs.Known.{known-now}
use Rattle.cc_kernel.proofs.Others.{all-stay, moves-on, outs-run, prints-none}
use Rattle.cc_kernel.proofs.Settling.{state-time}
use Rattle.cc_kernel.proofs.Stands.{below-allowed, still-left}
use Rattle.cc_kernel.specs.Store.{contents}
use Rattle.cc_rules.specs.Events.{next}
use Rattle.cc_rules.specs.Runs.{IsRun, state_after, turns}
use Rattle.cc_rules.specs.declared.event.Event.TheVariants.{Time}
use Rattle.cc_rules.specs.declared.process.TransactionCall.{TransactionCall}
use Rattle.cc_kernel.proofs.kernel.Kernel.at_moment.Goals as goal

pub settle-requires-clause-state : goal.settle-requires-clause-state
settle-requires-clause-state g c =
    let k = c.self.inside in
    let m = g.B.Behave.means k.code.value in
    let s = state_after m k.store.input k.journal.items in
    rw c.deref.ensures (next m s (Time c.args.moment), state-time m (g.B.Behave.at k.code.value) s (contents k.store) c.args.moment c.self.invariant.state)

pub settle-requires-clause-known : goal.settle-requires-clause-known
settle-requires-clause-known g c =
    let k = c.self.inside in
    let m = g.B.Behave.means k.code.value in
    let F : List TransactionCall → Type 0 = λ calls. All (λ (call : TransactionCall). call.trans < length m.shapes) calls in
    rw c.deref.ensures (subst F (sym c.self.invariant.state.pending) (known-now m (g.met.B.Behave.well_formed k.code.value) k.store.input k.journal.items c.self.invariant.runs))

pub invariant_of-self : goal.invariant_of-self
invariant_of-self g c =
    let k = c.self.inside in
    let m = g.B.Behave.means k.code.value in
    let located = g.B.Behave.at k.code.value in
    let inv = c.self.invariant in
    let s = state_after m k.store.input k.journal.items in
    let legal = rw (← c.self.view_is) at c.requires.legal in
    let left = rw (← c.self.view_is) at c.requires.left in
    let below =
    below-allowed k.spent (turns k.journal.items) k.turns inv.spent_turns inv.within
    (still-left located m s (contents k.store) (turns k.journal.items) k.turns inv.state inv.quiet left) in
    let settles = rw (c.deref.ensures, c.add.ensures.items) at c.settle.ensures.settles in
    kept-time m located k.turns k.spent k.journal.items c.settle.new.journal.items k.journal.spare c.settle.new.journal.spare
    k.store c.settle.new.store k.need k.faults c.args.moment
    inv legal below c.settle.ensures.drawn c.settle.ensures.input
    (rw c.deref.ensures at c.settle.ensures.rest)
    ((rw c.deref.ensures at c.settle.ensures.cells) inv.cells)
    settles

pub returns-clause-runs : goal.returns-clause-runs
returns-clause-runs g c = (invariant_of-self g c).runs

pub returns-clause-settled : goal.returns-clause-settled
returns-clause-settled g c = (invariant_of-self g c).settled

pub returns-clause-within : goal.returns-clause-within
returns-clause-within g c =
    let store = invariant_of-self g c in
    omega (arith, store.spent_turns, store.within)

pub returns-clause-steps : goal.returns-clause-steps
returns-clause-steps g c =
    let k = c.self.inside in
    let m = g.B.Behave.means k.code.value in
    let located = g.B.Behave.at k.code.value in
    let s = state_after m k.store.input k.journal.items in
    let settles = rw (c.deref.ensures, c.add.ensures.items) at c.settle.ensures.settles in
    rw (← c.self.view_is)
    (moves-on m located (next m s (Time c.args.moment)) k.journal.items c.settle.new.journal.items (contents (record k.store { moment = c.args.moment })) (contents c.settle.new.store) c.args.moment
    (state-time m located s (contents k.store) c.args.moment c.self.invariant.state) settles)

pub returns-clause-outs : goal.returns-clause-outs
returns-clause-outs g c =
    let k = c.self.inside in
    let m = g.B.Behave.means k.code.value in
    let located = g.B.Behave.at k.code.value in
    let s = state_after m k.store.input k.journal.items in
    let settled = rw c.deref.ensures at c.settle.ensures.outs in
    rw (← c.self.view_is) (settled (next m s (Time c.args.moment)) (state-time m located s (contents k.store) c.args.moment c.self.invariant.state))

pub returns-clause-printed : goal.returns-clause-printed
returns-clause-printed g c =
    let k = c.self.inside in
    let m = g.B.Behave.means k.code.value in
    let moves = rw (← c.self.view_is) at (returns-clause-steps g c) in
    rw (← c.self.view_is, c.settle.ensures.input) (prints-none m k.store.input k.journal.items c.settle.new.journal.items c.args.moment moves)

pub returns-clause-others : goal.returns-clause-others
returns-clause-others g c p out =
    let k = c.self.inside in
    let m = g.B.Behave.means k.code.value in
    let inv = c.self.invariant in
    let moves = rw (← c.self.view_is) at (returns-clause-steps g c) in
    let there = rw (← c.self.view_is) at out in
    let same = c.settle.ensures.input in
    let F : List ℕ → Type 0 = λ input. IsRun m input c.settle.new.journal.items in
    let runs = subst F same (invariant_of-self g c).runs in
    rw (← c.self.view_is, same)
    (all-stay m k.store.input k.journal.items c.settle.new.journal.items p c.args.moment moves runs
    (outs-run (g.B.Behave.at k.code.value) (state_after m k.store.input k.journal.items).processes k.store.seats.items inv.state.seated p.0 there))
