use Rattle.std.proofs.Common.{inl, ap, false, refl}
use Rattle.std.proofs.lemmas.List.{map-set}
use Rattle.cc_kernel.proofs.Keeping.{kept-out, kept-ready}
use Rattle.cc_kernel.proofs.Known.{ready-next}
use Rattle.cc_kernel.proofs.Outs.{in-at, out-set}
use Rattle.cc_kernel.proofs.Seated.{all-out}
use Rattle.cc_kernel.proofs.Stands.{other-count, running-goes}
use Rattle.cc_kernel.specs.Invariant.{prepared_for}
use Rattle.cc_kernel.specs.Store.{contents}
use Rattle.cc_kernel.specs.Seats.{is_out, whereabouts_out, seat_at, with_out}
use Rattle.cc_rules.specs.Runs.{state_after, turns}
use Rattle.cc_kernel.proofs.kernel.Kernel.pick.Goals as goal

pub returns-in_default-clause-none : goal.returns-in_default-clause-none
returns-in_default-clause-none g c =
    let k = c.self.inside in
    rw (← c.self.view_is)
    (inl
    (all-out (g.B.Behave.at k.code.value)
    (state_after (g.B.Behave.means k.code.value) k.store.input k.journal.items).processes
    k.store.seats.items c.self.invariant.state.seated c.in_default.ensures.whereabouts.1))

pub invariant_of-self-2 : goal.invariant_of-self-2
invariant_of-self-2 g c =
    let k = c.self.inside in
    kept-out (g.B.Behave.means k.code.value) (g.B.Behave.at k.code.value)
    k.turns k.spent k.journal.items k.journal.spare k.store k.need k.faults c.take_first.new.self
    c.in-Some.at c.in-Some.process c.in-Some.grant
    c.self.invariant
    c.in-Some.ensures.whereabouts.0
    c.in-Some.ensures.whereabouts.1
    c.in-Some.ensures.whereabouts.2
    c.in-Some.ensures.spare

pub returns-clause-going : goal.returns-clause-going
returns-clause-going g c =
    let k = c.self.inside in
    rw (← c.self.view_is)
    (running-goes (g.B.Behave.at k.code.value) (g.B.Behave.means k.code.value)
    (state_after (g.B.Behave.means k.code.value) k.store.input k.journal.items) (contents k.store) (turns k.journal.items) k.turns c.in-Some.at
    c.self.invariant.state c.self.invariant.quiet
    (other-count k.spent k.turns (turns k.journal.items) c.self.invariant.spent_turns c.if-self.false)
    (kept-ready (g.B.Behave.means k.code.value) (g.B.Behave.at k.code.value)
    k.store.input k.journal.items k.store.seats.items c.in-Some.at c.in-Some.process c.in-Some.grant
    c.self.invariant.state.seated
    c.in-Some.ensures.whereabouts.0
    c.in-Some.ensures.whereabouts.1).0)

pub returns-clause-ready : goal.returns-clause-ready
returns-clause-ready g c =
    let k = c.self.inside in
    rw (← c.self.view_is)
    (ready-next (g.B.Behave.means k.code.value) (g.met.B.Behave.well_formed k.code.value) k.store.input k.journal.items c.self.invariant.runs
    (g.B.Behave.at k.code.value) c.in-Some.at c.in-Some.process c.in-Some.grant
    (kept-ready (g.B.Behave.means k.code.value) (g.B.Behave.at k.code.value)
    k.store.input k.journal.items k.store.seats.items c.in-Some.at c.in-Some.process c.in-Some.grant
    c.self.invariant.state.seated
    c.in-Some.ensures.whereabouts.0
    c.in-Some.ensures.whereabouts.1))

pub returns-clause-was_in : goal.returns-clause-was_in
returns-clause-was_in g c =
    rw (← c.self.view_is)
    (in-at c.self.inside.store.seats.items c.in-Some.at false c.in-Some.ensures.whereabouts.0 (ap whereabouts_out c.in-Some.ensures.whereabouts.1))

pub returns-clause-out : goal.returns-clause-out
returns-clause-out g c =
    let k = c.self.inside in
    rw (c.in-Some.ensures.whereabouts.2, ← c.self.view_is)
    (ap (λ xs. record { code = k.code.value; input = k.store.input; turns = k.turns; journal = k.journal.items; outs = xs; prepared = prepared_for k.need })
    (map-set is_out k.store.seats.items c.in-Some.at (with_out (seat_at k.store.seats.items c.in-Some.at))))

pub returns-clause-is_out : goal.returns-clause-is_out
returns-clause-is_out g c =
    rw c.in-Some.ensures.whereabouts.2
    (out-set c.self.inside.store.seats.items c.in-Some.at (with_out (seat_at c.self.inside.store.seats.items c.in-Some.at)) c.in-Some.ensures.whereabouts.0 refl)
