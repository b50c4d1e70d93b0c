use Rattle.std.proofs.Common.{◌≡◌, ◌≤◌, ◌<◌, ℕ, List, length, set, sym, subst, ◌∙◌, arith}
use Rattle.std.proofs.lemmas.List.{map-set}
use Rattle.cc_base.specs.declared.request.Grant.TheVariants.{Go, Value}
use Rattle.cc_kernel.proofs.Replies.{cut-zeros, of-innermost, of-others, state-reply, state-reply-none, value-cells-is}
use Rattle.cc_kernel.proofs.Outs.{outs-answered}
use Rattle.cc_kernel.proofs.Resting.{rest-answered, rest-ready}
use Rattle.cc_kernel.specs.Resting.{RestsSo}
use Rattle.cc_kernel.specs.Store.{contents}
use Rattle.cc_kernel.specs.Seats.{is_out, seat_at, with_ready}
use Rattle.cc_kernel.specs.declared.seat.Seat.{Seat}
use Rattle.cc_base.specs.Grants.{value_cells}
use Rattle.cc_kernel.specs.Stacks.{served_by}
use Rattle.cc_kernel.proofs.perform.reply.Goals as goal

pub returns-in_default-clause-state : goal.returns-in_default-clause-state
returns-in_default-clause-state g c s asked extra e all k is =
    rw (c.put_ready.ensures.items, c.in_default.ensures.call.0)
    (state-reply-none (g.B.Behave.means c.args.code.now) (g.B.Behave.at c.args.code.now) s (contents c.args.store.now) c.args.pid.0 c.args.process asked
    k c.requires.running c.requires.within c.in_default.ensures.call.1 is)

pub returns-in_default-clause-outs : goal.returns-in_default-clause-outs
returns-in_default-clause-outs g c =
    rw c.put_ready.ensures.items (map-set is_out c.args.store.now.seats.items c.args.pid.0 (with_ready c.args.process Go))

pub shape-requires : goal.shape-requires
shape-requires g c = of-innermost (λ call. call.trans < length (g.B.Behave.means c.args.code.now).shapes) _ _ _ _ c.in-Some.ensures.call c.requires.known

pub returns-clause-state : goal.returns-clause-state
returns-clause-state g c s asked extra e all k is =
    let m = g.B.Behave.means c.args.code.now in
    let n : value_cells (g.B.Behave.means c.args.code.now) c.in-Some.call.trans ≡ c.shape.result.value =
    value-cells-is (g.B.Behave.means c.args.code.now) c.in-Some.call.trans c.shape.result c.shape.ensures in
    let few : value_cells (g.B.Behave.means c.args.code.now) c.in-Some.call.trans ≤ extra =
    of-innermost (λ call. value_cells (g.B.Behave.means c.args.code.now) call.trans ≤ extra) _ _ _ _ c.in-Some.ensures.call all in
    rw (c.answer.ensures, c.put_ready.ensures.items, c.cut.ensures, e, ← n, cut-zeros (value_cells (g.B.Behave.means c.args.code.now) c.in-Some.call.trans) asked extra (value_cells (g.B.Behave.means c.args.code.now) c.in-Some.call.trans) few (omega arith))
    (state-reply (g.B.Behave.means c.args.code.now) (g.B.Behave.at c.args.code.now) s (contents c.args.store.now) c.args.pid.0 c.args.process asked
    c.in-Some.call (served_by c.take_innermost.new.self)
    k c.requires.running c.requires.within c.in-Some.ensures.call is)

pub returns-clause-outs : goal.returns-clause-outs
returns-clause-outs g c =
    rw (c.answer.ensures, c.put_ready.ensures.items)
    (outs-answered (set c.args.store.now.seats.items c.args.pid.0 (with_ready c.args.process Go)) c.in-Some.call (Value c.cut.new.self)
    ∙ map-set is_out c.args.store.now.seats.items c.args.pid.0 (with_ready c.args.process Go))

pub returns-in_default-clause-rest : goal.returns-in_default-clause-rest
returns-in_default-clause-rest g c all =
    let m = g.B.Behave.means c.args.code.now in
    let x = contents c.args.store.now in
    let F : List (Seat g.row.B-Proc.Denot) → Type 0 = λ seats. (p : ℕ) → RestsSo m p (seat_at seats p).standing x.pending in
    subst F (sym c.put_ready.ensures.items) (rest-ready m x.seats x.pending c.args.pid.0 c.args.process Go all)

pub returns-clause-rest : goal.returns-clause-rest
returns-clause-rest g c all =
    let m = g.B.Behave.means c.args.code.now in
    let x = contents c.args.store.now in
    let F : List (Seat g.row.B-Proc.Denot) → Type 0 = λ seats. (p : ℕ) → RestsSo m p (seat_at seats p).standing x.pending in
    subst F (sym c.answer.ensures)
    (rest-answered m c.put_ready.new.self.items x.pending c.in-Some.call (Value c.cut.new.self)
    (subst F (sym c.put_ready.ensures.items) (rest-ready m x.seats x.pending c.args.pid.0 c.args.process Go all)))

pub returns-in_default-clause-cells : goal.returns-in_default-clause-cells
returns-in_default-clause-cells g c h = rw c.in_default.ensures.call.0 h

pub returns-clause-cells : goal.returns-clause-cells
returns-clause-cells g c h =
    let m = g.B.Behave.means c.args.code.now in
    of-others (λ call. value_cells m call.trans ≤ c.args.store.now.most) c.args.pid.0 c.in-Some.call (served_by c.args.store.now.served) (served_by c.take_innermost.new.self) c.in-Some.ensures.call h
