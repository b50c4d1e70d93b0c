use Rattle.std.proofs.Common.{arith, ap, sym, subst, ◌∙◌, map}
use Rattle.cc_base.specs.declared.alternatives.Alt.{Alt}
use Rattle.cc_base.specs.declared.request.Grant.TheVariants.{Chose, Took}
use Rattle.cc_kernel.proofs.Outs.{outs-woken}
use Rattle.cc_kernel.proofs.Resting.{rest-accepted, rest-chose}
use Rattle.cc_kernel.proofs.Settling.{accepts-one, chooses-one, goes-waiting, takes-waiting, waits-within}
use Rattle.cc_kernel.proofs.Stacks.{within-same}
use Rattle.cc_kernel.proofs.Timed.{process-stands, shorter-without}
use Rattle.cc_kernel.specs.Timed.{deadline_of, without_some}
use Rattle.cc_timer.specs.declared.who.Who.TheVariants as who
use Rattle.cc_kernel.specs.Seats.{is_out, seat_at}
use Rattle.cc_kernel.specs.Resting.{AllRest}
use Rattle.cc_kernel.specs.Store.{Contents, contents}
use Rattle.cc_rules.specs.Choice.{call_deadline, is_chosen}
use Rattle.cc_kernel.specs.Stacks.{served_by}
use Rattle.cc_kernel.proofs.settle.take_one.Goals as goal

pub accept-requires-clause-waits : goal.accept-requires-clause-waits
accept-requires-clause-waits g c =
    let m = g.B.Behave.means c.args.code.now in
    let x = contents c.args.store.now in
    let can = rw c.in-Some-Call.field-0-is at c.in-Some-Call.ensures in
    takes-waiting (λ (a : Alt). is_chosen m c.args.pid.0 a x.pending can.0) (seat_at x.seats c.args.pid.0).standing c.in-Some-Call.alt can.2

pub accept-requires-clause-within : goal.accept-requires-clause-within
accept-requires-clause-within g c =
    let m = g.B.Behave.means c.args.code.now in
    let x = contents c.args.store.now in
    let can = rw c.in-Some-Call.field-0-is at c.in-Some-Call.ensures in
    waits-within x.seats c.args.pid.0
    (takes-waiting (λ (a : Alt). is_chosen m c.args.pid.0 a x.pending can.0) (seat_at x.seats c.args.pid.0).standing c.in-Some-Call.alt can.2).1

pub wake-requires-clause-waits : goal.wake-requires-clause-waits
wake-requires-clause-waits g c =
    let m = g.B.Behave.means c.args.code.now in
    let x = contents c.args.store.now in
    goes-waiting m c.args.pid.0 (seat_at x.seats c.args.pid.0).standing x.pending c.in-Some-AtOnce.alt (rw c.in-Some-AtOnce.field-0-is at c.in-Some-AtOnce.ensures)

pub wake-requires-clause-within : goal.wake-requires-clause-within
wake-requires-clause-within g c =
    let m = g.B.Behave.means c.args.code.now in
    let x = contents c.args.store.now in
    waits-within x.seats c.args.pid.0 (goes-waiting m c.args.pid.0 (seat_at x.seats c.args.pid.0).standing x.pending c.in-Some-AtOnce.alt (rw c.in-Some-AtOnce.field-0-is at c.in-Some-AtOnce.ensures)).1

pub accept-requires-clause-timed : goal.accept-requires-clause-timed
accept-requires-clause-timed g c = c.requires.state.1.timed

pub wake-requires-clause-stands : goal.wake-requires-clause-stands
wake-requires-clause-stands g c =
    let x = contents c.args.store.now in
    process-stands x.seats x.pending x.deadlines c.args.pid c.requires.state.1.timed

pub returns-in-Some-Call-clause-deadlines : goal.returns-in-Some-Call-clause-deadlines
returns-in-Some-Call-clause-deadlines g c =
    let x = contents c.args.store.now in
    let can = rw c.in-Some-Call.field-0-is at c.in-Some-Call.ensures in
    let own = shorter-without (call_deadline can.0.waiting) (who.Call can.0.number) x.deadlines in
    let rest = shorter-without (deadline_of (seat_at x.seats c.args.pid.0).standing) (who.Process c.args.pid) (without_some (call_deadline can.0.waiting) (who.Call can.0.number) x.deadlines) in
    rw (ap (λ y. y.deadlines) (c.accept.ensures.contents can.0 can.1)) (omega (arith, own, rest))

pub returns-in-Some-AtOnce-clause-deadlines : goal.returns-in-Some-AtOnce-clause-deadlines
returns-in-Some-AtOnce-clause-deadlines g c =
    let x = contents c.args.store.now in
    rw (ap (λ y. y.deadlines) c.wake.ensures.contents) (shorter-without (deadline_of (seat_at x.seats c.args.pid.0).standing) (who.Process c.args.pid) x.deadlines)

pub returns-in-Some-Call-clause-takes : goal.returns-in-Some-Call-clause-takes
returns-in-Some-Call-clause-takes g c s k =
    let m = g.B.Behave.means c.args.code.now in
    let can = rw c.in-Some-Call.field-0-is at c.in-Some-Call.ensures in
    rw (c.accept.ensures.contents can.0 can.1)
    (accepts-one m (g.B.Behave.at c.args.code.now) s (contents c.args.store.now) c.args.pid c.in-Some-Call.alt c.in-Some-Call.number can.0 k can.1 can.2)

pub returns-in-Some-Call-clause-rest : goal.returns-in-Some-Call-clause-rest
returns-in-Some-Call-clause-rest g c rest =
    let m = g.B.Behave.means c.args.code.now in
    let x = contents c.args.store.now in
    let can = rw c.in-Some-Call.field-0-is at c.in-Some-Call.ensures in
    let F : Contents g.row.B-Proc.Denot → Type 0 = λ y. AllRest m y in
    subst F (sym (c.accept.ensures.contents can.0 can.1))
    (rest-accepted m x c.args.pid c.in-Some-Call.alt can.0
    (waits-within x.seats c.args.pid.0
    (takes-waiting (λ (a : Alt). is_chosen m c.args.pid.0 a x.pending can.0) (seat_at x.seats c.args.pid.0).standing c.in-Some-Call.alt can.2).1)
    rest)

pub returns-in-Some-Call-clause-outs : goal.returns-in-Some-Call-clause-outs
returns-in-Some-Call-clause-outs g c =
    let x = contents c.args.store.now in
    let can = rw c.in-Some-Call.field-0-is at c.in-Some-Call.ensures in
    ap (λ y. map is_out y.seats) (c.accept.ensures.contents can.0 can.1) ∙ outs-woken x.seats c.args.pid.0 (Took c.in-Some-Call.alt can.0.args)

pub returns-in-Some-AtOnce-clause-takes : goal.returns-in-Some-AtOnce-clause-takes
returns-in-Some-AtOnce-clause-takes g c s k =
    let m = g.B.Behave.means c.args.code.now in
    let x = contents c.args.store.now in
    rw c.wake.ensures.contents
    (chooses-one m (g.B.Behave.at c.args.code.now) s x c.args.pid c.in-Some-AtOnce.alt k
    (waits-within x.seats c.args.pid.0 (goes-waiting m c.args.pid.0 (seat_at x.seats c.args.pid.0).standing x.pending c.in-Some-AtOnce.alt (rw c.in-Some-AtOnce.field-0-is at c.in-Some-AtOnce.ensures)).1)
    (rw c.in-Some-AtOnce.field-0-is at c.in-Some-AtOnce.ensures))

pub returns-in-Some-AtOnce-clause-rest : goal.returns-in-Some-AtOnce-clause-rest
returns-in-Some-AtOnce-clause-rest g c rest =
    let m = g.B.Behave.means c.args.code.now in
    let x = contents c.args.store.now in
    let F : Contents g.row.B-Proc.Denot → Type 0 = λ y. AllRest m y in
    subst F (sym c.wake.ensures.contents)
    (rest-chose m x c.args.pid c.in-Some-AtOnce.alt
    (waits-within x.seats c.args.pid.0 (goes-waiting m c.args.pid.0 (seat_at x.seats c.args.pid.0).standing x.pending c.in-Some-AtOnce.alt (rw c.in-Some-AtOnce.field-0-is at c.in-Some-AtOnce.ensures)).1)
    rest)

pub returns-in-Some-AtOnce-clause-outs : goal.returns-in-Some-AtOnce-clause-outs
returns-in-Some-AtOnce-clause-outs g c =
    let x = contents c.args.store.now in
    ap (λ y. map is_out y.seats) c.wake.ensures.contents ∙ outs-woken x.seats c.args.pid.0 (Chose c.in-Some-AtOnce.alt)

pub returns-in-Some-AtOnce-clause-cells : goal.returns-in-Some-AtOnce-clause-cells
returns-in-Some-AtOnce-clause-cells g c h =
    let m = g.B.Behave.means c.args.code.now in
    let old = c.args.store.now in
    let new = c.wake.new.store in
    within-same m old.most new.most (served_by old.served) (served_by new.served) c.wake.ensures.most (ap (λ y. y.served) c.wake.ensures.contents) h
