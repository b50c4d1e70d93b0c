use Rattle.std.proofs.Common.{◌≡◌, ap, sym, subst, ◌∙◌, map, ◌≤◌}
use Rattle.cc_kernel.proofs.Ending.{due-same}
use Rattle.cc_kernel.proofs.Expiring.{answered-no-end, first-call, first-is-due, goes-no-end}
use Rattle.cc_kernel.proofs.Dues.{due-deadline}
use Rattle.cc_kernel.proofs.Outs.{outs-answered, outs-woken}
use Rattle.cc_kernel.proofs.Resting.{due-rests, rest-at, rest-calm, rest-expired, rest-withdrawn}
use Rattle.cc_kernel.proofs.Settling.{expires-one, withdraws-one}
use Rattle.cc_base.specs.declared.request.Grant.TheVariants.{Late}
use Rattle.cc_kernel.proofs.Serving.{found-at}
use Rattle.cc_kernel.proofs.Stacks.{within-same}
use Rattle.cc_kernel.proofs.Timed.{fewer-some, process-stands, stands-for, stands-there}
use Rattle.cc_kernel.specs.Resting.{AllRest}
use Rattle.cc_kernel.specs.Seats.{is_out, seat_at, served_call}
use Rattle.cc_kernel.specs.Stacks.{served_by}
use Rattle.cc_kernel.specs.Store.{Contents, contents}
use Rattle.cc_kernel.specs.Timed.{deadline_of}
use Rattle.cc_rules.specs.Choice.{call_deadline}
use Rattle.cc_rules.specs.Events.{expiry_grant}
use Rattle.cc_timer.specs.declared.who.Who.TheVariants as who
use Rattle.cc_kernel.proofs.settle.expire_one.Goals as goal

pub withdraw-requires-clause-call : goal.withdraw-requires-clause-call
withdraw-requires-clause-call g c =
    let first = rw c.in-Some-Call.field-0-is at c.in-Some-Call.ensures.first in
    let has = first-call (g.B.Behave.at c.args.code.now) c.requires.state.0 (contents c.args.store.now) first.0 c.in-Some-Call.call c.requires.state.1 first.2 in
    (has.0, has.1)

pub withdraw-requires-clause-stands : goal.withdraw-requires-clause-stands
withdraw-requires-clause-stands g c n e =
    let x = contents c.args.store.now in
    stands-for x.seats x.pending x.deadlines (who.Call c.in-Some-Call.call) n c.requires.state.1.timed e

pub returns-in-Some-Call-clause-takes : goal.returns-in-Some-Call-clause-takes
returns-in-Some-Call-clause-takes g c s k =
    let m = g.B.Behave.means c.args.code.now in
    let located = g.B.Behave.at c.args.code.now in
    let first = rw c.in-Some-Call.field-0-is at c.in-Some-Call.ensures.first in
    let x = contents c.args.store.now in
    let has = first-call located c.requires.state.0 x first.0 c.in-Some-Call.call c.requires.state.1 first.2 in
    rw (c.withdraw.ensures.contents has.0 has.1)
    (withdraws-one m located s x c.in-Some-Call.call has.0 first.0 k (rest-calm m located s x k c.requires.rest)
    (sym (due-same m located s x k) ∙ due-rests m x c.requires.rest ∙ c.requires.stays)
    has.1 has.2 first.1)

pub returns-in-Some-Call-clause-rest : goal.returns-in-Some-Call-clause-rest
returns-in-Some-Call-clause-rest g c =
    let m = g.B.Behave.means c.args.code.now in
    let first = rw c.in-Some-Call.field-0-is at c.in-Some-Call.ensures.first in
    let x = contents c.args.store.now in
    let has = first-call (g.B.Behave.at c.args.code.now) c.requires.state.0 x first.0 c.in-Some-Call.call c.requires.state.1 first.2 in
    let F : Contents g.row.B-Proc.Denot → Type 0 = λ y. AllRest m y in
    subst F (sym (c.withdraw.ensures.contents has.0 has.1)) (rest-withdrawn m x has.0 c.requires.rest)

pub returns-in-Some-Call-clause-fewer : goal.returns-in-Some-Call-clause-fewer
returns-in-Some-Call-clause-fewer g c =
    let first = rw c.in-Some-Call.field-0-is at c.in-Some-Call.ensures.first in
    let x = contents c.args.store.now in
    let has = first-call (g.B.Behave.at c.args.code.now) c.requires.state.0 x first.0 c.in-Some-Call.call c.requires.state.1 first.2 in
    let number = (found-at x.pending c.in-Some-Call.call.0 has.0 has.1).0 in
    let same : has.0.number ≡ c.in-Some-Call.call = ap (λ n. record { 0 = n }) number in
    rw (ap (λ y. y.deadlines) (c.withdraw.ensures.contents has.0 has.1), same)
    (fewer-some (call_deadline has.0.waiting) first.0 (who.Call c.in-Some-Call.call) x.deadlines has.2
    (stands-there x.deadlines first.0 (who.Call c.in-Some-Call.call) first.2.0))

pub returns-in-Some-Call-clause-stays : goal.returns-in-Some-Call-clause-stays
returns-in-Some-Call-clause-stays g c =
    let first = rw c.in-Some-Call.field-0-is at c.in-Some-Call.ensures.first in
    let x = contents c.args.store.now in
    let has = first-call (g.B.Behave.at c.args.code.now) c.requires.state.0 x first.0 c.in-Some-Call.call c.requires.state.1 first.2 in
    rw (ap (λ y. y.seats) (c.withdraw.ensures.contents has.0 has.1)) (answered-no-end x.seats (served_call has.0) Late c.requires.stays)

pub returns-in-Some-Call-clause-outs : goal.returns-in-Some-Call-clause-outs
returns-in-Some-Call-clause-outs g c =
    let first = rw c.in-Some-Call.field-0-is at c.in-Some-Call.ensures.first in
    let x = contents c.args.store.now in
    let has = first-call (g.B.Behave.at c.args.code.now) c.requires.state.0 x first.0 c.in-Some-Call.call c.requires.state.1 first.2 in
    ap (λ y. map is_out y.seats) (c.withdraw.ensures.contents has.0 has.1) ∙ outs-answered x.seats (served_call has.0) Late

pub returns-in-Some-Call-clause-input : goal.returns-in-Some-Call-clause-input
returns-in-Some-Call-clause-input g c =
    let first = rw c.in-Some-Call.field-0-is at c.in-Some-Call.ensures.first in
    let x = contents c.args.store.now in
    let has = first-call (g.B.Behave.at c.args.code.now) c.requires.state.0 x first.0 c.in-Some-Call.call c.requires.state.1 first.2 in
    ap (λ y. y.input) (c.withdraw.ensures.contents has.0 has.1)

pub returns-in-Some-Call-clause-drawn : goal.returns-in-Some-Call-clause-drawn
returns-in-Some-Call-clause-drawn g c =
    let first = rw c.in-Some-Call.field-0-is at c.in-Some-Call.ensures.first in
    let x = contents c.args.store.now in
    let has = first-call (g.B.Behave.at c.args.code.now) c.requires.state.0 x first.0 c.in-Some-Call.call c.requires.state.1 first.2 in
    ap (λ y. y.drawn) (c.withdraw.ensures.contents has.0 has.1)

pub returns-in-Some-Call-clause-cells : goal.returns-in-Some-Call-clause-cells
returns-in-Some-Call-clause-cells g c h =
    let m = g.B.Behave.means c.args.code.now in
    let old = c.args.store.now in
    let new = c.withdraw.new.store in
    let first = rw c.in-Some-Call.field-0-is at c.in-Some-Call.ensures.first in
    let x = contents old in
    let has = first-call (g.B.Behave.at c.args.code.now) c.requires.state.0 x first.0 c.in-Some-Call.call c.requires.state.1 first.2 in
    within-same m old.most new.most (served_by old.served) (served_by new.served) c.withdraw.ensures.most (ap (λ y. y.served) (c.withdraw.ensures.contents has.0 has.1)) h

pub expire-alt-requires-clause-due : goal.expire-alt-requires-clause-due
expire-alt-requires-clause-due g c =
    let first = rw c.in-Some-Process.field-0-is at c.in-Some-Process.ensures.first in
    let at = first-is-due (g.B.Behave.at c.args.code.now) c.requires.state.0 (contents c.args.store.now) first.0 c.in-Some-Process.pid c.requires.state.1 first.2 in
    (at.0, at.1)

pub expire-alt-requires-clause-stands : goal.expire-alt-requires-clause-stands
expire-alt-requires-clause-stands g c =
    let x = contents c.args.store.now in
    process-stands x.seats x.pending x.deadlines c.in-Some-Process.pid c.requires.state.1.timed

pub expire-alt-requires-clause-within : goal.expire-alt-requires-clause-within
expire-alt-requires-clause-within g c =
    let first = rw c.in-Some-Process.field-0-is at c.in-Some-Process.ensures.first in
    let at = first-is-due (g.B.Behave.at c.args.code.now) c.requires.state.0 (contents c.args.store.now) first.0 c.in-Some-Process.pid c.requires.state.1 first.2 in
    at.4

pub expire-alt-requires-clause-waits : goal.expire-alt-requires-clause-waits
expire-alt-requires-clause-waits g c =
    let first = rw c.in-Some-Process.field-0-is at c.in-Some-Process.ensures.first in
    let at = first-is-due (g.B.Behave.at c.args.code.now) c.requires.state.0 (contents c.args.store.now) first.0 c.in-Some-Process.pid c.requires.state.1 first.2 in
    at.3

pub returns-in-Some-Process-clause-takes : goal.returns-in-Some-Process-clause-takes
returns-in-Some-Process-clause-takes g c s k =
    let m = g.B.Behave.means c.args.code.now in
    let located = g.B.Behave.at c.args.code.now in
    let first = rw c.in-Some-Process.field-0-is at c.in-Some-Process.ensures.first in
    let x = contents c.args.store.now in
    let at = first-is-due located c.requires.state.0 x first.0 c.in-Some-Process.pid c.requires.state.1 first.2 in
    let come : at.0.deadline ≤ x.moment = rw at.2 first.1 in
    let number = c.expire-alt.ensures.number at.0 at.1 in
    rw (c.expire-alt.ensures.contents, number)
    (expires-one m located s x c.in-Some-Process.pid at.0 k
    (sym (due-same m located s x k) ∙ due-rests m x c.requires.rest ∙ c.requires.stays)
    at.1 at.3 come (rest-at m located s x k c.requires.rest c.in-Some-Process.pid.0))

pub returns-in-Some-Process-clause-rest : goal.returns-in-Some-Process-clause-rest
returns-in-Some-Process-clause-rest g c =
    let m = g.B.Behave.means c.args.code.now in
    let F : Contents g.row.B-Proc.Denot → Type 0 = λ y. AllRest m y in
    subst F (sym c.expire-alt.ensures.contents) (rest-expired m (contents c.args.store.now) c.in-Some-Process.pid c.expire-alt.result c.requires.rest)

pub returns-in-Some-Process-clause-fewer : goal.returns-in-Some-Process-clause-fewer
returns-in-Some-Process-clause-fewer g c =
    let first = rw c.in-Some-Process.field-0-is at c.in-Some-Process.ensures.first in
    let x = contents c.args.store.now in
    let at = first-is-due (g.B.Behave.at c.args.code.now) c.requires.state.0 x first.0 c.in-Some-Process.pid c.requires.state.1 first.2 in
    let has = due-deadline (seat_at x.seats c.in-Some-Process.pid.0).standing at.0 at.1 in
    rw (ap (λ y. y.deadlines) c.expire-alt.ensures.contents)
    (fewer-some (deadline_of (seat_at x.seats c.in-Some-Process.pid.0).standing) at.0.deadline (who.Process c.in-Some-Process.pid) x.deadlines has
    (process-stands x.seats x.pending x.deadlines c.in-Some-Process.pid c.requires.state.1.timed at.0.deadline has))

pub returns-in-Some-Process-clause-stays : goal.returns-in-Some-Process-clause-stays
returns-in-Some-Process-clause-stays g c =
    let first = rw c.in-Some-Process.field-0-is at c.in-Some-Process.ensures.first in
    let x = contents c.args.store.now in
    let at = first-is-due (g.B.Behave.at c.args.code.now) c.requires.state.0 x first.0 c.in-Some-Process.pid c.requires.state.1 first.2 in
    rw (ap (λ y. y.seats) c.expire-alt.ensures.contents)
    (goes-no-end x.seats c.in-Some-Process.pid.0 (expiry_grant c.expire-alt.result (seat_at x.seats c.in-Some-Process.pid.0).standing) at.4)

pub returns-in-Some-Process-clause-outs : goal.returns-in-Some-Process-clause-outs
returns-in-Some-Process-clause-outs g c =
    let x = contents c.args.store.now in
    ap (λ y. map is_out y.seats) c.expire-alt.ensures.contents
    ∙ outs-woken x.seats c.in-Some-Process.pid.0 (expiry_grant c.expire-alt.result (seat_at x.seats c.in-Some-Process.pid.0).standing)

pub returns-in-Some-Process-clause-cells : goal.returns-in-Some-Process-clause-cells
returns-in-Some-Process-clause-cells g c h =
    let m = g.B.Behave.means c.args.code.now in
    let old = c.args.store.now in
    let new = c.expire-alt.new.store in
    within-same m old.most new.most (served_by old.served) (served_by new.served) c.expire-alt.ensures.most (ap (λ y. y.served) c.expire-alt.ensures.contents) h
