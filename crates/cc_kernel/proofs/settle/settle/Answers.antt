use Rattle.std.proofs.Common.{ap, sym, subst, ◌∙◌, map}
use Rattle.cc_kernel.proofs.Ending.{outs-ended, settles-after, settles-ended}
use Rattle.cc_kernel.proofs.Resting.{due-rests, rest-ended}
use Rattle.cc_kernel.proofs.Stacks.{within-where}
use Rattle.cc_kernel.specs.Choice.{seat_waits}
use Rattle.cc_kernel.specs.Seats.{is_out}
use Rattle.cc_kernel.specs.Resting.{AllRest}
use Rattle.cc_kernel.specs.Store.{Contents, contents}
use Rattle.cc_rules.specs.Runs.{after}
use Rattle.cc_kernel.specs.Stacks.{served_by}
use Rattle.cc_kernel.proofs.settle.settle.Goals as goal

pub returns-then-all_may_end-clause-settles : goal.returns-then-all_may_end-clause-settles
returns-then-all_may_end-clause-settles g c = λ s k.
    let m = g.B.Behave.means c.args.code.now in
    let x = contents c.take_roused.new.store in
    let due = due-rests m x c.take_roused.ensures.rest ∙ sym c.all_may_end.ensures ∙ c.if-all_may_end.true in
    rw (c.add.ensures.items, c.end_all.ensures.contents)
    (settles-ended m (g.B.Behave.at c.args.code.now) s c.args.journal.now.items c.take_roused.new.journal.items x
    (c.take_roused.ensures.goes_on s k) due)

pub returns-then-all_may_end-clause-rest : goal.returns-then-all_may_end-clause-rest
returns-then-all_may_end-clause-rest g c =
    let m = g.B.Behave.means c.args.code.now in
    let F : Contents g.row.B-Proc.Denot → Type 0 = λ y. AllRest m y in
    subst F (sym c.end_all.ensures.contents) (rest-ended m (contents c.take_roused.new.store) c.take_roused.ensures.rest)

pub returns-then-all_may_end-clause-outs : goal.returns-then-all_may_end-clause-outs
returns-then-all_may_end-clause-outs g c = λ s k.
    let m = g.B.Behave.means c.args.code.now in
    let went = c.take_roused.ensures.goes_on s k in
    ap (λ y. map is_out y.seats) c.end_all.ensures.contents
    ∙ outs-ended m (g.B.Behave.at c.args.code.now) (after m s went.more) (contents c.take_roused.new.store) went.state
    ∙ c.take_roused.ensures.outs

pub expire_due-requires-clause-state : goal.expire_due-requires-clause-state
expire_due-requires-clause-state g c =
    let m = g.B.Behave.means c.args.code.now in
    let st = c.requires.state in
    let went = c.take_roused.ensures.goes_on st.0 st.1 in
    (after m st.0 went.more, went.state)

pub returns-clause-settles : goal.returns-clause-settles
returns-clause-settles g c = λ s k.
    let m = g.B.Behave.means c.args.code.now in
    let located = g.B.Behave.at c.args.code.now in
    let went = c.take_roused.ensures.goes_on s k in
    settles-after m located s c.args.journal.now.items c.take_roused.new.journal.items c.expire_due.new.journal.items (contents c.take_roused.new.store) (contents c.expire_due.new.store) went
    (c.expire_due.ensures.settles (after m s went.more) went.state)

pub returns-then-all_may_end-clause-cells : goal.returns-then-all_may_end-clause-cells
returns-then-all_may_end-clause-cells g c h =
    let m = g.B.Behave.means c.args.code.now in
    let mid = c.take_roused.new.store in
    let x = contents mid in
    within-where m mid.most c.end_all.new.store.most (served_by mid.served) (served_by c.end_all.new.store.served) (seat_waits m x.seats x.pending)
    c.end_all.ensures.most (ap (λ y. y.served) c.end_all.ensures.contents) (c.take_roused.ensures.cells h)
