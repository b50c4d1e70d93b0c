use Rattle.std.proofs.Common.{rules, refl, ap, sym, subst, ◌∙◌, map, w64, Some}
use Rattle.std.specs.Prelude.{slice_get}
use Rattle.std.proofs.lemmas.List.{map-set}
use Rattle.cc_base.specs.declared.names.FaultKind.TheVariants.{TooMany}
use Rattle.cc_base.specs.declared.request.Grant.TheVariants.{Go, Byte}
use Rattle.cc_kernel.proofs.Requests.{AreTimed, answer-made, cells-call, cells-create, cells-left, cells-send, outs-left, start-made, state-asks-call, state-asks-create, state-asks-select, state-asks-send, state-asks-timed, outs-call, outs-create, outs-send, same-outs}
use Rattle.cc_kernel.proofs.Simulates.{state-delay, state-get, state-go, state-leave}
use Rattle.cc_kernel.proofs.Resting.{rest-call, rest-create, rest-delay, rest-left, rest-ready, rest-select, rest-send}
use Rattle.cc_kernel.specs.Resting.{AllRest, RestBut}
use Rattle.std.proofs.lemmas.Int.{to_z-of_z}
use Rattle.cc_kernel.specs.Store.{Contents, contents, delayed_contents}
use Rattle.cc_kernel.specs.Contract.{is_out_in}
use Rattle.cc_kernel.proofs.Stacks.{within-same}
use Rattle.cc_kernel.specs.Seats.{is_out, with_ready, with_waiting}
use Rattle.cc_rules.specs.declared.process.ProcessStanding.TheVariants.{AtDelay, AtSelect, Ended, Faulted}
use Rattle.cc_rules.specs.Effects.{deadline_after}
use Rattle.cc_rules.specs.declared.process.Waiting.TheVariants.{Caller, Until}
use Rattle.cc_kernel.specs.Stacks.{served_by}
use Rattle.cc_kernel.proofs.perform.change_store.Goals as goal

pub returns-in-Print-clause-state : goal.returns-in-Print-clause-state
returns-in-Print-clause-state g c s k a =
    rw (c.in-Print.is, c.go_on.ensures.contents)
    (state-go (g.B.Behave.at c.args.code.now) s (contents c.args.store.now) c.args.pid.0 c.args.process Go k c.requires.running a)

pub returns-in-Print-clause-outs : goal.returns-in-Print-clause-outs
returns-in-Print-clause-outs g c =
    same-outs _ _ (ap (λ x. map is_out x.seats) c.go_on.ensures.contents ∙ map-set is_out c.args.store.now.seats.items c.args.pid.0 (with_ready c.args.process Go))

pub returns-in-Pause-clause-state : goal.returns-in-Pause-clause-state
returns-in-Pause-clause-state g c s k a =
    rw (c.in-Pause.is, c.go_on-in-Pause.ensures.contents)
    (state-go (g.B.Behave.at c.args.code.now) s (contents c.args.store.now) c.args.pid.0 c.args.process Go k c.requires.running a)

pub returns-in-Pause-clause-outs : goal.returns-in-Pause-clause-outs
returns-in-Pause-clause-outs g c =
    same-outs _ _ (ap (λ x. map is_out x.seats) c.go_on-in-Pause.ensures.contents ∙ map-set is_out c.args.store.now.seats.items c.args.pid.0 (with_ready c.args.process Go))

pub returns-in-Some-clause-state : goal.returns-in-Some-clause-state
returns-in-Some-clause-state g c s k a =
    let made = c.in-Some.ensures in
    rw (c.in-Create.is, c.create.ensures.contents)
    (state-asks-create (g.B.Behave.means c.args.code.now) (g.B.Behave.at c.args.code.now) s (contents c.args.store.now) c.args.pid c.args.process c.in-Some.new c.in-Create._kind c.in-Create._args c.create.new.store.deadlines.pairs k c.requires.running c.requires.within a
    (start-made (g.B.Behave.means c.args.code.now) (g.B.Behave.at c.args.code.now) c.args.store.now c.requires.ready.0 c.args.need made.0 c.in-Create._kind made.1 c.in-Create._args c.in-Some.new made.2
    (rw c.in-Create.is at c.requires.enough)
    c.requires.ready.1)
    (subst AreTimed c.create.ensures.contents c.create.ensures.timed))

pub returns-in-Some-clause-outs : goal.returns-in-Some-clause-outs
returns-in-Some-clause-outs g c =
    λ i. ap (λ x. is_out_in (map is_out x.seats) i) c.create.ensures.contents ∙ outs-create (contents c.args.store.now) c.args.pid.0 c.args.process c.in-Some.new (Faulted TooMany) c.create.new.store.deadlines.pairs _ i

pub returns-in-Call-clause-state : goal.returns-in-Call-clause-state
returns-in-Call-clause-state g c s k a =
    rw (c.in-Call.is, c.call.ensures.contents)
    (state-asks-call (g.B.Behave.means c.args.code.now) (g.B.Behave.at c.args.code.now) s (contents c.args.store.now) c.args.pid c.args.process c.in-Call.target c.in-Call.trans c.in-Call.args k c.requires.running c.requires.within a)

pub returns-in-Call-clause-outs : goal.returns-in-Call-clause-outs
returns-in-Call-clause-outs g c =
    same-outs _ _ (ap (λ x. map is_out x.seats) c.call.ensures.contents ∙ outs-call (contents c.args.store.now) c.args.pid c.args.process c.in-Call.target c.in-Call.trans c.in-Call.args (Caller c.args.pid) _)

pub returns-in-TimedCall-clause-state : goal.returns-in-TimedCall-clause-state
returns-in-TimedCall-clause-state g c s k a =
    let wait = to_z-of_z w64 c.in-TimedCall.wait (search rules) in
    let due = c.deadline_after-deadline.ensures ∙ ap (deadline_after c.args.store.now.moment) wait in
    rw (c.in-TimedCall.is, c.call-in-TimedCall.ensures.contents, due)
    (state-asks-timed (g.B.Behave.means c.args.code.now) (g.B.Behave.at c.args.code.now) s (contents c.args.store.now) c.args.pid c.args.process c.in-TimedCall.target c.in-TimedCall.trans c.in-TimedCall.args c.in-TimedCall.wait k c.requires.running c.requires.within a)

pub returns-in-TimedCall-clause-outs : goal.returns-in-TimedCall-clause-outs
returns-in-TimedCall-clause-outs g c =
    same-outs _ _
    (ap (λ x. map is_out x.seats) c.call-in-TimedCall.ensures.contents
    ∙ outs-call (contents c.args.store.now) c.args.pid c.args.process c.in-TimedCall.target c.in-TimedCall.trans c.in-TimedCall.args (Until c.args.pid c.deadline_after-deadline.result) _)

pub returns-in-TimedCall-clause-rest : goal.returns-in-TimedCall-clause-rest
returns-in-TimedCall-clause-rest g c all =
    let m = g.B.Behave.means c.args.code.now in
    let x = contents c.args.store.now in
    let F : Contents g.row.B-Proc.Denot → Type 0 = λ y. RestBut m y (Some c.in-TimedCall.target) in
    rw c.in-TimedCall.is
    (subst F (sym c.call-in-TimedCall.ensures.contents)
    (rest-call m x c.args.pid c.args.process c.in-TimedCall.target c.in-TimedCall.trans c.in-TimedCall.args (Until c.args.pid c.deadline_after-deadline.result) _ all))

pub returns-in-TimedCall-clause-cells : goal.returns-in-TimedCall-clause-cells
returns-in-TimedCall-clause-cells g c h =
    let m = g.B.Behave.means c.args.code.now in
    let old = c.args.store.now in
    let new = c.call-in-TimedCall.new.store in
    cells-call m (contents old) old.most new.most (served_by new.served) c.args.pid c.args.process c.in-TimedCall.target c.in-TimedCall.trans c.in-TimedCall.args (Until c.args.pid c.deadline_after-deadline.result) _
    c.call-in-TimedCall.ensures.most (ap (λ y. y.served) c.call-in-TimedCall.ensures.contents) h

pub returns-in-Send-clause-state : goal.returns-in-Send-clause-state
returns-in-Send-clause-state g c s k a =
    rw (c.in-Send.is, c.send.ensures.contents)
    (state-asks-send (g.B.Behave.means c.args.code.now) (g.B.Behave.at c.args.code.now) s (contents c.args.store.now) c.args.pid c.args.process c.in-Send.target c.in-Send.trans c.in-Send.args k c.requires.running a)

pub returns-in-Send-clause-outs : goal.returns-in-Send-clause-outs
returns-in-Send-clause-outs g c =
    same-outs _ _ (ap (λ x. map is_out x.seats) c.send.ensures.contents ∙ outs-send (contents c.args.store.now) c.args.pid c.args.process c.in-Send.target c.in-Send.trans c.in-Send.args _)

pub returns-in-Select-clause-state : goal.returns-in-Select-clause-state
returns-in-Select-clause-state g c s k a =
    rw (c.in-Select.is, c.select.ensures.contents)
    (state-asks-select (g.B.Behave.means c.args.code.now) (g.B.Behave.at c.args.code.now) s (contents c.args.store.now) c.args.pid c.args.process c.in-Select.alts k c.requires.running c.requires.within c.select.ensures.rising a)

pub returns-in-Select-clause-outs : goal.returns-in-Select-clause-outs
returns-in-Select-clause-outs g c =
    same-outs _ _ (ap (λ x. map is_out x.seats) c.select.ensures.contents ∙ map-set is_out c.args.store.now.seats.items c.args.pid.0 (with_waiting c.args.process (AtSelect c.in-Select.alts c.args.store.now.moment)))

pub returns-in-Delay-clause-state : goal.returns-in-Delay-clause-state
returns-in-Delay-clause-state g c s k a =
    let is = c.delay.ensures.contents ∙ ap (delayed_contents (contents c.args.store.now) c.args.pid c.args.process) (to_z-of_z w64 c.in-Delay.wait (search rules)) in
    rw (c.in-Delay.is, is)
    (state-delay (g.B.Behave.at c.args.code.now) s (contents c.args.store.now) c.args.pid c.args.process c.in-Delay.wait k c.requires.running c.requires.within a)

pub returns-in-Delay-clause-outs : goal.returns-in-Delay-clause-outs
returns-in-Delay-clause-outs g c =
    let is = c.delay.ensures.contents ∙ ap (delayed_contents (contents c.args.store.now) c.args.pid c.args.process) (to_z-of_z w64 c.in-Delay.wait (search rules)) in
    same-outs _ _ (ap (λ x. map is_out x.seats) is ∙ map-set is_out c.args.store.now.seats.items c.args.pid.0 (with_waiting c.args.process (AtDelay (deadline_after c.args.store.now.moment c.in-Delay.wait))))

pub returns-in-Delay-clause-rest : goal.returns-in-Delay-clause-rest
returns-in-Delay-clause-rest g c all =
    let m = g.B.Behave.means c.args.code.now in
    let x = contents c.args.store.now in
    let is = c.delay.ensures.contents ∙ ap (delayed_contents (contents c.args.store.now) c.args.pid c.args.process) (to_z-of_z w64 c.in-Delay.wait (search rules)) in
    let F : Contents g.row.B-Proc.Denot → Type 0 = λ y. AllRest m y in
    rw c.in-Delay.is (subst F (sym is) (rest-delay m x c.args.pid c.args.process c.in-Delay.wait all))

pub returns-in-Delay-clause-cells : goal.returns-in-Delay-clause-cells
returns-in-Delay-clause-cells g c h =
    let m = g.B.Behave.means c.args.code.now in
    let old = c.args.store.now in
    let new = c.delay.new.store in
    within-same m old.most new.most (served_by old.served) (served_by new.served) c.delay.ensures.most (ap (λ y. y.served) c.delay.ensures.contents) h

pub returns-in-Some-answer-clause-state : goal.returns-in-Some-answer-clause-state
returns-in-Some-answer-clause-state g c s k a =
    let made = c.in-Some-answer.ensures in
    let enough = rw c.in-Reply.is at c.requires.enough in
    let fits = answer-made (g.B.Behave.means c.args.code.now) (g.B.Behave.at c.args.code.now) c.args.store.now c.requires.ready.0 c.args.need c.in-Some-answer.value c.in-Reply._value made.0 enough.0 made.1 enough.1 c.requires.ready.1 in
    rw c.in-Reply.is (c.reply.ensures.state s c.in-Reply._value enough.0 fits.0 fits.1 k a)

pub returns-in-Get-clause-state : goal.returns-in-Get-clause-state
returns-in-Get-clause-state g c s k a =
    rw (c.in-Get.is, c.get.ensures.contents)
    (state-get (g.B.Behave.at c.args.code.now) s (contents c.args.store.now) c.args.pid.0 c.args.process k c.requires.running a)

pub returns-in-Get-clause-outs : goal.returns-in-Get-clause-outs
returns-in-Get-clause-outs g c =
    same-outs _ _ (ap (λ x. map is_out x.seats) c.get.ensures.contents ∙ map-set is_out c.args.store.now.seats.items c.args.pid.0 (with_ready c.args.process (Byte (slice_get c.args.store.now.input c.args.store.now.taken))))

pub returns-in-Done-clause-state : goal.returns-in-Done-clause-state
returns-in-Done-clause-state g c s k a =
    rw (c.in-Done.is, c.leave.ensures.contents)
    (state-leave (g.B.Behave.at c.args.code.now) s (contents c.args.store.now) c.args.pid.0 Ended c.leave.new.store.deadlines.pairs k c.requires.within (refl, tt)
    (subst AreTimed c.leave.ensures.contents c.leave.ensures.timed))

pub returns-in-Done-clause-outs : goal.returns-in-Done-clause-outs
returns-in-Done-clause-outs g c =
    same-outs _ _ (ap (λ x. map is_out x.seats) c.leave.ensures.contents ∙ outs-left (contents c.args.store.now) c.args.pid.0 Ended c.leave.new.store.deadlines.pairs)

pub returns-in-Fault-clause-state : goal.returns-in-Fault-clause-state
returns-in-Fault-clause-state g c s k a =
    rw (c.in-Fault.is, c.leave-in-Fault.ensures.contents)
    (state-leave (g.B.Behave.at c.args.code.now) s (contents c.args.store.now) c.args.pid.0 (Faulted c.in-Fault.kind) c.leave-in-Fault.new.store.deadlines.pairs k c.requires.within (refl, tt)
    (subst AreTimed c.leave-in-Fault.ensures.contents c.leave-in-Fault.ensures.timed))

pub returns-in-Fault-clause-outs : goal.returns-in-Fault-clause-outs
returns-in-Fault-clause-outs g c =
    same-outs _ _ (ap (λ x. map is_out x.seats) c.leave-in-Fault.ensures.contents ∙ outs-left (contents c.args.store.now) c.args.pid.0 (Faulted c.in-Fault.kind) c.leave-in-Fault.new.store.deadlines.pairs)

pub returns-in-Print-clause-rest : goal.returns-in-Print-clause-rest
returns-in-Print-clause-rest g c all =
    let m = g.B.Behave.means c.args.code.now in
    let x = contents c.args.store.now in
    let F : Contents g.row.B-Proc.Denot → Type 0 = λ y. AllRest m y in
    rw c.in-Print.is (subst F (sym c.go_on.ensures.contents) (rest-ready m x.seats x.pending c.args.pid.0 c.args.process Go all))

pub returns-in-Pause-clause-rest : goal.returns-in-Pause-clause-rest
returns-in-Pause-clause-rest g c all =
    let m = g.B.Behave.means c.args.code.now in
    let x = contents c.args.store.now in
    let F : Contents g.row.B-Proc.Denot → Type 0 = λ y. AllRest m y in
    rw c.in-Pause.is (subst F (sym c.go_on-in-Pause.ensures.contents) (rest-ready m x.seats x.pending c.args.pid.0 c.args.process Go all))

pub returns-in-Some-clause-rest : goal.returns-in-Some-clause-rest
returns-in-Some-clause-rest g c all =
    let m = g.B.Behave.means c.args.code.now in
    let x = contents c.args.store.now in
    let F : Contents g.row.B-Proc.Denot → Type 0 = λ y. AllRest m y in
    rw c.in-Create.is (subst F (sym c.create.ensures.contents) (rest-create m x c.args.pid.0 c.args.process c.in-Some.new (Faulted TooMany) c.create.new.store.deadlines.pairs _ refl all))

pub returns-in-Call-clause-rest : goal.returns-in-Call-clause-rest
returns-in-Call-clause-rest g c all =
    let m = g.B.Behave.means c.args.code.now in
    let x = contents c.args.store.now in
    let F : Contents g.row.B-Proc.Denot → Type 0 = λ y. RestBut m y (Some c.in-Call.target) in
    rw c.in-Call.is (subst F (sym c.call.ensures.contents) (rest-call m x c.args.pid c.args.process c.in-Call.target c.in-Call.trans c.in-Call.args (Caller c.args.pid) _ all))

pub returns-in-Send-clause-rest : goal.returns-in-Send-clause-rest
returns-in-Send-clause-rest g c all =
    let m = g.B.Behave.means c.args.code.now in
    let x = contents c.args.store.now in
    let F : Contents g.row.B-Proc.Denot → Type 0 = λ y. RestBut m y (Some c.in-Send.target) in
    rw c.in-Send.is (subst F (sym c.send.ensures.contents) (rest-send m x c.args.pid c.args.process c.in-Send.target c.in-Send.trans c.in-Send.args _ all))

pub returns-in-Select-clause-rest : goal.returns-in-Select-clause-rest
returns-in-Select-clause-rest g c all =
    let m = g.B.Behave.means c.args.code.now in
    let x = contents c.args.store.now in
    let F : Contents g.row.B-Proc.Denot → Type 0 = λ y. RestBut m y (Some c.args.pid) in
    rw c.in-Select.is (subst F (sym c.select.ensures.contents) (rest-select m x c.args.pid c.args.process (AtSelect c.in-Select.alts c.args.store.now.moment) all))

pub returns-in-Some-answer-clause-rest : goal.returns-in-Some-answer-clause-rest
returns-in-Some-answer-clause-rest g c all = rw c.in-Reply.is (c.reply.ensures.rest all)

pub returns-in-Get-clause-rest : goal.returns-in-Get-clause-rest
returns-in-Get-clause-rest g c all =
    let m = g.B.Behave.means c.args.code.now in
    let x = contents c.args.store.now in
    let F : Contents g.row.B-Proc.Denot → Type 0 = λ y. AllRest m y in
    rw c.in-Get.is (subst F (sym c.get.ensures.contents) (rest-ready m x.seats x.pending c.args.pid.0 c.args.process (Byte (slice_get c.args.store.now.input c.args.store.now.taken)) all))

pub returns-in-Done-clause-rest : goal.returns-in-Done-clause-rest
returns-in-Done-clause-rest g c all =
    let m = g.B.Behave.means c.args.code.now in
    let x = contents c.args.store.now in
    let F : Contents g.row.B-Proc.Denot → Type 0 = λ y. AllRest m y in
    rw c.in-Done.is (subst F (sym c.leave.ensures.contents) (rest-left m x c.args.pid.0 Ended c.leave.new.store.deadlines.pairs refl all))

pub returns-in-Fault-clause-rest : goal.returns-in-Fault-clause-rest
returns-in-Fault-clause-rest g c all =
    let m = g.B.Behave.means c.args.code.now in
    let x = contents c.args.store.now in
    let F : Contents g.row.B-Proc.Denot → Type 0 = λ y. AllRest m y in
    rw c.in-Fault.is (subst F (sym c.leave-in-Fault.ensures.contents) (rest-left m x c.args.pid.0 (Faulted c.in-Fault.kind) c.leave-in-Fault.new.store.deadlines.pairs refl all))

pub returns-in-Print-clause-cells : goal.returns-in-Print-clause-cells
returns-in-Print-clause-cells g c h =
    let m = g.B.Behave.means c.args.code.now in
    let old = c.args.store.now in
    let new = c.go_on.new.store in
    within-same m old.most new.most (served_by old.served) (served_by new.served) c.go_on.ensures.most (ap (λ y. y.served) c.go_on.ensures.contents) h

pub returns-in-Pause-clause-cells : goal.returns-in-Pause-clause-cells
returns-in-Pause-clause-cells g c h =
    let m = g.B.Behave.means c.args.code.now in
    let old = c.args.store.now in
    let new = c.go_on-in-Pause.new.store in
    within-same m old.most new.most (served_by old.served) (served_by new.served) c.go_on-in-Pause.ensures.most (ap (λ y. y.served) c.go_on-in-Pause.ensures.contents) h

pub returns-in-Select-clause-cells : goal.returns-in-Select-clause-cells
returns-in-Select-clause-cells g c h =
    let m = g.B.Behave.means c.args.code.now in
    let old = c.args.store.now in
    let new = c.select.new.store in
    within-same m old.most new.most (served_by old.served) (served_by new.served) c.select.ensures.most (ap (λ y. y.served) c.select.ensures.contents) h

pub returns-in-Get-clause-cells : goal.returns-in-Get-clause-cells
returns-in-Get-clause-cells g c h =
    let m = g.B.Behave.means c.args.code.now in
    let old = c.args.store.now in
    let new = c.get.new.store in
    within-same m old.most new.most (served_by old.served) (served_by new.served) c.get.ensures.most (ap (λ y. y.served) c.get.ensures.contents) h

pub returns-in-Some-clause-cells : goal.returns-in-Some-clause-cells
returns-in-Some-clause-cells g c h =
    let m = g.B.Behave.means c.args.code.now in
    let old = c.args.store.now in
    let new = c.create.new.store in
    cells-create m (contents old) old.most new.most (served_by new.served) c.args.pid.0 c.args.process c.in-Some.new (Faulted TooMany) new.deadlines.pairs _ c.create.ensures.most (ap (λ y. y.served) c.create.ensures.contents) h

pub returns-in-Call-clause-cells : goal.returns-in-Call-clause-cells
returns-in-Call-clause-cells g c h =
    let m = g.B.Behave.means c.args.code.now in
    let old = c.args.store.now in
    let new = c.call.new.store in
    cells-call m (contents old) old.most new.most (served_by new.served) c.args.pid c.args.process c.in-Call.target c.in-Call.trans c.in-Call.args (Caller c.args.pid) _ c.call.ensures.most (ap (λ y. y.served) c.call.ensures.contents) h

pub returns-in-Send-clause-cells : goal.returns-in-Send-clause-cells
returns-in-Send-clause-cells g c h =
    let m = g.B.Behave.means c.args.code.now in
    let old = c.args.store.now in
    let new = c.send.new.store in
    cells-send m (contents old) old.most new.most (served_by new.served) c.args.pid c.args.process c.in-Send.target c.in-Send.trans c.in-Send.args _ c.send.ensures.most (ap (λ y. y.served) c.send.ensures.contents) h

pub returns-in-Done-clause-cells : goal.returns-in-Done-clause-cells
returns-in-Done-clause-cells g c h =
    let m = g.B.Behave.means c.args.code.now in
    let old = c.args.store.now in
    let new = c.leave.new.store in
    cells-left m (contents old) old.most new.most (served_by new.served) c.args.pid.0 Ended new.deadlines.pairs c.leave.ensures.most (ap (λ y. y.served) c.leave.ensures.contents) h

pub returns-in-Fault-clause-cells : goal.returns-in-Fault-clause-cells
returns-in-Fault-clause-cells g c h =
    let m = g.B.Behave.means c.args.code.now in
    let old = c.args.store.now in
    let new = c.leave-in-Fault.new.store in
    cells-left m (contents old) old.most new.most (served_by new.served) c.args.pid.0 (Faulted c.in-Fault.kind) new.deadlines.pairs c.leave-in-Fault.ensures.most (ap (λ y. y.served) c.leave-in-Fault.ensures.contents) h
