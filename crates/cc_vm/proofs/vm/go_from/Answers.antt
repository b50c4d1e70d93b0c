use Rattle.std.proofs.Common.{subst}
use Rattle.std.specs.Prelude.{slice_get}
use Rattle.cc_code.specs.Meaning.{process}
use Rattle.cc_vm.proofs.Processes.{begins-ready, begun-asks, faulty-asks, waited-asks, waits-pends}
use Rattle.cc_vm.specs.Processes.{StandsAt}
use Rattle.cc_vm.specs.declared.phase.Phase.{Phase}
use Rattle.cc_vm.proofs.vm.go_from.Goals as goal

pub advance-requires-clause-ready : goal.advance-requires-clause-ready
advance-requires-clause-ready c =
    let a = c.requires.at in
    begins-ready c.args.raw.now c.args.room c.args.lists.now c.args.alts.now a.0 a.1 c.args.grant.now a.2
    (subst (λ (p : Phase). StandsAt c.args.raw.now c.args.room c.args.lists.now c.args.alts.now p (process c.args.raw.now (slice_get c.args.raw.now.kinds a.0) a.1) a.2) c.in-Begins.is a.3)

pub go_on-requires-clause-pends : goal.go_on-requires-clause-pends
go_on-requires-clause-pends c =
    let a = c.requires.at in
    let w =
    waits-pends c.args.raw.now c.args.room c.args.lists.now c.args.alts.now a.0 a.1 c.args.grant.now a.2
    (subst (λ (p : Phase). StandsAt c.args.raw.now c.args.room c.args.lists.now c.args.alts.now p (process c.args.raw.now (slice_get c.args.raw.now.kinds a.0) a.1) a.2) c.in-Waits.is a.3) a.4 in
    (w.0, w.1, w.2, w.3, w.4)

pub returns-in_ok-request-in-Begins : goal.returns-in_ok-request-in-Begins
returns-in_ok-request-in-Begins c = λ kind args grants stands next.
    begun-asks c.args.raw.now c.args.room c.args.lists.now c.args.alts.now kind args c.args.grant.now c.advance.new.lists c.advance.new.alts c.in_ok-request-in-Begins.request grants c.in_ok-request-in-Begins.ensures
    (subst (λ (p : Phase). StandsAt c.args.raw.now c.args.room c.args.lists.now c.args.alts.now p (process c.args.raw.now (slice_get c.args.raw.now.kinds kind) args) grants) c.in-Begins.is stands) next

pub returns-in-Faulty : goal.returns-in-Faulty
returns-in-Faulty c = λ kind args grants stands next.
    faulty-asks c.args.raw.now c.args.room c.args.lists.now c.args.alts.now kind args c.args.grant.now c.args.lists.now c.args.alts.now c.in-Faulty.kind grants
    (subst (λ (p : Phase). StandsAt c.args.raw.now c.args.room c.args.lists.now c.args.alts.now p (process c.args.raw.now (slice_get c.args.raw.now.kinds kind) args) grants) c.in-Faulty.is stands) next

pub returns-in_ok-request-in-Waits : goal.returns-in_ok-request-in-Waits
returns-in_ok-request-in-Waits c = λ kind args grants stands next.
    waited-asks c.args.raw.now c.args.room c.args.lists.now c.args.alts.now kind args c.args.grant.now c.go_on.new.lists c.go_on.new.alts c.in_ok-request-in-Waits.request grants c.in_ok-request-in-Waits.ensures
    (subst (λ (p : Phase). StandsAt c.args.raw.now c.args.room c.args.lists.now c.args.alts.now p (process c.args.raw.now (slice_get c.args.raw.now.kinds kind) args) grants) c.in-Waits.is stands) next
