use Rattle.cc_vm.proofs.Acts.{Fits}
use Rattle.cc_vm.proofs.Onward.{goes-comes, goes-fault, goes-ready, pends-fits, pends-full, pends-low, pends-operands}
use Rattle.cc_vm.proofs.going.go_on.Goals as goal

pub instr_at-instr-requires : goal.instr_at-instr-requires
instr_at-instr-requires c = c.requires.pends.3.ready.stands.address

pub resume_at-requires-clause-operands : goal.resume_at-requires-clause-operands
resume_at-requires-clause-operands c =
    let p = c.requires.pends in
    pends-operands c.args.raw.now c.requires.verified c.args.room c.requires.room c.args.lists.now c.args.alts.now p.0 c.args.grant.now p.1 p.2 p.3 p.4 c.instr_at-instr.result c.instr_at-instr.ensures

pub resume_at-requires-clause-low : goal.resume_at-requires-clause-low
resume_at-requires-clause-low c =
    let p = c.requires.pends in
    pends-low c.args.raw.now c.requires.verified c.args.room c.requires.room c.args.lists.now c.args.alts.now p.0 c.args.grant.now p.1 p.2 p.3 p.4 c.instr_at-instr.result c.instr_at-instr.ensures

pub resume_at-requires-clause-room : goal.resume_at-requires-clause-room
resume_at-requires-clause-room c =
    let p = c.requires.pends in
    (pends-fits c.args.raw.now c.requires.verified c.args.room c.requires.room c.args.lists.now c.args.alts.now p.0 c.args.grant.now p.1 p.2 p.3 p.4 c.instr_at-instr.result c.instr_at-instr.ensures).room

pub resume_at-requires-clause-top : goal.resume_at-requires-clause-top
resume_at-requires-clause-top c = c.requires.pends.3.ready.lies.top

pub resume_at-requires-clause-first : goal.resume_at-requires-clause-first
resume_at-requires-clause-first c = c.requires.pends.3.ready.lies.first

pub resume_at-requires-clause-end : goal.resume_at-requires-clause-end
resume_at-requires-clause-end c = c.requires.pends.3.ready.lies.end

pub resume_at-requires-clause-full : goal.resume_at-requires-clause-full
resume_at-requires-clause-full c =
    let p = c.requires.pends in
    pends-full c.args.raw.now c.requires.verified c.args.room c.requires.room c.args.lists.now c.args.alts.now p.0 c.args.grant.now p.1 p.2 p.3 p.4 c.instr_at-instr.result c.instr_at-instr.ensures

pub advance-requires-clause-ready : goal.advance-requires-clause-ready
advance-requires-clause-ready c =
    let p = c.requires.pends in
    goes-ready c.args.raw.now c.requires.verified c.args.room c.requires.room c.args.lists.now c.args.alts.now p.0 c.args.grant.now p.1 p.2 p.3 p.4 c.instr_at-instr.result c.instr_at-instr.ensures
    c.resume_at.new.lists c.in_ok-kind.field-0 c.in-None.is c.in_ok-kind.ensures

pub returns-in-Some : goal.returns-in-Some
returns-in-Some c = λ offers i q pends answers.
    goes-fault c.args.raw.now c.requires.verified c.args.room c.requires.room c.args.lists.now c.args.alts.now offers c.args.grant.now i q pends answers c.instr_at-instr.result c.instr_at-instr.ensures
    c.resume_at.new.lists c.in-Some.kind c.in_ok-kind.field-0 c.in-Some.is c.in_ok-kind.ensures

pub returns-in_ok-request-in-None : goal.returns-in_ok-request-in-None
returns-in_ok-request-in-None c = λ offers i q pends answers.
    goes-comes c.args.raw.now c.requires.verified c.args.room c.requires.room c.args.lists.now c.args.alts.now offers c.args.grant.now i q pends answers c.instr_at-instr.result c.instr_at-instr.ensures
    c.resume_at.new.lists c.in_ok-kind.field-0 c.in-None.is c.in_ok-kind.ensures c.advance.new.lists c.advance.new.alts c.in_ok-request-in-None.request c.in_ok-request-in-None.ensures
