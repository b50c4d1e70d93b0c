use Rattle.cc_vm.proofs.Running.{acts-move, call-move, ret-move}
use Rattle.cc_vm.proofs.Leaving.{acts-left, call-left, not-call}
use Rattle.cc_vm.proofs.machine.step.Goals as goal

pub returns-in-Call-clause-moves : goal.returns-in-Call-clause-moves
returns-in-Call-clause-moves c =
    call-move c.args.raw.now c.requires.verified c.args.room c.requires.room c.args.stack.now c.args.cells.now c.args.frames.now c.args.r.now c.requires.ready c.in-Call.function c.in-Call.ensures.there
    c.function_at-part.result c.function_at-part.ensures c.call.new.cells c.call.new.frames c.call.new.r c.call.result c.call.ensures

pub returns-in-Ret-clause-moves : goal.returns-in-Ret-clause-moves
returns-in-Ret-clause-moves c =
    ret-move c.args.raw.now c.requires.verified c.args.room c.requires.room c.args.stack.now c.args.cells.now c.args.frames.now c.args.r.now c.requires.ready c.in-Ret.field-0 c.in-Ret.ensures.there
    c.in-Ret.ensures.finds.0 c.go_back.new.r c.go_back.ensures

pub returns-in_default-clause-moves : goal.returns-in_default-clause-moves
returns-in_default-clause-moves c =
    acts-move c.args.raw.now c.requires.verified c.args.room c.requires.room c.args.stack.now c.args.cells.now c.args.frames.now c.args.r.now c.requires.ready c.next_instr-instr.result c.next_instr-instr.ensures.there
    c.perform.new.stack c.perform.new.cells c.perform.new.r c.perform.result c.perform.ensures

pub returns-in-Call-clause-left : goal.returns-in-Call-clause-left
returns-in-Call-clause-left c =
    call-left c.args.raw.now c.args.r.now c.function_at-part.result c.args.room c.args.stack.now c.args.cells.now c.args.frames.now c.call.new.cells c.call.new.frames c.call.new.r c.call.result c.call.ensures

pub returns-in_default-clause-left : goal.returns-in_default-clause-left
returns-in_default-clause-left c =
    acts-left c.args.raw.now c.args.r.now c.args.stack.now c.args.cells.now c.next_instr-instr.result c.next_instr-instr.ensures.there
    (not-call c.next_instr-instr.result c.in_default.not-Call c.in_default.not-Ret)
    c.perform.new.stack c.perform.new.cells c.perform.new.r c.perform.result c.perform.ensures
