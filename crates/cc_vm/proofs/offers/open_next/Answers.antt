use Rattle.std.proofs.Common.{subst}
use Rattle.cc_vm.proofs.Asking.{has-operands}
use Rattle.cc_vm.proofs.Offering.{Comes, opened-fault, opened-many, opened-none, opens-so}
use Rattle.cc_vm.proofs.Running.{found-within}
use Rattle.cc_vm.proofs.offers.open_next.Goals as goal

pub open-requires-clause-operands : goal.open-requires-clause-operands
open-requires-clause-operands c = has-operands c.args.raw.now c.requires.verified c.args.room c.requires.room c.args.lists.now c.requires.ready c.args.instr c.requires.there

pub open-requires-clause-low : goal.open-requires-clause-low
open-requires-clause-low c =
    (found-within c.args.raw.now c.requires.verified c.args.room c.requires.room c.args.lists.now.stack.items c.args.lists.now.cells.items c.args.lists.now.frames.items c.args.lists.now.registers c.requires.ready
    c.args.instr c.requires.there).low

pub returns-in-Some : goal.returns-in-Some
returns-in-Some c =
    opened-fault c.args.raw.now c.requires.verified c.args.room c.requires.room c.args.lists.now c.requires.ready c.args.alts.now c.open.new.lists c.open.new.alts c.in-Some.kind
    (subst (Comes c.args.raw.now c.requires.verified c.args.room c.requires.room c.args.lists.now c.requires.ready c.args.alts.now c.open.new.lists c.open.new.alts) c.in-Some.is
    (opens-so c.args.raw.now c.requires.verified c.args.room c.requires.room c.args.lists.now c.requires.ready c.args.alts.now c.args.instr c.requires.there c.requires.offer c.open.new.lists c.open.new.alts
    c.in_ok-kind.field-0 c.in_ok-kind.ensures))

pub returns-then-lists-gt-MOST_STEPS : goal.returns-then-lists-gt-MOST_STEPS
returns-then-lists-gt-MOST_STEPS c =
    opened-many c.args.raw.now c.requires.verified c.args.room c.requires.room c.args.lists.now c.requires.ready c.args.alts.now c.open.new.lists c.open.new.alts c.in_ok-kind.field-0 c.in-None.is
    (opens-so c.args.raw.now c.requires.verified c.args.room c.requires.room c.args.lists.now c.requires.ready c.args.alts.now c.args.instr c.requires.there c.requires.offer c.open.new.lists c.open.new.alts
    c.in_ok-kind.field-0 c.in_ok-kind.ensures)
    c.if-lists-gt-MOST_STEPS.true

pub returns : goal.returns
returns c =
    opened-none c.args.raw.now c.requires.verified c.args.room c.requires.room c.args.lists.now c.requires.ready c.args.alts.now c.open.new.lists c.open.new.alts c.in_ok-kind.field-0 c.in-None.is
    (opens-so c.args.raw.now c.requires.verified c.args.room c.requires.room c.args.lists.now c.requires.ready c.args.alts.now c.args.instr c.requires.there c.requires.offer c.open.new.lists c.open.new.alts
    c.in_ok-kind.field-0 c.in_ok-kind.ensures)
    c.if-lists-gt-MOST_STEPS.false
