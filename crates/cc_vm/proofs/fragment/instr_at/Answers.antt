use Rattle.std.proofs.Common.{◌++◌}
use Rattle.cc_vm.proofs.Found.{low, room}
use Rattle.cc_vm.proofs.fragment.instr_at.Goals as goal

pub instr_of-requires : goal.instr_of-requires
instr_of-requires c = c.requires.ready.address

pub returns-clause-room : goal.returns-clause-room
returns-clause-room c =
    room c.args.raw.now c.requires.verified (c.args.args.now ++ c.args.env.now) c.args.at c.args.stack.now c.requires.ready c.instr_of.result c.instr_of.ensures

pub returns-clause-low : goal.returns-clause-low
returns-clause-low c =
    low c.args.raw.now c.requires.verified (c.args.args.now ++ c.args.env.now) c.args.at c.args.stack.now c.requires.ready c.instr_of.result c.instr_of.ensures
