use Rattle.std.proofs.Common.{◌++◌}
use Rattle.cc_vm.proofs.Fragments.{does-steps}
use Rattle.cc_vm.proofs.fragment.step.Goals as goal

pub returns : goal.returns
returns c =
    does-steps c.args.raw.now (c.args.args.now ++ c.args.env.now) c.args.at c.args.stack.now c.perform.new.stack c.perform.result c.instr_at-instr.result c.instr_at-instr.ensures.there c.instr_at-instr.ensures.room c.perform.ensures
