use Rattle.std.proofs.Common.{◌++◌, ◌-◌, length}
use Rattle.cc_vm.proofs.Fragments.{Reached}
use Rattle.cc_vm.proofs.fragment.value.Given as goal

abbrev pub invariant-instructions : goal.invariant-instructions
invariant-instructions l = Reached l.raw (l.args ++ l.env) l.entry l.at l.stack

abbrev pub decreases-instructions : goal.decreases-instructions
decreases-instructions l = length l.raw.instrs - l.at
