use Rattle.std.proofs.Common.{◌≡◌, drop}
use Rattle.cc_code.specs.Works.{entry_of}
use Rattle.cc_vm.proofs.selects.entry_of.Given as goal

abbrev pub invariant-loop-entry : goal.invariant-loop-entry
invariant-loop-entry l = entry_of l.alt (drop l.entry-index l.table) ≡ entry_of l.alt l.table
