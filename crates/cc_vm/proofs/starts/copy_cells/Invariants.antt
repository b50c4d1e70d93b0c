use Rattle.std.proofs.Common.{◌≡◌, take}
use Rattle.cc_vm.proofs.starts.copy_cells.Given as goal

abbrev pub invariant-loop-at : goal.invariant-loop-at
invariant-loop-at l = l.copy.items ≡ take l.at l.cells
