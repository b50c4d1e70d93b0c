use Rattle.std.proofs.Common.{◌≡◌, ◌++◌}
use Rattle.cc_vm.specs.Machine.{between}
use Rattle.cc_vm.proofs.offers.append_cells.Given as goal

abbrev pub invariant-loop-at : goal.invariant-loop-at
invariant-loop-at l = l.cells ≡ l.initial.cells ++ between l.from l.at l.list
