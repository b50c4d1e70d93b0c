use Rattle.std.proofs.Common.{◌≡◌, ◌+◌, ◌≤◌, length, take}
use Rattle.cc_code.specs.Works.{with_cells}
use Rattle.cc_vm.proofs.resumes.write_cells.Given as goal

abbrev pub invariant-loop-at : goal.invariant-loop-at
invariant-loop-at l = l.stack ≡ with_cells l.place (take l.at l.cells) l.initial.stack
