use Rattle.std.proofs.Common.{◌≡◌, ◌+◌, drop}
use Rattle.cc_code.specs.Meaning.{environment_cells}
use Rattle.cc_vm.proofs.ranks.has_cells.Given as goal

abbrev pub invariant-loop-part : goal.invariant-loop-part
invariant-loop-part l = environment_cells l.parts + l.left ≡ l.cells + environment_cells (drop l.part-index l.parts)
