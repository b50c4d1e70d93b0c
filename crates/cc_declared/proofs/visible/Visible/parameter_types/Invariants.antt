use Rattle.std.proofs.Common.{◌≡◌, [], Ok, drop}
use Rattle.cc_faults.specs.Judged.{after_each}
use Rattle.cc_declared.specs.Walks.{and_parameter_found}
use Rattle.cc_declared.proofs.visible.Visible.parameter_types.Given as goal

abbrev pub invariant-loop-p : goal.invariant-loop-p
invariant-loop-p l = after_each (and_parameter_found l.self) (l.types, l.least) (drop l.p-index l.all) ≡ after_each (and_parameter_found l.self) (Ok [], l.fn.least) l.all
