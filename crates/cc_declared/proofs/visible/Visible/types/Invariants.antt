use Rattle.std.proofs.Common.{◌≡◌, [], Ok, drop}
use Rattle.cc_faults.specs.Judged.{after_each}
use Rattle.cc_declared.specs.Walks.{and_type_found}
use Rattle.cc_declared.proofs.visible.Visible.types.Given as goal

abbrev pub invariant-loop-t : goal.invariant-loop-t
invariant-loop-t l = after_each (and_type_found l.self) (l.types, l.least) (drop l.t-index l.all) ≡ after_each (and_type_found l.self) (Ok [], l.fn.least) l.all
