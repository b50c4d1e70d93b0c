use Rattle.std.proofs.Common.{◌≡◌, [], drop}
use Rattle.cc_faults.specs.Judged.{after_each}
use Rattle.cc_declared.specs.Entering.{and_name_found}
use Rattle.cc_declared.proofs.bodies.names_once.Given as goal

abbrev pub invariant-loop-x : goal.invariant-loop-x
invariant-loop-x l = after_each and_name_found (l.least, l.names) (drop l.x-index l.all) ≡ after_each and_name_found (l.fn.least, []) l.all
