use Rattle.std.proofs.Common.{◌≡◌, [], drop}
use Rattle.cc_faults.specs.Judged.{after_each}
use Rattle.cc_declared.specs.Entering.{and_parameter_name}
use Rattle.cc_declared.proofs.bodies.parameters_once.Given as goal

abbrev pub invariant-loop-p : goal.invariant-loop-p
invariant-loop-p l = after_each and_parameter_name (l.least, l.names) (drop l.p-index l.all) ≡ after_each and_parameter_name (l.fn.least, []) l.all
