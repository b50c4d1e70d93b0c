use Rattle.std.proofs.Common.{◌≡◌, drop, map, ◌++◌}
use Rattle.cc_names.specs.Plains.{parameter_type}
use Rattle.cc_names.proofs.written.parameter_types.Given as goal

abbrev pub invariant-loop-p : goal.invariant-loop-p
invariant-loop-p l = l.found ++ map (parameter_type l.fn.numbers.names l.fn.numbers.formats) (drop l.p-index l.all) ≡ map (parameter_type l.fn.numbers.names l.fn.numbers.formats) (l.all)
