use Rattle.std.proofs.Common.{◌≡◌, drop, map, ◌++◌}
use Rattle.cc_names.specs.Plains.{local_of}
use Rattle.cc_names.proofs.statements.locals.Given as goal

abbrev pub invariant-loop-d : goal.invariant-loop-d
invariant-loop-d l = l.found ++ map (local_of l.fn.numbers.names l.fn.numbers.formats l.of) (drop l.d-index l.all) ≡ map (local_of l.fn.numbers.names l.fn.numbers.formats l.of) (l.all)
