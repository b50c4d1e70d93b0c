use Rattle.std.proofs.Common.{◌≡◌, drop, map, ◌++◌}
use Rattle.cc_names.specs.Plains.{identifier}
use Rattle.cc_names.proofs.written.identifiers.Given as goal

abbrev pub invariant-loop-x : goal.invariant-loop-x
invariant-loop-x l = l.found ++ map (identifier l.fn.numbers.names l.fn.numbers.formats) (drop l.x-index l.all) ≡ map (identifier l.fn.numbers.names l.fn.numbers.formats) (l.all)
