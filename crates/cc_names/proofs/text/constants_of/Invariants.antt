use Rattle.std.proofs.Common.{◌≡◌, drop, map, ◌++◌}
use Rattle.cc_names.specs.Plains.{constant_of}
use Rattle.cc_names.proofs.text.constants_of.Given as goal

abbrev pub invariant-loop-c : goal.invariant-loop-c
invariant-loop-c l = l.found ++ map (constant_of l.fn.numbers.names l.fn.numbers.formats) (drop l.c-index l.all) ≡ map (constant_of l.fn.numbers.names l.fn.numbers.formats) l.all
