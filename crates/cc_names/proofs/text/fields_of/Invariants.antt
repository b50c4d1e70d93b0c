use Rattle.std.proofs.Common.{◌≡◌, drop, map, ◌++◌}
use Rattle.cc_names.specs.Plains.{fields_of}
use Rattle.cc_names.proofs.text.fields_of.Given as goal

abbrev pub invariant-loop-f : goal.invariant-loop-f
invariant-loop-f l = l.found ++ fields_of l.fn.numbers.names l.fn.numbers.formats (drop l.f-index l.all) ≡ fields_of l.fn.numbers.names l.fn.numbers.formats l.all
