use Rattle.std.proofs.Common.{◌≡◌, drop, map, ◌++◌}
use Rattle.cc_names.specs.Plains.{field_of}
use Rattle.cc_names.proofs.text.push_fields.Given as goal

abbrev pub invariant-loop-d : goal.invariant-loop-d
invariant-loop-d l = l.found ++ map (field_of l.fn.numbers.names l.fn.numbers.formats l.of) (drop l.d-index l.all) ≡ l.fn.found ++ map (field_of l.fn.numbers.names l.fn.numbers.formats l.of) l.all
