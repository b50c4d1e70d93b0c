use Rattle.std.proofs.Common.{◌≡◌, drop, map, ◌++◌}
use Rattle.cc_names.specs.Plains.{item_of}
use Rattle.cc_names.proofs.text.items_of.Given as goal

abbrev pub invariant-loop-x : goal.invariant-loop-x
invariant-loop-x l = l.found ++ map (item_of l.fn.numbers.names l.fn.numbers.formats) (drop l.x-index l.all) ≡ map (item_of l.fn.numbers.names l.fn.numbers.formats) l.all
