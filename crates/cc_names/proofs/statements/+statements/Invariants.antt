use Rattle.std.proofs.Common.{◌≡◌, drop, map, ◌++◌}
use Rattle.cc_names.specs.PlainLists.{alternative}
use Rattle.cc_names.specs.Plains.{block_of_list}
use Rattle.cc_names.proofs.statements.+statements.Given as goal

abbrev pub invariant-block-loop-x : goal.invariant-block-loop-x
invariant-block-loop-x l = l.found ++ block_of_list l.fn.numbers.names l.fn.numbers.formats (drop l.x-index l.all) ≡ block_of_list l.fn.numbers.names l.fn.numbers.formats l.all

abbrev pub invariant-alternatives-loop-x : goal.invariant-alternatives-loop-x
invariant-alternatives-loop-x l = l.found ++ map (alternative l.fn.numbers.names l.fn.numbers.formats) (drop l.x-index l.all) ≡ map (alternative l.fn.numbers.names l.fn.numbers.formats) l.all
