use Rattle.std.proofs.Common.{◌≡◌, drop, map, ◌++◌}
use Rattle.cc_names.specs.Plains.{transaction_of}
use Rattle.cc_names.proofs.text.transactions_in.Given as goal

abbrev pub invariant-loop-d : goal.invariant-loop-d
invariant-loop-d l = l.found ++ map (transaction_of l.fn.numbers.names l.fn.numbers.formats) (drop l.d-index l.all) ≡ map (transaction_of l.fn.numbers.names l.fn.numbers.formats) l.all
