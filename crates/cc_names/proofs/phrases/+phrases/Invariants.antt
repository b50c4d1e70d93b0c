use Rattle.std.proofs.Common.{◌≡◌, drop, map, ◌++◌}
use Rattle.cc_names.specs.PlainLists.{equality_step, order_step, sum_step, term_step}
use Rattle.cc_names.specs.Plains.{plain_expression, plain_step}
use Rattle.cc_names.proofs.phrases.+phrases.Given as goal

abbrev pub invariant-phrases-loop-x : goal.invariant-phrases-loop-x
invariant-phrases-loop-x l = l.found ++ map (plain_expression l.fn.numbers.names l.fn.numbers.formats) (drop l.x-index l.all) ≡ map (plain_expression l.fn.numbers.names l.fn.numbers.formats) l.all

abbrev pub invariant-equalities-loop-x : goal.invariant-equalities-loop-x
invariant-equalities-loop-x l = l.found ++ map (equality_step l.fn.numbers.names l.fn.numbers.formats) (drop l.x-index l.all) ≡ map (equality_step l.fn.numbers.names l.fn.numbers.formats) l.all

abbrev pub invariant-orders-loop-x : goal.invariant-orders-loop-x
invariant-orders-loop-x l = l.found ++ map (order_step l.fn.numbers.names l.fn.numbers.formats) (drop l.x-index l.all) ≡ map (order_step l.fn.numbers.names l.fn.numbers.formats) l.all

abbrev pub invariant-sums-loop-x : goal.invariant-sums-loop-x
invariant-sums-loop-x l = l.found ++ map (sum_step l.fn.numbers.names l.fn.numbers.formats) (drop l.x-index l.all) ≡ map (sum_step l.fn.numbers.names l.fn.numbers.formats) l.all

abbrev pub invariant-terms-loop-x : goal.invariant-terms-loop-x
invariant-terms-loop-x l = l.found ++ map (term_step l.fn.numbers.names l.fn.numbers.formats) (drop l.x-index l.all) ≡ map (term_step l.fn.numbers.names l.fn.numbers.formats) l.all

abbrev pub invariant-plain_steps-loop-x : goal.invariant-plain_steps-loop-x
invariant-plain_steps-loop-x l = l.found ++ map (plain_step l.fn.numbers.names l.fn.numbers.formats) (drop l.x-index l.all) ≡ map (plain_step l.fn.numbers.names l.fn.numbers.formats) l.all
