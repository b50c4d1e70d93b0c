use Rattle.std.proofs.Common.{◌≡◌, drop}
use Rattle.cc_names.specs.Seen.{after, in_all_equalities, in_all_expressions, in_all_orders, in_all_steps, in_all_sums, in_all_terms}
use Rattle.cc_names.proofs.mentions.+expressions.Given as goal

abbrev pub invariant-see_expressions-loop-e : goal.invariant-see_expressions-loop-e
invariant-see_expressions-loop-e l = after l.numbers (in_all_expressions (drop l.e-index l.all)) ≡ after l.fn.numbers (in_all_expressions l.all)

abbrev pub invariant-see_equalities-loop-step : goal.invariant-see_equalities-loop-step
invariant-see_equalities-loop-step l = after l.numbers (in_all_equalities (drop l.step-index l.all)) ≡ after l.fn.numbers (in_all_equalities l.all)

abbrev pub invariant-see_orders-loop-step : goal.invariant-see_orders-loop-step
invariant-see_orders-loop-step l = after l.numbers (in_all_orders (drop l.step-index l.all)) ≡ after l.fn.numbers (in_all_orders l.all)

abbrev pub invariant-see_sums-loop-step : goal.invariant-see_sums-loop-step
invariant-see_sums-loop-step l = after l.numbers (in_all_sums (drop l.step-index l.all)) ≡ after l.fn.numbers (in_all_sums l.all)

abbrev pub invariant-see_terms-loop-step : goal.invariant-see_terms-loop-step
invariant-see_terms-loop-step l = after l.numbers (in_all_terms (drop l.step-index l.all)) ≡ after l.fn.numbers (in_all_terms l.all)

abbrev pub invariant-see_steps-loop-step : goal.invariant-see_steps-loop-step
invariant-see_steps-loop-step l = after l.numbers (in_all_steps (drop l.step-index l.all)) ≡ after l.fn.numbers (in_all_steps l.all)
