use Rattle.std.proofs.Common.{◌≡◌, drop}
use Rattle.std.specs.List.{list_all}
use Rattle.cc_typed.specs.Clauses.{is_pure, is_pure_part}
use Rattle.cc_typed.proofs.clauses.+pure_expressions.Given as goal

abbrev pub invariant-pure_operations-loop-operation : goal.invariant-pure_operations-loop-operation
invariant-pure_operations-loop-operation l =
    list_all (λ o. is_pure l.depth o.operand) (drop l.operation-index l.rest) ≡ list_all (λ o. is_pure l.depth o.operand) l.rest

abbrev pub invariant-pure_comparisons-loop-compared : goal.invariant-pure_comparisons-loop-compared
invariant-pure_comparisons-loop-compared l =
    list_all (λ c. is_pure l.depth c.operand) (drop l.compared-index l.rest) ≡ list_all (λ c. is_pure l.depth c.operand) l.rest

abbrev pub invariant-pure_row-loop-e : goal.invariant-pure_row-loop-e
invariant-pure_row-loop-e l = list_all (is_pure l.depth) (drop l.e-index l.rest) ≡ list_all (is_pure l.depth) l.rest

abbrev pub invariant-pure_parts-loop-step : goal.invariant-pure_parts-loop-step
invariant-pure_parts-loop-step l = list_all (is_pure_part l.depth) (drop l.step-index l.steps) ≡ list_all (is_pure_part l.depth) l.steps
