use Rattle.std.proofs.Common.{◌≡◌, drop}
use Rattle.std.specs.List.{list_all}
use Rattle.cc_rows.specs.Within.{is_comparison_within, is_operation_within, is_step_within, is_within}
use Rattle.cc_rows.proofs.phrases.+depths.Given as goal

abbrev pub invariant-are_steps_within-loop-step : goal.invariant-are_steps_within-loop-step
invariant-are_steps_within-loop-step l = list_all (is_step_within l.most) (drop l.step-index l.steps) ≡ list_all (is_step_within l.most) l.steps

abbrev pub invariant-are_operations_within-loop-operation : goal.invariant-are_operations_within-loop-operation
invariant-are_operations_within-loop-operation l =
    list_all (is_operation_within l.most) (drop l.operation-index l.rest) ≡ list_all (is_operation_within l.most) l.rest

abbrev pub invariant-are_comparisons_within-loop-compared : goal.invariant-are_comparisons_within-loop-compared
invariant-are_comparisons_within-loop-compared l =
    list_all (is_comparison_within l.most) (drop l.compared-index l.rest) ≡ list_all (is_comparison_within l.most) l.rest

abbrev pub invariant-are_within-loop-e : goal.invariant-are_within-loop-e
invariant-are_within-loop-e l = list_all (is_within l.most) (drop l.e-index l.rest) ≡ list_all (is_within l.most) l.rest
