use Rattle.std.proofs.Common.{◌≡◌, drop}
use Rattle.std.specs.List.{list_all}
use Rattle.cc_typed.specs.Checked.{around}
use Rattle.cc_typed.specs.Typed.{is_number}
use Rattle.cc_typed.specs.TypedLists.{arguments_typed, comparisons_typed, operands_typed, operations_typed, parts_typed, steps_typed}
use Rattle.cc_typed.proofs.typed.Context.+typed_expressions.Given as goal

abbrev pub invariant-typed_place-loop-step : goal.invariant-typed_place-loop-step
invariant-typed_place-loop-step l =
    parts_typed (around l.self) l.t (drop l.step-index l.step-items) l.place.data_type ≡ parts_typed (around l.self) l.place.of l.place.steps l.place.data_type

abbrev pub invariant-typed_steps-loop-step : goal.invariant-typed_steps-loop-step
invariant-typed_steps-loop-step l =
    steps_typed (around l.self) l.t (drop l.step-index l.steps) l.last ≡ steps_typed (around l.self) l.fn.first l.steps l.last

abbrev pub invariant-typed_arguments-loop-at : goal.invariant-typed_arguments-loop-at
invariant-typed_arguments-loop-at l =
    arguments_typed (around l.self) (drop l.at l.args) (drop l.at l.types) ≡ arguments_typed (around l.self) l.args l.types

abbrev pub invariant-typed_operations-loop-operation : goal.invariant-typed_operations-loop-operation
invariant-typed_operations-loop-operation l =
    operations_typed (around l.self) l.left (drop l.operation-index l.rest) l.last ≡ operations_typed (around l.self) l.fn.first l.rest l.last

abbrev pub invariant-typed_comparisons-loop-compared : goal.invariant-typed_comparisons-loop-compared
invariant-typed_comparisons-loop-compared l =
    comparisons_typed (around l.self) l.left (drop l.compared-index l.rest) ≡ comparisons_typed (around l.self) l.fn.first l.rest

abbrev pub invariant-typed_operands-loop-e : goal.invariant-typed_operands-loop-e
invariant-typed_operands-loop-e l =
    operands_typed (around l.self) l.left (drop l.e-index l.rest) ≡ operands_typed (around l.self) l.fn.first l.rest

abbrev pub invariant-typed_numbers-loop-e : goal.invariant-typed_numbers-loop-e
invariant-typed_numbers-loop-e l =
    list_all (is_number (around l.self)) (drop l.e-index l.args) ≡ list_all (is_number (around l.self)) l.args
