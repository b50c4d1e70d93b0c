use Rattle.std.proofs.Common.{◌≡◌, drop}
use Rattle.cc_typed.specs.ClauseLists.{comparisons_noted_in, operations_noted_in, parts_noted_in, row_noted_in}
use Rattle.cc_typed.proofs.clauses.+noted_expressions.Given as goal

abbrev pub invariant-note_operations-loop-operation : goal.invariant-note_operations-loop-operation
invariant-note_operations-loop-operation l =
    operations_noted_in l.own l.seen (drop l.operation-index l.rest) ≡ operations_noted_in l.own l.fn.seen l.rest

abbrev pub invariant-note_comparisons-loop-compared : goal.invariant-note_comparisons-loop-compared
invariant-note_comparisons-loop-compared l =
    comparisons_noted_in l.own l.seen (drop l.compared-index l.rest) ≡ comparisons_noted_in l.own l.fn.seen l.rest

abbrev pub invariant-note_row-loop-e : goal.invariant-note_row-loop-e
invariant-note_row-loop-e l = row_noted_in l.own l.seen (drop l.e-index l.rest) ≡ row_noted_in l.own l.fn.seen l.rest

abbrev pub invariant-note_parts-loop-step : goal.invariant-note_parts-loop-step
invariant-note_parts-loop-step l = parts_noted_in l.own l.seen (drop l.step-index l.steps) ≡ parts_noted_in l.own l.fn.seen l.steps
