use Rattle.std.proofs.Common.{◌≡◌, ◌+◌, ◌++◌, true, drop, length}
use Rattle.cc_base.specs.Outcome.{Through, and_then}
use Rattle.cc_source.specs.Gives.{Stands, around, caller, left, scope, size, value}
use Rattle.cc_source.specs.Lists.{cells_given, value_after}
use Rattle.cc_source.proofs.Weights.{step_weight, step_weights, weight, weights}
use Rattle.cc_typed.specs.TypedLists.{steps_typed}
use Rattle.cc_source.proofs.evaluator.Evaluator.+expressions.Given as goal

abbrev pub decreases-expression : goal.decreases-expression
decreases-expression l = weight l.e.now

abbrev pub decreases-along : goal.decreases-along
decreases-along l = step_weights l.steps.now

abbrev pub decreases-step : goal.decreases-step
decreases-step l = step_weight l.step.now

abbrev pub decreases-arguments : goal.decreases-arguments
decreases-arguments l = weights l.args.now

abbrev pub decreases-create : goal.decreases-create
decreases-create l = 1 + weights l.args.now

abbrev pub invariant-along-loop-step : goal.invariant-along-loop-step
invariant-along-loop-step l =
    (value_after l.self.program.now (caller l.self) l.data_type (value l.self l.data_type l.cells) (drop l.step-index l.steps) (scope l.self l.run) (left l.run)
    ≡ value_after l.self.program.now (caller l.self) l.fn.from (value l.self l.fn.from l.fn.whole) l.steps (scope l.self l.fn.run) (left l.fn.run))
    × (length l.cells ≡ size l.self l.data_type)
    × (steps_typed (around l.self) l.data_type (drop l.step-index l.steps) l.fn.to ≡ true)
    × Stands l.self l.run

abbrev pub invariant-arguments-loop-arg : goal.invariant-arguments-loop-arg
invariant-arguments-loop-arg l =
    (and_then (cells_given l.self.program.now (caller l.self) (drop l.arg-index l.args) (scope l.self l.run) (left l.run)) (λ cs sc left. Through (l.all ++ cs) sc left)
    ≡ cells_given l.self.program.now (caller l.self) l.args (scope l.self l.fn.run) (left l.fn.run))
    × Stands l.self l.run
