use Rattle.std.proofs.Common.{◌≡◌, drop}
use Rattle.std.specs.List.{list_all}
use Rattle.cc_source.proofs.Weights.{step_weight, step_weights, weight, weights}
use Rattle.cc_source.proofs.checks.+straight_expressions.Given as goal
use Rattle.cc_source.specs.Straight.{is_straight_argument, is_straight_step}

abbrev pub decreases-straight_expression : goal.decreases-straight_expression
decreases-straight_expression l = weight l.e.now

abbrev pub decreases-straight_step : goal.decreases-straight_step
decreases-straight_step l = step_weight l.step.now

abbrev pub decreases-straight_steps : goal.decreases-straight_steps
decreases-straight_steps l = step_weights l.steps.now

abbrev pub decreases-straight_arguments : goal.decreases-straight_arguments
decreases-straight_arguments l = weights l.args.now

abbrev pub invariant-straight_steps-loop-step : goal.invariant-straight_steps-loop-step
invariant-straight_steps-loop-step l =
    list_all is_straight_step (drop l.step-index l.steps) ≡ list_all is_straight_step l.steps

abbrev pub invariant-straight_arguments-loop-arg : goal.invariant-straight_arguments-loop-arg
invariant-straight_arguments-loop-arg l =
    list_all is_straight_argument (drop l.arg-index l.args) ≡ list_all is_straight_argument l.args
