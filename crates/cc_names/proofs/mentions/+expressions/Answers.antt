use Rattle.std.proofs.Common.{refl, sym, append_assoc, arith}
use Rattle.cc_names.specs.Mentions.{in_expression, in_step}
use Rattle.cc_names.specs.Seen.{in_all_equalities, in_all_expressions, in_all_orders, in_all_steps, in_all_sums, in_all_terms}
use Rattle.cc_names.proofs.Walks.{seen-end, seen-more}
use Rattle.cc_names.proofs.mentions.+expressions.Goals as goal

pub see_expressions-loop-e-preserved : goal.see_expressions-loop-e-preserved
see_expressions-loop-e-preserved t c =
    seen-more in_expression in_all_expressions (λ e es. refl) c.loop-e.numbers c.see_expression.new.numbers _ c.args.all.now c.loop-e.e-index c.e-item.result
    c.loop-e-test.true c.e-item.is c.in_ok-see_expression.ensures c.loop-e.invariant

pub see_expressions-returns : goal.see_expressions-returns
see_expressions-returns t c =
    seen-end in_expression in_all_expressions refl c.loop-e.numbers _ c.args.all.now c.loop-e.e-index (omega (arith, c.loop-e-test.false)) c.loop-e.invariant

pub see_equalities-loop-step-preserved : goal.see_equalities-loop-step-preserved
see_equalities-loop-step-preserved t c =
    seen-more (λ s. in_expression s.operand) in_all_equalities (λ s rest. refl) c.loop-step.numbers c.see_expression.new.numbers _ c.args.all.now c.loop-step.step-index c.step-item.result
    c.loop-step-test.true c.step-item.is c.in_ok-see_expression.ensures c.loop-step.invariant

pub see_equalities-returns : goal.see_equalities-returns
see_equalities-returns t c =
    seen-end (λ s. in_expression s.operand) in_all_equalities refl c.loop-step.numbers _ c.args.all.now c.loop-step.step-index (omega (arith, c.loop-step-test.false)) c.loop-step.invariant

pub see_orders-loop-step-preserved : goal.see_orders-loop-step-preserved
see_orders-loop-step-preserved t c =
    seen-more (λ s. in_expression s.operand) in_all_orders (λ s rest. refl) c.loop-step.numbers c.see_expression.new.numbers _ c.args.all.now c.loop-step.step-index c.step-item.result
    c.loop-step-test.true c.step-item.is c.in_ok-see_expression.ensures c.loop-step.invariant

pub see_orders-returns : goal.see_orders-returns
see_orders-returns t c =
    seen-end (λ s. in_expression s.operand) in_all_orders refl c.loop-step.numbers _ c.args.all.now c.loop-step.step-index (omega (arith, c.loop-step-test.false)) c.loop-step.invariant

pub see_sums-loop-step-preserved : goal.see_sums-loop-step-preserved
see_sums-loop-step-preserved t c =
    seen-more (λ s. in_expression s.operand) in_all_sums (λ s rest. refl) c.loop-step.numbers c.see_expression.new.numbers _ c.args.all.now c.loop-step.step-index c.step-item.result
    c.loop-step-test.true c.step-item.is c.in_ok-see_expression.ensures c.loop-step.invariant

pub see_sums-returns : goal.see_sums-returns
see_sums-returns t c =
    seen-end (λ s. in_expression s.operand) in_all_sums refl c.loop-step.numbers _ c.args.all.now c.loop-step.step-index (omega (arith, c.loop-step-test.false)) c.loop-step.invariant

pub see_terms-loop-step-preserved : goal.see_terms-loop-step-preserved
see_terms-loop-step-preserved t c =
    seen-more (λ s. in_expression s.operand) in_all_terms (λ s rest. refl) c.loop-step.numbers c.see_expression.new.numbers _ c.args.all.now c.loop-step.step-index c.step-item.result
    c.loop-step-test.true c.step-item.is c.in_ok-see_expression.ensures c.loop-step.invariant

pub see_terms-returns : goal.see_terms-returns
see_terms-returns t c =
    seen-end (λ s. in_expression s.operand) in_all_terms refl c.loop-step.numbers _ c.args.all.now c.loop-step.step-index (omega (arith, c.loop-step-test.false)) c.loop-step.invariant

pub see_steps-loop-step-preserved : goal.see_steps-loop-step-preserved
see_steps-loop-step-preserved t c =
    seen-more in_step in_all_steps (λ s rest. refl) c.loop-step.numbers c.see_step.new.numbers _ c.args.all.now c.loop-step.step-index c.step-item.result
    c.loop-step-test.true c.step-item.is c.in_ok-see_step.ensures c.loop-step.invariant

pub see_steps-returns : goal.see_steps-returns
see_steps-returns t c =
    seen-end in_step in_all_steps refl c.loop-step.numbers _ c.args.all.now c.loop-step.step-index (omega (arith, c.loop-step-test.false)) c.loop-step.invariant
