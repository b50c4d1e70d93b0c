use Rattle.std.proofs.Common.{rules, ◌≡◌, true, not, ◌&&◌, ◌++◌, pos, get_or, ap, sym, ◌∙◌, subst, arith}
use Rattle.std.specs.List.{list_all}
use Rattle.std.specs.Prelude.{IfOk, slice_get, length}
use Rattle.cc_base.specs.Outcome.{Through, and_then}
use Rattle.cc_source.proofs.Conversions.{called-cells}
use Rattle.cc_source.proofs.Evaluations.{arguments-fine, given-step, regive, straight-variable}
use Rattle.cc_source.proofs.Means.{eval-Assign, eval-Parenthesized, step-Call}
use Rattle.cc_source.proofs.Straight.{straight-Assign, straight-Chain, straight-Read, step-Call as straight-Call}
use Rattle.cc_source.proofs.Weights.{step_weight, step_weight-Call, step_weights, weight, weight-Assign, weight-Chain, weights}
use Rattle.cc_source.specs.Gives.{around, caller, is_typed_argument, left, scope, size, structures_of, value}
use Rattle.cc_source.specs.Known.{and-left, and-right}
use Rattle.cc_source.specs.Lists.{assigned, called_value, cells_given}
use Rattle.cc_source.specs.Meaning.{eval, step_from}
use Rattle.cc_source.specs.Straight.{is_straight, is_straight_argument, is_straight_location, is_straight_step, is_straight_value}
use Rattle.cc_typed.proofs.Flat.{flat-unflat}
use Rattle.cc_typed.proofs.Partings.{same-type}
use Rattle.cc_typed.proofs.PhraseTypes.{after-Call, type-Assign, type-Parenthesized}
use Rattle.cc_typed.proofs.TypedExpressions.{step-Call as typed-Call, typed-Assign, typed-Chain, typed-Parenthesized, typed-Read}
use Rattle.cc_typed.specs.Missing.{parameters_at}
use Rattle.cc_typed.specs.Table.{layout_of}
use Rattle.cc_typed.specs.Typed.{is_called, is_place, is_typed, is_typed_step}
use Rattle.cc_typed.specs.TypedLists.{arguments_typed, is_part_first, is_typed_location, steps_typed}
use Rattle.cc_typed.specs.Types.{is_assignable, is_same, type_after_step, type_of}
use Rattle.cc_source.proofs.evaluator.Evaluator.+expressions.Goals as goal

pub expression-variable-requires-clause-typed : goal.expression-variable-requires-clause-typed
expression-variable-requires-clause-typed t c =
    let at = c.in-Read.from in
    let s = around c.args.self.now in
    let straight : is_straight_location at ≡ true = sym (straight-Read at) ∙ ap is_straight (sym c.in-Read.is) ∙ c.requires.straight in
    let typed : is_typed_location s at ≡ true = sym (typed-Read s at) ∙ ap (is_typed s) (sym c.in-Read.is) ∙ c.requires.typed in
    straight-variable s at straight typed

pub expression-expression-requires-in-Chain : goal.expression-expression-requires-in-Chain
expression-expression-requires-in-Chain t c =
    let s = around c.args.self.now in
    let e = c.in-Chain.first in
    let steps = c.in-Chain.steps in
    let u = c.in-Chain.data_type in
    let found = c.get-in-Chain.ensures in
    let straight : (is_straight e && list_all is_straight_step steps && is_straight_value u) ≡ true =
    sym (straight-Chain e steps u) ∙ ap is_straight (sym c.in-Chain.is) ∙ c.requires.straight in
    let typed : (not (is_place e && is_part_first steps) && is_typed s e && steps_typed s (type_of e) steps u) ≡ true =
    sym (typed-Chain s e steps u) ∙ ap (is_typed s) (sym c.in-Chain.is) ∙ c.requires.typed in
    let lighter = ap weight c.in-Chain.is ∙ weight-Chain e steps u in
    let same = ap weight found in (
      omega (arith, lighter, same, c.decreases),
      (
        c.requires.table,
        (
          c.requires.stands,
          (
            ap is_straight found ∙ and-left _ _ (and-left _ _ straight),
            ap (is_typed s) found ∙ and-right (not (is_place e && is_part_first steps)) _ (and-left _ _ typed),
          ),
        ),
      ),
    )

pub expression-along-requires : goal.expression-along-requires
expression-along-requires t c =
    let self = c.args.self.now in
    let s = around self in
    let e = c.in-Chain.first in
    let steps = c.in-Chain.steps in
    let u = c.in-Chain.data_type in
    let all = c.as_slice.ensures in
    let first : c.data_type.result ≡ type_of e = c.data_type.ensures.type_of ∙ ap type_of c.get-in-Chain-2.ensures in
    let straight : (is_straight e && list_all is_straight_step steps && is_straight_value u) ≡ true =
    sym (straight-Chain e steps u) ∙ ap is_straight (sym c.in-Chain.is) ∙ c.requires.straight in
    let typed : (not (is_place e && is_part_first steps) && is_typed s e && steps_typed s (type_of e) steps u) ≡ true =
    sym (typed-Chain s e steps u) ∙ ap (is_typed s) (sym c.in-Chain.is) ∙ c.requires.typed in
    let lighter = ap weight c.in-Chain.is ∙ weight-Chain e steps u in
    let same = ap step_weights all in (
      omega (arith, lighter, same, c.decreases),
      (
        c.requires.table,
        (
          c.in_ok-cells-in-Chain.ensures.stands,
          (
            ap (list_all is_straight_step) all ∙ and-right (is_straight e) _ (and-left _ _ straight),
            (
              ap (λ x. steps_typed s x c.as_slice.result.now u) first ∙ ap (λ xs. steps_typed s (type_of e) xs u) all
                  ∙ and-right (not (is_place e && is_part_first steps) && is_typed s e) _ typed,
              c.in_ok-cells-in-Chain.ensures.size ∙ ap (size self) (ap type_of c.get-in-Chain.ensures ∙ sym first),
            ),
          ),
        ),
      ),
    )

pub expression-expression-requires-in-Assign : goal.expression-expression-requires-in-Assign
expression-expression-requires-in-Assign t c =
    let s = around c.args.self.now in
    let to = c.in-Assign.to in
    let e = c.in-Assign.value in
    let found = c.get-in-Assign.ensures in
    let straight : (is_straight_location to && is_straight e) ≡ true =
    sym (straight-Assign to e) ∙ ap is_straight (sym c.in-Assign.is) ∙ c.requires.straight in
    let typed : (is_typed_location s to && is_typed s e && is_assignable (type_of e) to.data_type) ≡ true =
    sym (typed-Assign s to e) ∙ ap (is_typed s) (sym c.in-Assign.is) ∙ c.requires.typed in
    let lighter = ap weight c.in-Assign.is ∙ weight-Assign to e in
    let same = ap weight found in (
      omega (arith, lighter, same, c.decreases),
      (
        c.requires.table,
        (
          c.requires.stands,
          (
            ap is_straight found ∙ and-right (is_straight_location to) _ straight,
            ap (is_typed s) found ∙ and-right (is_typed_location s to) _ (and-left _ _ typed),
          ),
        ),
      ),
    )

pub expression-assign-requires-clause-straight : goal.expression-assign-requires-clause-straight
expression-assign-requires-clause-straight t c =
    and-left _ _ (sym (straight-Assign c.in-Assign.to c.in-Assign.value) ∙ ap is_straight (sym c.in-Assign.is) ∙ c.requires.straight)

pub expression-assign-requires-clause-typed : goal.expression-assign-requires-clause-typed
expression-assign-requires-clause-typed t c =
    let s = around c.args.self.now in
    and-left _ _ (and-left _ _ (sym (typed-Assign s c.in-Assign.to c.in-Assign.value) ∙ ap (is_typed s) (sym c.in-Assign.is) ∙ c.requires.typed))

pub expression-assign-requires-clause-assignable : goal.expression-assign-requires-clause-assignable
expression-assign-requires-clause-assignable t c =
    let s = around c.args.self.now in
    let to = c.in-Assign.to in
    let e = c.in-Assign.value in
    let typed : (is_typed_location s to && is_typed s e && is_assignable (type_of e) to.data_type) ≡ true =
    sym (typed-Assign s to e) ∙ ap (is_typed s) (sym c.in-Assign.is) ∙ c.requires.typed in
    ap (λ u. is_assignable u to.data_type) (c.data_type-in-Assign.ensures.type_of ∙ ap type_of c.get-in-Assign-2.ensures)
    ∙ and-right (is_typed_location s to && is_typed s e) _ typed

pub expression-returns-in-Parenthesized-clause-value : goal.expression-returns-in-Parenthesized-clause-value
expression-returns-in-Parenthesized-clause-value t c =
    let self = c.args.self.now in
    let s = around self in
    let e = c.in-Parenthesized.operand in
    let u = c.in-Parenthesized.data_type in
    let p = self.program.now in
    let sc = scope self c.args.run.now in
    let l = left c.args.run.now in
    let typed : (is_typed s e && is_same (type_of e) u) ≡ true =
    sym (typed-Parenthesized s e u) ∙ ap (is_typed s) (sym c.in-Parenthesized.is) ∙ c.requires.typed in
    let same : type_of c.get.result.now ≡ type_of c.args.e.now =
    ap type_of c.get.ensures ∙ same-type (type_of e) u (and-right (is_typed s e) _ typed) ∙ sym (ap type_of c.in-Parenthesized.is ∙ type-Parenthesized e u) in
    let means : eval p (caller self) c.get.result.now sc l ≡ eval p (caller self) c.args.e.now sc l =
    ap (λ x. eval p (caller self) x sc l) c.get.ensures ∙ sym (eval-Parenthesized p (caller self) e u sc l)
    ∙ ap (λ x. eval p (caller self) x sc l) (sym c.in-Parenthesized.is) in
    regive self (type_of c.get.result.now) (type_of c.args.e.now) c.expression.result c.expression.new.run _ _ same means c.expression.ensures.value

pub expression-returns-in-Parenthesized-clause-size : goal.expression-returns-in-Parenthesized-clause-size
expression-returns-in-Parenthesized-clause-size t c =
    let self = c.args.self.now in
    let s = around self in
    let e = c.in-Parenthesized.operand in
    let u = c.in-Parenthesized.data_type in
    let typed : (is_typed s e && is_same (type_of e) u) ≡ true =
    sym (typed-Parenthesized s e u) ∙ ap (is_typed s) (sym c.in-Parenthesized.is) ∙ c.requires.typed in
    let same : type_of c.get.result.now ≡ type_of c.args.e.now =
    ap type_of c.get.ensures ∙ same-type (type_of e) u (and-right (is_typed s e) _ typed) ∙ sym (ap type_of c.in-Parenthesized.is ∙ type-Parenthesized e u) in
    subst (λ w. IfOk c.expression.result (λ cs. length cs ≡ size self w)) same c.expression.ensures.size

pub expression-returns-in_err-cells-in-Assign-clause-value : goal.expression-returns-in_err-cells-in-Assign-clause-value
expression-returns-in_err-cells-in-Assign-clause-value t c =
    let self = c.args.self.now in
    let to = c.in-Assign.to in
    let e = c.in-Assign.value in
    let p = self.program.now in
    let k = caller self in
    let sc = scope self c.args.run.now in
    let l = left c.args.run.now in
    let found = c.get-in-Assign.ensures in
    let straight : is_straight_location to ≡ true = and-left _ _ (sym (straight-Assign to e) ∙ ap is_straight (sym c.in-Assign.is) ∙ c.requires.straight) in
    let means : eval p k c.args.e.now sc l ≡ and_then (eval p k c.get-in-Assign.result.now sc l) (assigned (type_of c.get-in-Assign.result.now) to.data_type to.variable) =
    ap (λ x. eval p k x sc l) c.in-Assign.is ∙ eval-Assign p k to e sc l straight
    ∙ ap (λ x. and_then (eval p k x sc l) (assigned (type_of x) to.data_type to.variable)) (sym found) in
    search rules

pub expression-returns-in_ok-cells-in-Assign-clause-value : goal.expression-returns-in_ok-cells-in-Assign-clause-value
expression-returns-in_ok-cells-in-Assign-clause-value t c =
    let self = c.args.self.now in
    let to = c.in-Assign.to in
    let e = c.in-Assign.value in
    let p = self.program.now in
    let k = caller self in
    let sc = scope self c.args.run.now in
    let l = left c.args.run.now in
    let run = c.expression-in-Assign.new.run in
    let found = c.get-in-Assign.ensures in
    let cells = c.in_ok-cells-in-Assign.cells in
    let straight : is_straight_location to ≡ true = and-left _ _ (sym (straight-Assign to e) ∙ ap is_straight (sym c.in-Assign.is) ∙ c.requires.straight) in
    let from : type_of c.get-in-Assign.result.now ≡ c.data_type-in-Assign.result =
    sym (c.data_type-in-Assign.ensures.type_of ∙ ap type_of (c.get-in-Assign-2.ensures ∙ sym found)) in
    let means : eval p k c.args.e.now sc l ≡ assigned c.data_type-in-Assign.result to.data_type to.variable (value self c.data_type-in-Assign.result cells) (scope self run) (left run) =
    ap (λ x. eval p k x sc l) c.in-Assign.is
    ∙ eval-Assign p k to e sc l straight
    ∙ ap (λ x. and_then (eval p k x sc l) (assigned (type_of x) to.data_type to.variable)) (sym found)
    ∙ ap (λ o. and_then o (assigned (type_of c.get-in-Assign.result.now) to.data_type to.variable)) c.in_ok-cells-in-Assign.ensures.value
    ∙ ap (λ u. assigned u to.data_type to.variable (value self u cells) (scope self run) (left run)) from in
    let same : to.data_type ≡ type_of c.args.e.now = sym (ap type_of c.in-Assign.is ∙ type-Assign to e) in
    regive self to.data_type (type_of c.args.e.now) c.assign.result c.assign.new.run _ _ same (sym means) c.assign.ensures.value

pub step-arguments-requires : goal.step-arguments-requires
step-arguments-requires t c =
    let s = around c.args.self.now in
    let trans = c.in-Call.transaction in
    let args = c.in-Call.args in
    let u = c.in-Call.data_type in
    let all = c.as_slice.ensures in
    let straight : (list_all is_straight_argument args && is_straight_value u) ≡ true =
    sym (straight-Call trans args u) ∙ ap is_straight_step (sym c.in-Call.is) ∙ c.requires.straight in
    let typed : (is_called (slice_get s.parts.transactions trans) c.args.from u && arguments_typed s args (parameters_at (slice_get s.parts.transactions trans))) ≡ true =
    sym (typed-Call s c.args.from trans args u) ∙ ap (is_typed_step s c.args.from) (sym c.in-Call.is) ∙ c.requires.typed in
    let lighter = ap step_weight c.in-Call.is ∙ step_weight-Call trans args u in
    let same = ap weights all in (
      omega (arith, lighter, same, c.decreases),
      (
        c.requires.table,
        (
          c.requires.stands,
          (
            ap (list_all is_straight_argument) all ∙ and-left _ _ straight,
            ap (list_all (is_typed_argument s)) all
                ∙ arguments-fine s args (parameters_at (slice_get s.parts.transactions trans)) (and-right (is_called (slice_get s.parts.transactions trans) c.args.from u) _ typed),
          ),
        ),
      ),
    )

pub step-returns-clause-value : goal.step-returns-clause-value
step-returns-clause-value t c =
    let self = c.args.self.now in
    let s = around self in
    let p = self.program.now in
    let k = caller self in
    let from = c.args.from in
    let whole = c.args.whole.now in
    let trans = c.in-Call.transaction in
    let args = c.in-Call.args in
    let u = c.in-Call.data_type in
    let sc = scope self c.args.run.now in
    let l = left c.args.run.now in
    let run = c.arguments.new.run in
    let given = c.in_ok-args-in-Call.args in
    let typed : (is_called (slice_get s.parts.transactions trans) from u && arguments_typed s args (parameters_at (slice_get s.parts.transactions trans))) ≡ true =
    sym (typed-Call s from trans args u) ∙ ap (is_typed_step s from) (sym c.in-Call.is) ∙ c.requires.typed in
    let means : step_from p k from (value self from whole) c.args.step.now sc l ≡ called_value p trans u (get_or whole 0 (pos 0)) given (scope self run) (left run) =
    ap (λ x. step_from p k from (value self from whole) x sc l) c.in-Call.is
    ∙ step-Call p k from (value self from whole) trans args u sc l
    ∙ ap (λ n. and_then (cells_given p k args sc l) (called_value p trans u n)) (called-cells (structures_of self) (slice_get s.parts.transactions trans) from u whole (and-left _ _ typed))
    ∙ ap (λ xs. and_then (cells_given p k xs sc l) (called_value p trans u (get_or whole 0 (pos 0)))) (sym c.as_slice.ensures)
    ∙ ap (λ o. and_then o (called_value p trans u (get_or whole 0 (pos 0)))) c.in_ok-args-in-Call.ensures.cells in
    let same : u ≡ type_after_step c.args.step.now = sym (ap type_after_step c.in-Call.is ∙ after-Call trans args u) in
    regive self u (type_after_step c.args.step.now) c.transact.result c.transact.new.run _ _ same (sym means) c.transact.ensures.value

pub arguments-loop-arg-preserved : goal.arguments-loop-arg-preserved
arguments-loop-arg-preserved t c =
    let self = c.args.self.now in
    let p = self.program.now in
    let k = caller self in
    let arg = c.arg-item.result in
    let run = c.expression.new.run in
    let cells = c.in_ok-cells.cells in
    let fitting = c.in_ok-cells-2.cells in
    let before = c.loop-arg.run in
    let kept = flat-unflat (layout_of (structures_of self) arg.data_type) fitting c.in_ok-cells-2.ensures.size in
    let evaluated = c.in_ok-cells.ensures.value ∙ ap (λ u. Through (value self u cells) (scope self run) (left run)) (sym c.data_type.ensures.type_of) in
    let longer = c.in_ok-append.ensures.cells ∙ ap (λ xs. c.loop-arg.all ++ xs) c.as_slice.ensures in
    let step =
    given-step p k c.args.args.now c.loop-arg.arg-index arg c.loop-arg.all fitting c.append.new.all c.data_type.result (value self c.data_type.result cells) (value self arg.data_type fitting)
    (scope self before) (scope self run) (scope self run) (left before) (left run) (left run) c.loop-arg-test.true c.arg-item.is evaluated c.data_type.ensures.type_of c.in_ok-cells-2.ensures.value kept longer in
    (sym step ∙ c.loop-arg.invariant.0, c.in_ok-cells.ensures.stands)
