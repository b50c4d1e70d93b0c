-- What is found as a row: its first value and the steps behind it; it as a value; steps and parts behind it.
use Rattle.std.proofs.Common.{◌≡◌, ℕ, Bool, true, false, ◌&&◌, List, [], ◌∷◌, ◌++◌, refl, ap, ◌∙◌}
use Rattle.std.proofs.lemmas.Bool.{and_from, not_from_false}
use Rattle.std.specs.Prelude.{slice_get}
use Rattle.cc_typed.proofs.Partings.{same-type, type-same}
use Rattle.cc_typed.proofs.PhraseTypes.{type-Chain, type-Read}
use Rattle.cc_typed.proofs.Tables.{left, right}
use Rattle.cc_typed.proofs.TypedExpressions.{step-Call, step-Part, step-Send, typed-Chain, typed-Parenthesized, typed-Read}
use Rattle.cc_typed.specs.Missing.{parameters_at}
use Rattle.cc_typed.specs.Sequences.{is_empty}
use Rattle.cc_typed.specs.Typed.{Surroundings, is_called, is_part_step, is_place, is_sent, is_typed, is_typed_part, is_typed_step}
use Rattle.cc_typed.specs.TypedLists.{arguments_typed, parts_typed, steps_typed}
use Rattle.cc_typed.specs.Types.{is_same, type_after, type_after_step, type_of}
use Rattle.cc_typed.specs.declared.tree.Argument.{Argument}
use Rattle.cc_typed.specs.declared.tree.ChainStep.{ChainStep}
use Rattle.cc_typed.specs.declared.tree.ChainStep.TheBlock as E
use Rattle.cc_typed.specs.declared.tree.ChainStep.TheVariants as chain_step
use Rattle.cc_typed.specs.declared.tree.Expression.{Expression}
use Rattle.cc_typed.specs.declared.tree.Expression.TheVariants as expression
use Rattle.cc_typed.specs.declared.tree.PartStep.{PartStep}
use Rattle.cc_typed.specs.declared.types.DataType.{DataType}
use Rattle.cc_typed.specs.declared.types.DataType.TheVariants.{Void}
use Rattle.cc_faults.specs.Made.{behind, first_of, part_of, steps_of, type_in, value_of, with_step, within_parentheses}
use Rattle.cc_faults.specs.declared.scope.Found.{Found}
use Rattle.cc_faults.specs.declared.scope.Found.TheVariants as found
use Rattle.cc_sound.specs.Typing.{IsFound, IsRow}
use denote.Hole.Carrier.{hidden}

pub empty-more : (xs : List ChainStep) (c : ChainStep) → is_empty (xs ++ c ∷ []) ≡ false
empty-more [] c = refl
empty-more (x ∷ xs) c = refl

-- `a && b` is false where a step that is no part or a value that is no place shows it
off-left : (a b : Bool) → a ≡ false → (a && b) ≡ false
off-left true b e = absurd (true-false e)
  where
    true-false : true ≡ false → ⊥
    true-false h = cc
off-left false b e = refl

off-right : (a b : Bool) → b ≡ false → (a && b) ≡ false
off-right true b e = e
off-right false b e = refl

module _ (a : Surroundings) where
  parts-more : (t : DataType) (ps : List PartStep) (u : DataType) (p : PartStep) → parts_typed a t ps u ≡ true → is_typed_part a u p ≡ true → parts_typed a t (ps ++ p ∷ []) (type_after p) ≡ true
  parts-more t [] u p h i =
      let same : t ≡ u = same-type t u h in
      and_from _ _ (ap (λ v. is_typed_part a v p) same ∙ i) (type-same (type_after p))
  parts-more t (q ∷ ps) u p h i = and_from _ _ (left _ _ h) (parts-more (type_after q) ps u p (right _ _ h) i)

  steps-more : (t : DataType) (xs : List ChainStep) (u : DataType) (c : ChainStep) → steps_typed a t xs u ≡ true → is_typed_step a u c ≡ true → steps_typed a t (xs ++ c ∷ []) (type_after_step c) ≡ true
  steps-more t [] u c h i =
      let same : t ≡ u = same-type t u h in
      and_from _ _ (ap (λ v. is_typed_step a v c) same ∙ i) (type-same (type_after_step c))
  steps-more t (x ∷ xs) u c h i = and_from _ _ (left _ _ h) (steps-more (type_after_step x) xs u c (right _ _ h) i)

  -- a step behind a row: a part only where the row is no place
  row-more : (e : Expression) (xs : List ChainStep) (u : DataType) (c : ChainStep) → IsRow a e xs u → is_typed_step a u c ≡ true → ((is_empty xs && is_place e) && is_part_step c) ≡ false → IsRow a e (xs ++ c ∷ []) (type_after_step c)
  row-more e [] u c h i j = (h.0, steps-more (type_of e) [] u c h.1 i, j)
  row-more e (x ∷ xs) u c h i j = (h.0, steps-more (type_of e) (x ∷ xs) u c h.1 i, h.2)

  pub row-of : (v : Found) → IsFound a v → IsRow a (first_of v) (steps_of v) (type_in v)
  unfolding is_place type_after_step
  row-of (found.Place l) h =
      (typed-Read a l ∙ h, ap (λ t. is_same t l.data_type) (type-Read l) ∙ type-same l.data_type, off-right true false refl)
  row-of (found.Value e) h = (h.0, type-same (type_of e), off-right (is_place e) false refl)
  row-of (found.Chain e steps t) h = h.0
  row-of (found.Call e steps process trans args t) h =
      row-more e steps process (chain_step.Call trans args t) h.0 (step-Call a process trans args t ∙ and_from _ _ h.1 h.2) (off-right (is_empty steps && is_place e) false refl)

  -- a row as an expression, which is no place where it has a step
  pub behind-typed : (e : Expression) (xs : List ChainStep) (t : DataType) → IsRow a e xs t → (is_typed a (behind e xs t) ≡ true) × (type_of (behind e xs t) ≡ t)
  behind-typed e [] t h = (h.0, same-type (type_of e) t h.1)
  behind-typed e (x ∷ xs) t h =
      (typed-Chain a e (x ∷ xs) t ∙ and_from _ _ (and_from _ _ (not_from_false _ h.2) h.0) h.1, type-Chain e (x ∷ xs) t)

  behind-no-place : (e : Expression) (xs : List ChainStep) (t : DataType) → is_empty xs ≡ false → is_place (behind e xs t) ≡ false
  unfolding is_place
  behind-no-place e [] t h = absurd (true-false h)
    where
      true-false : true ≡ false → ⊥
      true-false h = cc
  behind-no-place e (x ∷ xs) t h = refl

  pub value-typed : (v : Found) → IsFound a v → (is_typed a (value_of v) ≡ true) × (type_of (value_of v) ≡ type_in v)
  value-typed v h = behind-typed (first_of v) (steps_of v) (type_in v) (row-of v h)

  abbrev IsNoPlace : Found → Type 0
  IsNoPlace (found.Place l) = ⊥
  IsNoPlace (found.Value e) = Unit {0}
  IsNoPlace (found.Chain e steps t) = Unit {0}
  IsNoPlace (found.Call e steps process trans args t) = Unit {0}

  value-no-place : (v : Found) → IsNoPlace v → IsFound a v → is_place (value_of v) ≡ false
  value-no-place (found.Place l) n h = absurd n
  value-no-place (found.Value e) n h = h.1
  value-no-place (found.Chain e steps t) n h = behind-no-place e steps t h.1
  value-no-place (found.Call e steps process trans args t) n h = behind-no-place e (steps ++ chain_step.Call trans args t ∷ []) t (empty-more steps (chain_step.Call trans args t))

  enclosed : (v : Found) → IsNoPlace v → IsFound a v → IsFound a (found.Value (expression.Parenthesized (value_of v) (type_in v)))
  unfolding is_place E.shape-the_row-Expression-2 E.hidden-the_row-Expression-2 hidden
  enclosed v n h =
      (typed-Parenthesized a (value_of v) (type_in v) ∙ and_from _ _ (value-typed v h).0 (ap (λ t. is_same t (type_in v)) (value-typed v h).1 ∙ type-same (type_in v)), value-no-place v n h)

  pub within-parentheses : (v : Found) → IsFound a v → IsFound a (within_parentheses v)
  within-parentheses (found.Place l) h = h
  within-parentheses (found.Value e) h = enclosed (found.Value e) tt h
  within-parentheses (found.Chain e steps t) h = enclosed (found.Chain e steps t) tt h
  within-parentheses (found.Call e steps process trans args t) h = enclosed (found.Call e steps process trans args t) tt h

  -- a step that is no part of a place
  step-behind : (v : Found) (c : ChainStep) → IsFound a v → is_typed_step a (type_in v) c ≡ true → ((is_empty (steps_of v) && is_place (first_of v)) && is_part_step c) ≡ false → IsFound a (with_step v c (type_after_step c))
  step-behind v c h i j = (row-more (first_of v) (steps_of v) (type_in v) c (row-of v h) i j, empty-more (steps_of v) c)

  no-place-behind : (v : Found) → IsNoPlace v → IsFound a v → (b : Bool) → ((is_empty (steps_of v) && is_place (first_of v)) && b) ≡ false
  no-place-behind (found.Place l) n h b = absurd n
  no-place-behind (found.Value e) n h b = off-left (is_place e) b h.1
  no-place-behind (found.Chain e steps t) n h b = off-left (is_empty steps && is_place e) b (off-left (is_empty steps) (is_place e) h.1)
  no-place-behind (found.Call e steps process trans args t) n h b =
      off-left (is_empty (steps ++ chain_step.Call trans args t ∷ []) && is_place e) b (off-left _ (is_place e) (empty-more steps (chain_step.Call trans args t)))

  part-behind : (v : Found) (p : PartStep) → IsNoPlace v → IsFound a v → is_typed_part a (type_in v) p ≡ true → IsFound a (with_step v (chain_step.Part p) (type_after p))
  unfolding type_after_step
  part-behind v p n h i = step-behind v (chain_step.Part p) h (step-Part a (type_in v) p ∙ i) (no-place-behind v n h true)

  pub part-typed : (v : Found) (p : PartStep) → IsFound a v → is_typed_part a (type_in v) p ≡ true → IsFound a (part_of v p)
  part-typed (found.Place l) p h i = and_from _ _ (left _ _ h) (parts-more l.of l.steps l.data_type p (right _ _ h) i)
  part-typed (found.Value e) p h i = part-behind (found.Value e) p tt h i
  part-typed (found.Chain e steps t) p h i = part-behind (found.Chain e steps t) p tt h i
  part-typed (found.Call e steps process trans args t) p h i = part-behind (found.Call e steps process trans args t) p tt h i

  pub send-typed : (v : Found) (trans : ℕ) (args : List Argument) → IsFound a v → is_sent (slice_get a.parts.transactions trans) (type_in v) ≡ true → arguments_typed a args (parameters_at (slice_get a.parts.transactions trans)) ≡ true
      → IsFound a (with_step v (chain_step.Send trans args) Void)
  unfolding type_after_step
  send-typed v trans args h i j = step-behind v (chain_step.Send trans args) h (step-Send a (type_in v) trans args ∙ and_from _ _ i j) (off-right (is_empty (steps_of v) && is_place (first_of v)) false refl)

  pub call-typed : (v : Found) (trans : ℕ) (args : List Argument) (t : DataType) → IsFound a v → is_called (slice_get a.parts.transactions trans) (type_in v) t ≡ true → arguments_typed a args (parameters_at (slice_get a.parts.transactions trans)) ≡ true
      → IsFound a (found.Call (first_of v) (steps_of v) (type_in v) trans args t)
  call-typed v trans args t h i j = (row-of v h, i, j)
