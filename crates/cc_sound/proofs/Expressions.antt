-- What is found of an expression is typed.
use Rattle.std.proofs.Common.{◌≡◌, ℕ, suc, ◌+◌, ◌<◌, ℤ, pos, Bool, true, false, not, ◌&&◌, List, [], ◌∷◌, length, drop, Option, Some, Ok, refl, ap, sym, subst, ◌∙◌, arith}
use Rattle.std.proofs.lemmas.Bool.{and_from, eq-eqb, eqb-true, ltb-true}
use Rattle.std.proofs.lemmas.List.{drop_all}
use Rattle.std.specs.List.{list_all}
use Rattle.std.specs.Prelude.{if◌then◌else◌, slice_get, nat_eq, nat_lt}
use Rattle.cc_base.specs.Formats.{conversions, is_format}
use Rattle.cc_base.specs.Numbers.{fits, is_int}
use Rattle.cc_base.specs.declared.names.Place.{Place}
use Rattle.cc_base.specs.declared.numbers.Comparison.{Comparison}
use Rattle.cc_base.specs.declared.numbers.NumberType.{NumberType}
use Rattle.cc_base.specs.declared.numbers.NumberType.TheVariants as numeric
use Rattle.cc_base.specs.declared.numbers.Operator.{Operator}
use Rattle.cc_typed.proofs.Partings.{type-same}
use Rattle.cc_typed.proofs.Tables.{left, right}
use Rattle.cc_typed.proofs.TypedExpressions.{part-Element, part-Field, typed-Assign, typed-Both, typed-CallFunction, typed-ChangeAfter, typed-ChangeBefore, typed-Choose, typed-Constant, typed-CreateProcess, typed-Either, typed-GetChar, typed-Negate, typed-Not, typed-Plus, typed-PrintFormat, typed-PutChar, typed-Update, typed-Within}
use Rattle.cc_typed.specs.KnownTypes.{is_process_type}
use Rattle.cc_typed.specs.Missing.{parameters_at}
use Rattle.cc_typed.specs.Sequences.{is_empty}
use Rattle.cc_typed.specs.Typed.{Surroundings, is_choice, is_number, is_place, is_typed, is_typed_part, kind_parameters, takes_numbers}
use Rattle.cc_typed.specs.TypedLists.{arguments_typed, is_typed_location}
use Rattle.cc_typed.specs.Types.{is_arithmetic, is_array, is_process, is_struct, of_number, type_of}
use Rattle.cc_typed.specs.declared.tree.Argument.{Argument}
use Rattle.cc_typed.specs.declared.tree.Expression.{Expression}
use Rattle.cc_typed.specs.declared.tree.Expression.TheVariants as typed
use Rattle.cc_typed.specs.declared.tree.Location.{Location}
use Rattle.cc_typed.specs.declared.tree.PartStep.TheVariants as part_step
use Rattle.cc_typed.specs.declared.types.DataType.{DataType}
use Rattle.cc_typed.specs.declared.types.DataType.TheVariants.{Void, Single, Array}
use Rattle.cc_faults.proofs.Holds.{Holds, holds-asked, holds-both, holds-checked, holds-map, holds-weaker}
use Rattle.cc_faults.specs.Expressions.{along, any_target, arguments, both_of, chosen, comparisons, complemented, count_row, created, either_of, element_type, expression, field_in, function_applied, function_head, function_types, indexed, is_place as is_place_of, kind_head, kind_in, kind_types, may_be_timed, negated, no_types, number_target, numbers, place_of, plussed, printed, put_out, row_type, stepped, stepped_after, stepped_before, stored, sum, timed_type, transacted, transaction_of, transaction_types, type_found, updated, value, waited}
use Rattle.cc_faults.specs.Judged.{Judged, Good, Bad, answer, both, checked, found, in_front, map, mapped}
use Rattle.cc_faults.specs.Made.{Row, Sum, added, alone, argument_for, call_of, change_of, choice_of, compared_in, constant, element_of, row_from, sum_from, summed, type_in, value_of, with_comparison, within_parentheses}
use Rattle.cc_faults.specs.Phrases.{assign, choose, negate, not_of, parenthesized, plus, put_char, step_after, step_before, update, within}
use Rattle.cc_faults.specs.Rows.{Timed, a_place, a_timed_call, array_in, as_many, comparable, fields_named, fitting, format_bytes, may_be_arms, may_be_assigned, may_be_compared, number, process_in, structure_in, timed, type_or_void, value_named_by, visible, well_formed}
use Rattle.cc_faults.specs.Scopes.{Scope, Text, meaning_at, position}
use Rattle.cc_faults.specs.declared.fault.TypeKind.TheVariants as kind
use Rattle.cc_faults.specs.declared.plain.Phrase.{Phrase, Number, Name, Call', Create', GetChar, PrintFormat', Chain', Arithmetic', Compare', Both', Either', Row_of-Phrase, end_of-Phrase, more_of-Phrase, Row_of-Step, end_of-Step, more_of-Step, Row_of-Operation, end_of-Operation, more_of-Operation, Row_of-Compared, end_of-Compared, more_of-Compared}
use Rattle.cc_faults.specs.declared.plain.Step.{Step, Field, Index', Call' as CallStep'}
use Rattle.cc_faults.specs.declared.plain.StepWord.{StepWord}
use Rattle.cc_faults.specs.declared.scope.Around.{Around}
use Rattle.cc_faults.specs.declared.scope.Found.{Found}
use Rattle.cc_faults.specs.declared.scope.Found.TheVariants as found_as
use Rattle.cc_faults.specs.declared.scope.Signature.{Signature}
use Rattle.cc_faults.specs.declared.scope.TransactionHead.{TransactionHead}
use Rattle.cc_sound.proofs.Found.{call-typed, part-typed, send-typed, value-typed, within-parentheses}
use Rattle.cc_sound.proofs.Heads.{IsCallHead, IsKindHead, choice-typed, compared-typed, false-true, field-there, field-typed, front-get, function-head, head-called, head-sent, kind-head, some-there, transaction-of}
use Rattle.cc_sound.proofs.Operators.{IsArgument, IsCompared, IsRowFrom, IsSum, IsSumFrom, arguments-more, operands-typed, row-compared, row-started, row-typed, sum-added, sum-started, sum-typed}
use Rattle.cc_sound.proofs.Rows.{IsGiven, IsNumber, IsOf, IsTimed, any_target-typed, array-typed, found-Good, holds-asked_found, holds-assigned, holds-found, holds-not_pure, holds-number, holds-pure_of_place, holds-unless, named-typed, no_array-typed, number_target-typed, process-typed, structure-typed, timed-typed, visible-there}
use Rattle.cc_sound.specs.Fits.{IsFront, IsThere, ScopeFits, TextFits, transaction_with}
use Rattle.cc_sound.specs.Formed.{are_formed, are_formed_comparisons, are_formed_operations, are_formed_steps, has_comparison, has_operation, has_phrase, is_formed, is_formed_step}
use Rattle.cc_sound.specs.Typing.{IsFound}

-- ---- what is made of typed parts

module _ (a : Surroundings) where
  constant-typed : (v : ℤ) (t : NumberType) → IsFound a (constant v t)
  unfolding is_place
  constant-typed v t = go (fits 31 v) (is_int t) (fits 63 v) refl refl
    where
      go : (b i c : Bool) → fits 31 v ≡ b → fits 63 v ≡ c → IsFound a (found_as.Value (typed.Constant (if c then v else pos 0) (if i && b then numeric.Int else numeric.Long)))
      go true true true e f = (typed-Constant a v numeric.Int ∙ e, refl)
      go true true false e f = (typed-Constant a (pos 0) numeric.Int, refl)
      go true false true e f = (typed-Constant a v numeric.Long ∙ f, refl)
      go true false false e f = (typed-Constant a (pos 0) numeric.Long, refl)
      go false true true e f = (typed-Constant a v numeric.Long ∙ f, refl)
      go false true false e f = (typed-Constant a (pos 0) numeric.Long, refl)
      go false false true e f = (typed-Constant a v numeric.Long ∙ f, refl)
      go false false false e f = (typed-Constant a (pos 0) numeric.Long, refl)

  getchar-typed : IsFound a (value typed.GetChar)
  unfolding is_place
  getchar-typed = (typed-GetChar a, refl)

  negated-typed : (e : Expression) → IsNumber a e → IsFound a (negated e)
  unfolding is_place
  negated-typed e h =
      (typed-Negate a e (alone (type_of e)) ∙ and_from _ _ (and_from _ _ h.0 h.1) (type-same (of_number (alone (type_of e)))), refl)

  plussed-typed : (e : Expression) → IsNumber a e → IsFound a (plussed e)
  unfolding is_place
  plussed-typed e h =
      (typed-Plus a e (alone (type_of e)) ∙ and_from _ _ (and_from _ _ h.0 h.1) (type-same (of_number (alone (type_of e)))), refl)

  complemented-typed : (e : Expression) → IsNumber a e → IsFound a (complemented e)
  unfolding is_place
  complemented-typed e h = (typed-Not a e ∙ and_from _ _ h.0 h.1, refl)

  put_out-typed : (e : Expression) → IsNumber a e → IsFound a (put_out e)
  unfolding is_place
  put_out-typed e h = (typed-PutChar a e ∙ and_from _ _ h.0 h.1, refl)

  -- numbers, as many as phrases
  abbrev AreNumbers : ℕ → List Expression → Type 0
  AreNumbers n es = (list_all (is_number a) es ≡ true) × (length es ≡ n)

  abbrev AreOperands : List Expression → Type 0
  AreOperands es = (list_all (is_number a) es ≡ true) × (is_empty es ≡ false)

  some-operand : {n : _} (row : Row_of-Phrase n) → has_phrase row ≡ true → (es : List Expression) → AreNumbers (count_row row) es → AreOperands es
  unfolding count_row
  some-operand end_of-Phrase f es h = false-true f
  some-operand (more_of-Phrase e rest) f [] h = let n = h.1 in absurd (omega (arith, n))
  some-operand (more_of-Phrase e rest) f (x ∷ es) h = (h.0, refl)

  both-typed : (v : Expression × List Expression) → IsNumber a v.0 → AreOperands v.1 → IsFound a (both_of v)
  unfolding is_place
  both-typed v h i = (typed-Both a v.0 v.1 ∙ and_from _ _ (and_from _ _ h.0 h.1) (operands-typed a (type_of v.0) v.1 i.0 i.1), refl)

  either-typed : (v : Expression × List Expression) → IsNumber a v.0 → AreOperands v.1 → IsFound a (either_of v)
  unfolding is_place
  either-typed v h i = (typed-Either a v.0 v.1 ∙ and_from _ _ (and_from _ _ h.0 h.1) (operands-typed a (type_of v.0) v.1 i.0 i.1), refl)

  -- two arms that fit each other
  abbrev IsArm : Found → Type 0
  IsArm v = IsFound a v × (not (is_array (type_in v)) ≡ true)

  abbrev AreArms : Found × Found → Type 0
  AreArms v = (IsArm v.0 × IsArm v.1) × (may_be_arms (type_in v.0) (type_in v.1) ≡ true)

  fitting-typed : (p : Place) (v : Found × Found) → IsArm v.0 × IsArm v.1 → Holds AreArms (fitting p v)
  fitting-typed p v h = holds-unless AreArms (may_be_arms (type_in v.0) (type_in v.1)) p kind.Mismatch v (λ e. (h, e))

  chosen-typed : (v : Expression × (Found × Found)) → IsNumber a v.0 → AreArms v.1 → IsFound a (chosen v)
  unfolding is_place
  chosen-typed v h i = (
    typed-Choose a v.0 (value_of v.1.0) (value_of v.1.1) (choice_of (type_in v.1.0) (type_in v.1.1))
        ∙ and_from _ _ (and_from _ _ (and_from _ _ (and_from _ _ h.0 h.1) yes.0) no.0)
        (ap (λ t. is_choice t (type_of (value_of v.1.1)) (choice_of (type_in v.1.0) (type_in v.1.1))) yes.1
        ∙ ap (λ t. is_choice (type_in v.1.0) t (choice_of (type_in v.1.0) (type_in v.1.1))) no.1
        ∙ choice-typed (type_in v.1.0) (type_in v.1.1) i.0.0.1 i.1),
    refl,
  )
    where
      yes : (is_typed a (value_of v.1.0) ≡ true) × (type_of (value_of v.1.0) ≡ type_in v.1.0)
      yes = value-typed a v.1.0 i.0.0.0

      no : (is_typed a (value_of v.1.1) ≡ true) × (type_of (value_of v.1.1) ≡ type_in v.1.1)
      no = value-typed a v.1.1 i.0.1.0

  stored-typed : (u : Option DataType) (v : Location × Expression) → (is_typed_location a v.0 ≡ true) × (u ≡ Some v.0.data_type) → IsGiven a u v.1 → IsFound a (stored v)
  unfolding is_place
  stored-typed u v h i =
      (typed-Assign a v.0 v.1 ∙ and_from _ _ (and_from _ _ h.0 i.0) (ap (λ o. may_be_assigned o (type_of v.1)) (sym h.1) ∙ i.1), refl)

  abbrev IsStore : Option DataType → Location → Type 0
  IsStore u l = (is_typed_location a l ≡ true) × (u ≡ Some l.data_type)

  abbrev IsTarget : Location → Type 0
  IsTarget l = (is_typed_location a l ≡ true) × (is_arithmetic l.data_type ≡ true)

  updated-typed : (o : Operator) (v : Location × Expression) → IsTarget v.0 → IsNumber a v.1 → IsFound a (updated o v)
  unfolding is_place
  updated-typed o v h i =
      (typed-Update a v.0 o v.1 ∙ and_from _ _ (and_from _ _ (and_from _ _ h.0 h.1) i.0) i.1, refl)

  before-typed : (d : StepWord) (l : Location) → IsTarget l → IsFound a (stepped_before d l)
  unfolding is_place
  before-typed d l h = (typed-ChangeBefore a l (change_of d) ∙ and_from _ _ h.0 h.1, refl)

  after-typed : (d : StepWord) (l : Location) → IsTarget l → IsFound a (stepped_after d l)
  unfolding is_place
  after-typed d l h = (typed-ChangeAfter a l (change_of d) ∙ and_from _ _ h.0 h.1, refl)

  waited-typed : (u : Option DataType) (v : Expression × (Timed × Expression)) → IsNumber a v.0 → IsTimed a v.1.0 → u ≡ Some v.1.0.3 → IsGiven a u v.1.1 → IsFound a (waited v)
  unfolding is_place
  waited-typed u v h i e j = (
    typed-Within a v.0 v.1.0.0 v.1.0.1 v.1.0.2 v.1.1 v.1.0.3
        ∙ and_from _ _ (and_from _ _ (and_from _ _ (and_from _ _ (and_from _ _ (and_from _ _ h.1 i.1) (ap (λ o. may_be_assigned o (type_of v.1.1)) (sym e) ∙ j.1)) h.0) i.0) i.2) j.0,
    refl,
  )

  -- arguments, as many as there are types
  applied-typed : (t : Text) (v : (ℕ × Signature) × List Argument) → TextFits t a.parts → slice_get t.functions v.0.0 ≡ Some (Ok v.0.1) → arguments_typed a v.1 v.0.1.parameters ≡ true → IsFound a (function_applied v)
  unfolding is_place
  applied-typed t v whole h i = (
    typed-CallFunction a v.0.0 v.1 v.0.1.result
        ∙ and_from _ _ (whole.functions v.0.0 v.0.1 h).1 (ap (arguments_typed a v.1) (whole.functions v.0.0 v.0.1 h).0 ∙ i),
    refl,
  )

  created-typed : (v : (ℕ × List DataType) × List Argument) → (is_process_type a.parts v.0.0 ≡ true) × (kind_parameters (slice_get a.parts.kinds v.0.0) ≡ v.0.1) → arguments_typed a v.1 v.0.1 ≡ true → IsFound a (created v)
  unfolding is_place
  created-typed v h i = (typed-CreateProcess a v.0.0 v.1 ∙ and_from _ _ h.0 (ap (arguments_typed a v.1) h.1 ∙ i), refl)

  call_of-typed : (v : Found) (h : TransactionHead) (g : Signature) (args : List Argument) → IsFound a v → is_process (type_in v) ≡ true → slice_get a.parts.transactions h.number ≡ Some (transaction_with (kind_in (type_in v)) h g) → arguments_typed a args g.parameters ≡ true → (b : Bool) → h.is_async ≡ b
      → IsFound a (call_of v b h.number args g.result)
  call_of-typed v h g args i p e j true f =
      send-typed a v h.number args i (head-sent (slice_get a.parts.transactions h.number) (type_in v) h g p e f) (ap (λ o. arguments_typed a args (parameters_at o)) e ∙ j)
  call_of-typed v h g args i p e j false f =
      call-typed a v h.number args g.result i (head-called (slice_get a.parts.transactions h.number) (type_in v) h g p e f) (ap (λ o. arguments_typed a args (parameters_at o)) e ∙ j)

  printed-typed : (f n : ℕ) (bytes : List ℕ) (v : Unit {0} × List Expression) → slice_get a.parts.formats f ≡ Some bytes → is_format bytes ≡ true → nat_eq n (conversions bytes) ≡ true → AreNumbers n v.1 → IsFound a (printed f v)
  unfolding is_place
  printed-typed f n bytes v e h i j = (
    typed-PrintFormat a f v.1
        ∙ and_from _ _ (ap (λ o. takes_numbers o (length v.1)) e ∙ and_from _ _ h (eq-eqb (conversions bytes) (length v.1) (sym (eqb-true n (conversions bytes) i) ∙ sym j.1))) j.0,
    refl,
  )

  element-part : (u : DataType) (e : Expression) → is_array u ≡ true → IsNumber a e → is_typed_part a u (part_step.Element e (element_of u)) ≡ true
  element-part Void e f h = false-true f
  element-part (Single m) e f h = false-true f
  element-part (Array m n) e f h = part-Element a (Array m n) e (Single m) ∙ and_from _ _ (and_from _ _ (type-same (Single m)) h.0) h.1

  indexed-typed : (v : Found × Expression) → IsOf a is_array v.0 → IsNumber a v.1 → IsFound a (indexed v)
  indexed-typed v h i = part-typed a v.0 (part_step.Element v.1 (element_type v.0)) h.0 (element-part (type_in v.0) v.1 h.1 i)

  field_in-typed : (t : Text) (s : Scope) (v : Found) (k : ℕ) → ScopeFits t s a.parts → IsOf a is_struct v → k < length (fields_named s (type_in v)) → IsFound a (field_in s v k)
  field_in-typed t s v k here h lt =
      part-typed a v _ h.0 (part-Field a (type_in v) k _ ∙ field-typed t s a here (type_in v) k h.1 lt)

-- ---- heads with as many arguments

-- a head, and as many as its types
head-counted : {H : Type 0} (P : H → Type 0) (types : H → List DataType) (p : Place) (n : ℕ) (j : Judged H) → Holds P j
    → Holds (λ h. P h × (n ≡ length (types h)) × (no_types (mapped types (found j)) ≡ types h)) (checked j (λ h. as_many p n (length (types h)) h))
unfolding checked answer
head-counted P types p n (Good v) h =
    holds-unless (λ u. P u × (n ≡ length (types u)) × (types v ≡ types u)) (nat_eq n (length (types v))) p kind.Arity v (λ e. (h, eqb-true n (length (types v)) e, refl))
head-counted P types p n (Bad own f fs) h = tt

module _ (a : Surroundings) where
  -- arguments, typed where there are as many as types
  abbrev AreArguments : ℕ → List DataType → List Argument → Type 0
  AreArguments n ts args = n ≡ length ts → arguments_typed a args ts ≡ true

  arguments-of : (n : ℕ) (ts us : List DataType) (args : List Argument) → AreArguments n ts args → n ≡ length us → ts ≡ us → arguments_typed a args us ≡ true
  arguments-of n ts us args go e same = ap (arguments_typed a args) (sym same) ∙ go (e ∙ ap length (sym same))

  from-start : (n : ℕ) (ts : List DataType) (j : Judged (List Argument)) → Holds (λ args. 0 + n ≡ length ts → arguments_typed a args (drop 0 ts) ≡ true) j → Holds (AreArguments n ts) j
  from-start n ts j h = holds-weaker _ (AreArguments n ts) (λ args go e. go (omega (arith, e))) j h

  made : {A : Type 0} (P : A → Type 0) (f : A → Found) (j : Judged A) → Holds P j → ((v : A) → P v → IsFound a (f v)) → Holds (IsFound a) (map f j)
  made P f j h go = holds-map (IsFound a) f j (holds-weaker P (λ v. IsFound a (f v)) go j h)

  sum-step : (o : Operator) (j : Judged Sum) (k : Judged Expression) → Holds (IsSumFrom a) j → Holds (IsNumber a) k → Holds (IsSum a) (map (added o) (both j k))
  sum-step o j k h i =
      holds-map (IsSum a) (added o) (both j k)
      (holds-weaker (λ v. IsSumFrom a v.0 × IsNumber a v.1) (λ v. IsSum a (added o v)) (λ v g. sum-added a o v g.0 g.1) (both j k) (holds-both (IsSumFrom a) (IsNumber a) j k h i))

  abbrev IsLeft : Comparison → Judged Row → Judged Found → Row → Type 0
  IsLeft c j k v =
      IsRowFrom a v × (may_be_compared c (type_found k) v.2 ≡ true) × (mapped row_type (found j) ≡ Some v.2)

  abbrev IsRight : Comparison → Judged Row → Judged Found → Expression → Type 0
  IsRight c j k e =
      (is_typed a e ≡ true)
      × (may_be_compared c (mapped row_type (found j)) (type_of e) ≡ true)
      × (type_found k ≡ Some (type_of e))

  left-compared : (c : Comparison) (p : Place) (j : Judged Row) (k : Judged Found) → Holds (IsRowFrom a) j → Holds (IsLeft c j k) (checked j (λ (v : Row). comparable c (type_found k) p (row_type v) v))
  left-compared c p j k h =
      holds-checked (λ v. IsRowFrom a v × (j ≡ Good v)) (IsLeft c j k) j (λ (v : Row). comparable c (type_found k) p (row_type v) v) (holds-found (IsRowFrom a) j h)
      (λ v i. holds-unless (IsLeft c j k) (may_be_compared c (type_found k) v.2) p kind.Mismatch v (λ e. (i.0, e, ap (mapped row_type) (found-Good j v i.1))))

  right-compared : (c : Comparison) (p : Place) (j : Judged Row) (k : Judged Found) → Holds (IsFound a) k → Holds (IsRight c j k) (checked k (λ (v : Found). comparable c (mapped row_type (found j)) p (type_in v) (value_of v)))
  right-compared c p j k h =
      holds-checked (λ v. IsFound a v × (k ≡ Good v)) (IsRight c j k) k (λ (v : Found). comparable c (mapped row_type (found j)) p (type_in v) (value_of v)) (holds-found (IsFound a) k h)
      (λ v i. holds-unless (IsRight c j k) (may_be_compared c (mapped row_type (found j)) (type_in v)) p kind.Mismatch (value_of v)
      (λ e. ((value-typed a v i.0).0, ap (may_be_compared c (mapped row_type (found j))) (value-typed a v i.0).1 ∙ e, ap (mapped type_in) (found-Good k v i.1) ∙ ap (λ t. Some t) (sym (value-typed a v i.0).1))))

  row-step : (c : Comparison) (p q : Place) (j : Judged Row) (k : Judged Found) → Holds (IsRowFrom a) j → Holds (IsFound a) k
      → Holds (IsCompared a) (map (with_comparison c) (both (checked j (λ (v : Row). comparable c (type_found k) p (row_type v) v)) (checked k (λ (v : Found). comparable c (mapped row_type (found j)) q (type_in v) (value_of v)))))
  row-step c p q j k h i =
      holds-map (IsCompared a) (with_comparison c) _
      (holds-weaker (λ v. IsLeft c j k v.0 × IsRight c j k v.1) (λ v. IsCompared a (with_comparison c v)) together _
      (holds-both (IsLeft c j k) (IsRight c j k) _ _ (left-compared c p j k h) (right-compared c q j k i)))
    where
      together : (v : Row × Expression) → IsLeft c j k v.0 × IsRight c j k v.1 → IsCompared a (with_comparison c v)
      together v g =
          row-compared a c v g.0.0 g.1.0
          (compared-typed c v.0.2 (type_of v.1) (ap (λ o. may_be_compared c o v.0.2) (sym g.1.2) ∙ g.0.1) (ap (λ o. may_be_compared c o (type_of v.1)) (sym g.0.2) ∙ g.1.1))

-- ---- the induction

module _ (t : Text) (s : Scope) (w : Around) (a : Surroundings) (whole : TextFits t a.parts) (here : ScopeFits t s a.parts) (front : IsFront s.variables a.variables) where
  abbrev formats : ℕ
  formats = length t.formats

  format-there : (p q : Place) (f n : ℕ) → nat_lt f formats ≡ true
      → Holds (λ (u : Unit {0}). (bytes : List ℕ) × (slice_get a.parts.formats f ≡ Some bytes) × (is_format bytes ≡ true) × (nat_eq n (conversions bytes) ≡ true)) (checked (well_formed p (format_bytes (slice_get t.formats f))) (λ (bytes : List ℕ). as_many q n (conversions bytes) tt))
  format-there p q f n lt =
      let there = some-there t.formats f (ltb-true f (length t.formats) lt) in
      subst (λ o. Holds (λ (u : Unit {0}). (bytes : List ℕ) × (slice_get a.parts.formats f ≡ Some bytes) × (is_format bytes ≡ true) × (nat_eq n (conversions bytes) ≡ true)) (checked (well_formed p (format_bytes o)) (λ (bytes : List ℕ). as_many q n (conversions bytes) tt))) (sym there.1)
      (holds-checked (λ b. (b ≡ there.0) × (is_format there.0 ≡ true)) _ (well_formed p there.0) (λ (bytes : List ℕ). as_many q n (conversions bytes) tt)
      (holds-unless (λ b. (b ≡ there.0) × (is_format there.0 ≡ true)) (is_format there.0) p kind.BadFormat there.0 (λ e. (refl, e)))
      (λ b i. holds-unless _ (nat_eq n (conversions b)) q kind.Arity tt (λ e. (there.0, ap (λ l. slice_get l f) (sym whole.formats) ∙ there.1, i.1, ap (λ c. nat_eq n (conversions c)) (sym i.0) ∙ e))))

  mutual
    unfolding expression is_formed count_row

    pub expression-typed : (e : Phrase) → is_formed formats e ≡ true → Holds (IsFound a) (expression t s w e)
    expression-typed (Number p v n) form = constant-typed a v n
    expression-typed (Name x) form =
        holds-checked (IsThere (length t.functions) (length s.variables)) (IsFound a) (visible x (meaning_at s x)) (value_named_by s.variables x.place) (visible-there _ _ x (meaning_at s x) (here.names x))
        (λ d i. named-typed a (length t.functions) s.variables x.place d (front-get s.variables a.variables front) i)
    expression-typed (parenthesized p e) form =
        made a (IsFound a) within_parentheses (expression t s w e) (expression-typed e form) (within-parentheses a)
    expression-typed (Chain' _ (more_of-Phrase e end_of-Phrase) _ steps) form =
        along-typed (place_of e) (is_place_of s e) (expression t s w e) steps (right _ _ form) (expression-typed e (left _ _ form))
    expression-typed (negate p e) form = made a (IsNumber a) negated _ (holds-number a (place_of e) _ (expression-typed e form)) (negated-typed a)
    expression-typed (plus p e) form = made a (IsNumber a) plussed _ (holds-number a (place_of e) _ (expression-typed e form)) (plussed-typed a)
    expression-typed (not_of p e) form =
        made a (IsNumber a) complemented _ (holds-number a (place_of e) _ (expression-typed e form)) (complemented-typed a)
    expression-typed (Arithmetic' _ (more_of-Phrase x end_of-Phrase) _ rest) form =
        made a (IsSum a) summed _
        (sum-begun (map sum_from (checked (expression t s w x) (number (place_of x)))) rest (right _ _ (left _ _ form)) (right _ _ form)
        (holds-map (IsSumFrom a) sum_from _ (holds-weaker (IsNumber a) _ (sum-started a) _ (holds-number a (place_of x) _ (expression-typed x (left _ _ (left _ _ form)))))))
        (sum-typed a)
    expression-typed (Compare' _ (more_of-Phrase x end_of-Phrase) _ rest) form =
        made a (IsCompared a) compared_in _
        (comparisons-begun (place_of x) (map row_from (expression t s w x)) rest (right _ _ (left _ _ form)) (right _ _ form)
        (holds-map (IsRowFrom a) row_from _ (holds-weaker (IsFound a) _ (row-started a) _ (expression-typed x (left _ _ (left _ _ form))))))
        (row-typed a)
    expression-typed (Both' _ (more_of-Phrase x end_of-Phrase) _ rest) form =
        made a (λ v. IsNumber a v.0 × AreOperands a v.1) both_of _
        (holds-both (IsNumber a) (AreOperands a) _ _ (holds-number a (place_of x) _ (expression-typed x (left _ _ (left _ _ form))))
        (holds-weaker (AreNumbers a (count_row rest)) (AreOperands a) (some-operand a rest (right _ _ (left _ _ form))) _ (numbers-typed rest (right _ _ form))))
        (λ v h. both-typed a v h.0 h.1)
    expression-typed (Either' _ (more_of-Phrase x end_of-Phrase) _ rest) form =
        made a (λ v. IsNumber a v.0 × AreOperands a v.1) either_of _
        (holds-both (IsNumber a) (AreOperands a) _ _ (holds-number a (place_of x) _ (expression-typed x (left _ _ (left _ _ form))))
        (holds-weaker (AreNumbers a (count_row rest)) (AreOperands a) (some-operand a rest (right _ _ (left _ _ form))) _ (numbers-typed rest (right _ _ form))))
        (λ v h. either-typed a v h.0 h.1)
    expression-typed (choose c x y) form =
        made a (λ v. IsNumber a v.0 × AreArms a v.1) chosen _
        (holds-both (IsNumber a) (AreArms a) _ _ (holds-number a (place_of c) _ (expression-typed c (left _ _ (left _ _ form))))
        (holds-checked (λ v. IsArm a v.0 × IsArm a v.1) (AreArms a) _ (fitting (place_of y))
        (holds-both (IsArm a) (IsArm a) _ _
        (holds-checked (IsFound a) (IsArm a) _ _ (expression-typed x (right _ _ (left _ _ form))) (no_array-typed a (place_of x)))
        (holds-checked (IsFound a) (IsArm a) _ _ (expression-typed y (right _ _ form)) (no_array-typed a (place_of y))))
        (fitting-typed a (place_of y))))
        (λ v h. chosen-typed a v h.0 h.1)
    expression-typed (assign x y) form =
        holds-not_pure (IsFound a) w (place_of x) _
        (made a (λ v. (IsStore a (type_found (expression t s w x)) v.0 × (checked (expression t s w x) (any_target (place_of x)) ≡ Good v.0)) × IsGiven a (type_found (expression t s w x)) v.1) stored _
        (holds-both _ (IsGiven a (type_found (expression t s w x))) _ _
        (holds-asked_found (IsStore a (type_found (expression t s w x))) (expression t s w x) (any_target (place_of x)) (a_place (is_place_of s x) (place_of x)) (any_target-typed a (place_of x) (expression t s w x) (expression-typed x (left _ _ form))))
        (holds-assigned a (place_of y) (type_found (expression t s w x)) (expression t s w y) (expression-typed y (right _ _ form))))
        (λ v h. stored-typed a (type_found (expression t s w x)) v h.0.0 h.1))
    expression-typed (update x o y) form =
        holds-not_pure (IsFound a) w (place_of x) _
        (made a (λ v. IsTarget a v.0 × IsNumber a v.1) (updated o) _
        (holds-both (IsTarget a) (IsNumber a) _ _
        (holds-asked (IsFound a) (IsTarget a) (expression t s w x) (number_target (place_of x)) (a_place (is_place_of s x) (place_of x)) (expression-typed x (left _ _ form)) (number_target-typed a (place_of x)))
        (holds-number a (place_of y) _ (expression-typed y (right _ _ form))))
        (λ v h. updated-typed a o v h.0 h.1))
    expression-typed (step_before p d x) form =
        holds-not_pure (IsFound a) w p _
        (made a (IsTarget a) (stepped_before d) _
        (holds-asked (IsFound a) (IsTarget a) (expression t s w x) (number_target (place_of x)) (a_place (is_place_of s x) (place_of x)) (expression-typed x form) (number_target-typed a (place_of x)))
        (before-typed a d))
    expression-typed (step_after x d) form =
        holds-not_pure (IsFound a) w (place_of x) _
        (made a (IsTarget a) (stepped_after d) _
        (holds-asked (IsFound a) (IsTarget a) (expression t s w x) (number_target (place_of x)) (a_place (is_place_of s x) (place_of x)) (expression-typed x form) (number_target-typed a (place_of x)))
        (after-typed a d))
    expression-typed (Call' x _ args) form =
        holds-not_pure (IsFound a) w x.place _
        (made a _ function_applied _
        (holds-both _ (AreArguments a (count_row args) (no_types (mapped function_types (found (function_head t s x))))) _ _
        (head-counted (λ h. slice_get t.functions h.0 ≡ Some (Ok h.1)) function_types x.place (count_row args) (function_head t s x) (function-head t s a here x))
        (from-start a (count_row args) _ _ (arguments-typed (no_types (mapped function_types (found (function_head t s x)))) 0 args form)))
        (λ v h. applied-typed a t v whole h.0.0 (arguments-of a (count_row args) _ v.0.1.parameters v.1 h.1 h.0.1 h.0.2)))
    expression-typed (Create' p x _ args) form =
        holds-not_pure (IsFound a) w p _
        (made a _ created _
        (holds-both _ (AreArguments a (count_row args) (no_types (mapped kind_types (found (kind_head t s x))))) _ _
        (head-counted (IsKindHead t a) kind_types x.place (count_row args) (kind_head t s x) (kind-head t s a whole here x))
        (from-start a (count_row args) _ _ (arguments-typed (no_types (mapped kind_types (found (kind_head t s x)))) 0 args form)))
        (λ v h. created-typed a v h.0.0 (arguments-of a (count_row args) _ v.0.1 v.1 h.1 h.0.1 h.0.2)))
    expression-typed (put_char p e) form =
        holds-not_pure (IsFound a) w p _ (made a (IsNumber a) put_out _ (holds-number a (place_of e) _ (expression-typed e form)) (put_out-typed a))
    expression-typed (GetChar p) form = holds-not_pure (IsFound a) w p (Good (value typed.GetChar)) (getchar-typed a)
    expression-typed (PrintFormat' p f _ args) form =
        holds-not_pure (IsFound a) w p _
        (made a _ (printed f.number) _
        (holds-both _ (AreNumbers a (count_row args)) _ _ (format-there f.place p f.number (count_row args) (left _ _ form)) (numbers-typed args (right _ _ form)))
        (λ v h. printed-typed a f.number (count_row args) h.0.0 v h.0.1 h.0.2 h.0.3 h.1))
    expression-typed (within p d m e) form =
        holds-not_pure (IsFound a) w p _
        (made a _ waited _
        (holds-both (IsNumber a) _ _ _ (holds-number a (place_of d) _ (expression-typed d (left _ _ (left _ _ form))))
        (holds-both _ (IsGiven a (timed_type (checked (expression t s w m) (timed (place_of m))))) _ _
        (holds-asked_found (IsTimed a) (expression t s w m) (timed (place_of m)) (a_timed_call (may_be_timed t s w m) (place_of m)) (holds-checked (IsFound a) (IsTimed a) (expression t s w m) (timed (place_of m)) (expression-typed m (right _ _ (left _ _ form))) (timed-typed a (place_of m))))
        (holds-assigned a (place_of e) (timed_type (checked (expression t s w m) (timed (place_of m)))) (expression t s w e) (expression-typed e (right _ _ form)))))
        (λ v h. waited-typed a (timed_type (checked (expression t s w m) (timed (place_of m)))) v h.0 h.1.0.0 (ap (mapped (λ (u : Timed). u.3)) (found-Good (checked (expression t s w m) (timed (place_of m))) v.1.0 h.1.0.1)) h.1.1))

    along-typed : {n : _} (p : Place) (b : Bool) (j : Judged Found) (row : Row_of-Step n) → are_formed_steps formats row ≡ true → Holds (IsFound a) j → Holds (IsFound a) (along t s w p b j row)
    along-typed p b j end_of-Step form h = h
    along-typed p b j (more_of-Step c rest) form h =
        along-typed p _ (stepped t s w p b j c) rest (right _ _ form) (stepped-typed p b j c (left _ _ form) h)

    stepped-typed : (p : Place) (b : Bool) (j : Judged Found) (c : Step) → is_formed_step formats c ≡ true → Holds (IsFound a) j → Holds (IsFound a) (stepped t s w p b j c)
    stepped-typed p b j (Field x) form h =
        holds-pure_of_place (IsFound a) b w p _
        (holds-checked (IsOf a is_struct) (IsFound a) (checked j (structure_in p)) _ (holds-checked (IsFound a) (IsOf a is_struct) j (structure_in p) h (structure-typed a p))
        (λ v i. made a (λ k. k < length (fields_named s (type_in v))) (field_in s v) _ (field-there x (fields_named s (type_in v)) (position (fields_named s (type_in v)) x.name) refl) (λ k lt. field_in-typed a t s v k here i lt)))
    stepped-typed p b j (Index' _ (more_of-Phrase e end_of-Phrase)) form h =
        holds-pure_of_place (IsFound a) b w p _
        (made a (λ v. IsOf a is_array v.0 × IsNumber a v.1) indexed _
        (holds-both (IsOf a is_array) (IsNumber a) _ _ (holds-checked (IsFound a) (IsOf a is_array) j (array_in p) h (array-typed a p)) (holds-number a (place_of e) _ (expression-typed e form)))
        (λ v i. indexed-typed a v i.0 i.1))
    stepped-typed p b j (CallStep' x _ args) form h =
        holds-not_pure (IsFound a) w p _
        (made a _ transacted _
        (holds-both _ (AreArguments a (count_row args) (no_types (mapped transaction_types (found (checked (checked j (process_in p)) (transaction_of t x)))))) _ _
        (head-counted (IsCallHead t a) transaction_types x.place (count_row args) (checked (checked j (process_in p)) (transaction_of t x))
        (holds-checked (IsOf a is_process) (IsCallHead t a) (checked j (process_in p)) (transaction_of t x) (holds-checked (IsFound a) (IsOf a is_process) j (process_in p) h (process-typed a p)) (transaction-of t a whole x)))
        (from-start a (count_row args) _ _ (arguments-typed (no_types (mapped transaction_types (found (checked (checked j (process_in p)) (transaction_of t x))))) 0 args form)))
        (λ v i. call_of-typed a v.0.0 v.0.1.0 v.0.1.1 v.1 i.0.0.0.0 i.0.0.0.1 i.0.0.1.0 (arguments-of a (count_row args) _ v.0.1.1.parameters v.1 i.1 i.0.1 i.0.2) v.0.1.0.is_async refl))

    arguments-typed : {n : _} (ts : List DataType) (k : ℕ) (row : Row_of-Phrase n) → are_formed formats row ≡ true → Holds (λ args. k + count_row row ≡ length ts → arguments_typed a args (drop k ts) ≡ true) (arguments t s w ts k row)
    arguments-typed ts k end_of-Phrase form = λ e. ap (arguments_typed a []) (drop_all k ts (omega (arith, e)))
    arguments-typed ts k (more_of-Phrase e rest) form =
        holds-map _ in_front _
        (holds-weaker (λ v. IsArgument a (slice_get ts k) v.0 × (k + 1 + count_row rest ≡ length ts → arguments_typed a v.1 (drop (k + 1) ts) ≡ true)) _
        (λ v h i. arguments-more a ts k v.0 v.1 (omega (arith, i)) h.0 (h.1 (omega (arith, i)))) _
        (holds-both (IsArgument a (slice_get ts k)) _ _ _
        (holds-map (IsArgument a (slice_get ts k)) (argument_for (type_or_void (slice_get ts k))) _ (holds-weaker (IsGiven a (slice_get ts k)) _ (λ v h. (h, refl)) _ (holds-assigned a (place_of e) (slice_get ts k) (expression t s w e) (expression-typed e (left _ _ form)))))
        (arguments-typed ts (k + 1) rest (right _ _ form))))

    numbers-typed : {n : _} (row : Row_of-Phrase n) → are_formed formats row ≡ true → Holds (AreNumbers a (count_row row)) (numbers t s w row)
    numbers-typed end_of-Phrase form = (refl, refl)
    numbers-typed (more_of-Phrase e rest) form =
        holds-map (AreNumbers a (suc (count_row rest))) in_front _
        (holds-weaker (λ v. IsNumber a v.0 × AreNumbers a (count_row rest) v.1) _ (λ v h. (and_from _ _ (and_from _ _ h.0.0 h.0.1) h.1.0, ap suc h.1.1)) _
        (holds-both (IsNumber a) (AreNumbers a (count_row rest)) _ _ (holds-number a (place_of e) _ (expression-typed e (left _ _ form))) (numbers-typed rest (right _ _ form))))

    sum-begun : {n : _} (j : Judged Sum) (row : Row_of-Operation n) → has_operation row ≡ true → are_formed_operations formats row ≡ true → Holds (IsSumFrom a) j → Holds (IsSum a) (sum t s w j row)
    sum-begun j end_of-Operation there form h = false-true there
    sum-begun j (more_of-Operation o b rest) there form h =
        sum-more (map (added o) (both j (checked (expression t s w b) (number (place_of b))))) rest (right _ _ form)
        (sum-step a o j (checked (expression t s w b) (number (place_of b))) h (holds-number a (place_of b) _ (expression-typed b (left _ _ form))))

    sum-more : {n : _} (j : Judged Sum) (row : Row_of-Operation n) → are_formed_operations formats row ≡ true → Holds (IsSum a) j → Holds (IsSum a) (sum t s w j row)
    sum-more j end_of-Operation form h = h
    sum-more j (more_of-Operation o b rest) form h =
        sum-more (map (added o) (both j (checked (expression t s w b) (number (place_of b))))) rest (right _ _ form)
        (sum-step a o j (checked (expression t s w b) (number (place_of b))) (holds-weaker (IsSum a) (IsSumFrom a) (λ v i. i.0) j h) (holds-number a (place_of b) _ (expression-typed b (left _ _ form))))

    comparisons-begun : {n : _} (p : Place) (j : Judged Row) (row : Row_of-Compared n) → has_comparison row ≡ true → are_formed_comparisons formats row ≡ true → Holds (IsRowFrom a) j → Holds (IsCompared a) (comparisons t s w p j row)
    comparisons-begun p j end_of-Compared there form h = false-true there
    comparisons-begun p j (more_of-Compared c b rest) there form h =
        comparisons-more p _ rest (right _ _ form) (row-step a c p (place_of b) j (expression t s w b) h (expression-typed b (left _ _ form)))

    comparisons-more : {n : _} (p : Place) (j : Judged Row) (row : Row_of-Compared n) → are_formed_comparisons formats row ≡ true → Holds (IsCompared a) j → Holds (IsCompared a) (comparisons t s w p j row)
    comparisons-more p j end_of-Compared form h = h
    comparisons-more p j (more_of-Compared c b rest) form h =
        comparisons-more p _ rest (right _ _ form) (row-step a c p (place_of b) j (expression t s w b) (holds-weaker (IsCompared a) (IsRowFrom a) (λ v i. i.0) j h) (expression-typed b (left _ _ form)))
