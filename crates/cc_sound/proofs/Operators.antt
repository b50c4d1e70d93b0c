-- Rows of operators, of comparisons, of operands and of arguments.
use Rattle.std.proofs.Common.{◌≡◌, ℕ, ◌+◌, ◌<◌, Bool, true, false, not, ◌||◌, List, [], ◌∷◌, ◌++◌, length, drop, get_or, Option, Some, refl, ap, sym, ◌∙◌, append_assoc, append-nil}
use Rattle.std.proofs.lemmas.Bool.{and_from}
use Rattle.std.proofs.lemmas.Option.{slice_get-get_or}
use Rattle.std.specs.List.{list_all}
use Rattle.std.specs.Prelude.{if◌then◌else◌, slice_get}
use Rattle.cc_base.specs.Numbers.{is_long, wider}
use Rattle.cc_base.specs.declared.numbers.Comparison.{Comparison}
use Rattle.cc_base.specs.declared.numbers.NumberType.{NumberType}
use Rattle.cc_base.specs.declared.numbers.NumberType.TheVariants as numeric
use Rattle.cc_base.specs.declared.numbers.Operator.{Operator}
use Rattle.cc_typed.proofs.Partings.{type-same}
use Rattle.cc_typed.proofs.Tables.{left, right}
use Rattle.cc_typed.proofs.TypedExpressions.{typed-Arithmetic, typed-Compare}
use Rattle.cc_typed.specs.Sequences.{drop-at, is_empty}
use Rattle.cc_typed.specs.Typed.{Surroundings, is_comparable, is_number, is_place, is_typed}
use Rattle.cc_typed.specs.TypedLists.{arguments_typed, comparisons_typed, operands_typed, operations_typed}
use Rattle.cc_typed.specs.Types.{Int, is_assignable, is_same, is_same_number, number_in, of_number, type_of}
use Rattle.cc_typed.specs.declared.tree.Argument.{Argument}
use Rattle.cc_typed.specs.declared.tree.Compared.{Compared}
use Rattle.cc_typed.specs.declared.tree.Expression.{Expression}
use Rattle.cc_typed.specs.declared.tree.Operation.{Operation}
use Rattle.cc_typed.specs.declared.types.DataType.{DataType}
use Rattle.cc_faults.specs.Made.{Row, Sum, added, compared_in, row_from, sum_from, summed, with_comparison}
use Rattle.cc_faults.specs.Rows.{may_be_assigned, type_or_void}
use Rattle.cc_faults.specs.declared.scope.Found.{Found}
use Rattle.cc_sound.proofs.Found.{value-typed}
use Rattle.cc_sound.proofs.Rows.{IsGiven, IsNumber}
use Rattle.cc_sound.specs.Typing.{IsFound}

no-char : (b : Bool) → is_same_number (if b then numeric.Long else numeric.Int) numeric.Char ≡ false
no-char true = refl
no-char false = refl

module _ (a : Surroundings) where
  -- operations so far: typed, whatever typed ones follow
  abbrev pub IsSumFrom : Sum → Type 0
  IsSumFrom v =
      IsNumber a v.0
      × ((more : List Operation) (u : NumberType) → operations_typed a v.2 more u ≡ true → operations_typed a (number_in (type_of v.0)) (v.1 ++ more) u ≡ true)

  abbrev pub IsSum : Sum → Type 0
  IsSum v = IsSumFrom v × (is_same_number v.2 numeric.Char ≡ false)

  pub sum-started : (e : Expression) → IsNumber a e → IsSumFrom (sum_from e)
  sum-started e h = (h, λ more u i. i)

  pub sum-added : (o : Operator) (v : Sum × Expression) → IsSumFrom v.0 → IsNumber a v.1 → IsSum (added o v)
  sum-added o v h i = ((h.0, go), no-char (is_long v.0.2 || is_long (number_in (type_of v.1))))
    where
      result : NumberType
      result = wider v.0.2 (number_in (type_of v.1))

      operation : Operation
      operation = record { operator = o; operand = v.1; number_type = result }

      go : (more : List Operation) (u : NumberType) → operations_typed a result more u ≡ true → operations_typed a (number_in (type_of v.0.0)) ((v.0.1 ++ operation ∷ []) ++ more) u ≡ true
      go more u j =
          ap (λ l. operations_typed a (number_in (type_of v.0.0)) l u) (append_assoc v.0.1 (operation ∷ []) more)
          ∙ h.1 (operation ∷ more) u (and_from _ _ (and_from _ _ (and_from _ _ i.0 i.1) (type-same (of_number result))) j)

  pub sum-typed : (v : Sum) → IsSum v → IsFound a (summed v)
  unfolding is_place
  sum-typed v h =
      (typed-Arithmetic a v.0 v.1 v.2 ∙ and_from _ _ (and_from _ _ h.0.0.0 h.0.0.1) (ap (λ l. operations_typed a (number_in (type_of v.0)) l v.2) (sym (append-nil v.1)) ∙ h.0.1 [] v.2 (and_from _ _ (type-same (of_number v.2)) (ap not h.1))), refl)

  abbrev pub IsRowFrom : Row → Type 0
  IsRowFrom v =
      (is_typed a v.0 ≡ true)
      × ((more : List Compared) → comparisons_typed a v.2 more ≡ true → comparisons_typed a (type_of v.0) (v.1 ++ more) ≡ true)

  abbrev pub IsCompared : Row → Type 0
  IsCompared v = IsRowFrom v × (v.2 ≡ Int)

  pub row-started : (v : Found) → IsFound a v → IsRowFrom (row_from v)
  row-started v h = ((value-typed a v h).0, λ more i. ap (λ t. comparisons_typed a t more) (value-typed a v h).1 ∙ i)

  pub row-compared : (c : Comparison) (v : Row × Expression) → IsRowFrom v.0 → is_typed a v.1 ≡ true → is_comparable c v.0.2 (type_of v.1) ≡ true → IsCompared (with_comparison c v)
  row-compared c v h i j = ((h.0, go), refl)
    where
      step : Compared
      step = record { comparison = c; operand = v.1 }

      go : (more : List Compared) → comparisons_typed a Int more ≡ true → comparisons_typed a (type_of v.0.0) ((v.0.1 ++ step ∷ []) ++ more) ≡ true
      go more k =
          ap (comparisons_typed a (type_of v.0.0)) (append_assoc v.0.1 (step ∷ []) more)
          ∙ h.1 (step ∷ more) (and_from _ _ (and_from _ _ i j) k)

  pub row-typed : (v : Row) → IsCompared v → IsFound a (compared_in v)
  unfolding is_place
  row-typed v h =
      (typed-Compare a v.0 v.1 ∙ and_from _ _ h.0.0 (ap (comparisons_typed a (type_of v.0)) (sym (append-nil v.1)) ∙ h.0.1 [] (ap (λ t. is_same t Int) h.1)), refl)

  operands-more : (es : List Expression) → list_all (is_number a) es ≡ true → operands_typed a Int es ≡ true
  operands-more [] h = refl
  operands-more (e ∷ es) h = and_from _ _ (left _ _ h) (operands-more es (right _ _ h))

  pub operands-typed : (u : DataType) (es : List Expression) → list_all (is_number a) es ≡ true → is_empty es ≡ false → operands_typed a u es ≡ true
  operands-typed u [] h f = absurd (true-false f)
    where
      true-false : true ≡ false → ⊥
      true-false e = cc
  operands-typed u (e ∷ es) h f = and_from _ _ (left _ _ h) (operands-more es (right _ _ h))

  -- an argument for the k-th parameter
  abbrev pub IsArgument : Option DataType → Argument → Type 0
  IsArgument u x = IsGiven a u x.value × (x.data_type ≡ type_or_void u)

  pub arguments-more : (ts : List DataType) (k : ℕ) (x : Argument) (rest : List Argument) → k < length ts → IsArgument (slice_get ts k) x → arguments_typed a rest (drop (k + 1) ts) ≡ true → arguments_typed a (x ∷ rest) (drop k ts) ≡ true
  arguments-more ts k x rest lt h i =
      ap (arguments_typed a (x ∷ rest)) (drop-at ts k Int lt)
      ∙ and_from _ _ (and_from _ _ (and_from _ _ h.0.0 given) (ap (is_same wanted) same ∙ type-same wanted)) i
    where
      wanted : DataType
      wanted = get_or ts k Int

      at : slice_get ts k ≡ Some wanted
      at = slice_get-get_or ts k Int lt

      same : x.data_type ≡ wanted
      same = h.1 ∙ ap type_or_void at

      given : is_assignable (type_of x.value) x.data_type ≡ true
      given = ap (is_assignable (type_of x.value)) same ∙ sym (ap (λ o. may_be_assigned o (type_of x.value)) at) ∙ h.0.1
