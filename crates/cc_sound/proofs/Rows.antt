-- What each row of the table of faults gives where its part is typed.
use Rattle.std.proofs.Common.{◌≡◌, ℕ, ◌<◌, Bool, true, false, not, ◌&&◌, List, length, get_or, Option, Some, None, Result, Ok, Err, refl, ap, ◌∙◌}
use Rattle.std.proofs.lemmas.Bool.{and_from}
use Rattle.std.proofs.lemmas.Option.{slice_get-get_or}
use Rattle.std.specs.Prelude.{slice_get}
use Rattle.cc_base.specs.declared.names.Place.{Place}
use Rattle.cc_base.specs.declared.numbers.NumberType.TheVariants as numeric
use Rattle.cc_typed.proofs.Partings.{type-same}
use Rattle.cc_typed.proofs.TypedExpressions.{typed-Constant}
use Rattle.cc_typed.specs.Missing.{parameters_at}
use Rattle.cc_typed.specs.Parting.{is_of_type}
use Rattle.cc_typed.specs.Typed.{Surroundings, is_called, is_place, is_typed}
use Rattle.cc_typed.specs.TypedLists.{arguments_typed, is_typed_location}
use Rattle.cc_typed.specs.Types.{Int, is_arithmetic, is_array, is_process, is_same, is_struct, type_of}
use Rattle.cc_typed.specs.declared.tree.Expression.{Expression}
use Rattle.cc_typed.specs.declared.types.DataType.{DataType}
use Rattle.cc_faults.proofs.Holds.{Holds, holds-checked, holds-weaker}
use Rattle.cc_faults.specs.Expressions.{any_target, number_target, not_pure, pure_of_place, type_found}
use Rattle.cc_faults.specs.Judged.{Judged, Good, Bad, answer, asked, both, checked, first, found, known, map, second}
use Rattle.cc_faults.specs.Made.{type_in, value_of, variable}
use Rattle.cc_faults.specs.Rows.{Timed, array_in, assigned, function_called, impure, may_be_assigned, no_array, number, process_in, structure_in, target, timed, type_or_void, unless, value_named_by, visible, visible_type}
use Rattle.cc_faults.specs.declared.fault.FaultAt.{FaultAt}
use Rattle.cc_faults.specs.declared.fault.TypeKind.{TypeKind}
use Rattle.cc_faults.specs.declared.fault.TypeKind.TheVariants as kind
use Rattle.cc_faults.specs.declared.plain.Identifier.{Identifier}
use Rattle.cc_faults.specs.declared.scope.Around.{Around}
use Rattle.cc_faults.specs.declared.scope.Found.{Found}
use Rattle.cc_faults.specs.declared.scope.Found.TheVariants as found_as
use Rattle.cc_faults.specs.declared.scope.Meaning.{Meaning}
use Rattle.cc_faults.specs.declared.scope.Meaning.TheVariants as meaning
use Rattle.cc_faults.specs.declared.scope.Named.{Named}
use Rattle.cc_sound.proofs.Found.{behind-typed, value-typed}
use Rattle.cc_sound.specs.Fits.{IsThere}
use Rattle.cc_sound.specs.Typing.{IsFound}

-- ---- what holds of whatever is good

pub holds-unless : {A : Type 0} (P : A → Type 0) (b : Bool) (p : Place) (k : TypeKind) (v : A) → (b ≡ true → P v) → Holds P (unless b p k v)
holds-unless P true p k v go = go refl
holds-unless P false p k v go = tt

-- what is good, and is found
pub holds-found : {A : Type 0} (P : A → Type 0) (j : Judged A) → Holds P j → Holds (λ v. P v × (j ≡ Good v)) j
holds-found P (Good v) h = (h, refl)
holds-found P (Bad own f fs) h = tt

pub holds-asked_found : {A B : Type 0} (Q : B → Type 0) (j : Judged A) (r : A → Judged B) (p : Judged (Unit {0})) → Holds Q (checked j r) → Holds (λ v. Q v × (checked j r ≡ Good v)) (asked j r p)
unfolding asked checked both map
holds-asked_found Q (Good v) r p h = holds-found Q (r v) h
holds-asked_found Q (Bad true f fs) r p h = tt
holds-asked_found Q (Bad false f fs) r (Good v) h = tt
holds-asked_found Q (Bad false f fs) r (Bad also g gs) h = tt

pub holds-known : {A : Type 0} (o : Result A FaultAt) → Holds (λ v. o ≡ Ok v) (known o)
holds-known (Ok v) = refl
holds-known (Err f) = tt

pub found-Good : {A : Type 0} (j : Judged A) (v : A) → j ≡ Good v → found j ≡ Some v
unfolding answer
found-Good j v e = ap found e

pub holds-second : {A B : Type 0} (P : B → Type 0) (j : Judged A) (k : Judged B) → Holds P k → Holds P (map second (both j k))
unfolding map both
holds-second P (Good v) (Good w) h = h
holds-second P (Good v) (Bad also g gs) h = tt
holds-second P (Bad own f fs) (Good w) h = tt
holds-second P (Bad own f fs) (Bad also g gs) h = tt

pub holds-first : {A B : Type 0} (P : A → Type 0) (j : Judged A) (k : Judged B) → Holds P j → Holds P (map first (both j k))
unfolding map both
holds-first P (Good v) (Good w) h = h
holds-first P (Good v) (Bad also g gs) h = tt
holds-first P (Bad own f fs) (Good w) h = tt
holds-first P (Bad own f fs) (Bad also g gs) h = tt

pub holds-not_pure : (P : Found → Type 0) (w : Around) (p : Place) (j : Judged Found) → Holds P j → Holds P (not_pure w p j)
holds-not_pure P w p j h = holds-second P (impure w p) j h

pub holds-pure_of_place : (P : Found → Type 0) (b : Bool) (w : Around) (p : Place) (j : Judged Found) → Holds P j → Holds P (pure_of_place b w p j)
holds-pure_of_place P true w p j h = h
holds-pure_of_place P false w p j h = holds-not_pure P w p j h

-- ---- names

pub visible-there : (n m : ℕ) (x : Identifier) (o : Option Named) → ((d : Named) → o ≡ Some d → IsThere n m d.meaning) → Holds (IsThere n m) (visible x o)
visible-there n m x None go = tt
visible-there n m x (Some d) go = go d refl

pub function-there : (n m : ℕ) (p : Place) (d : Meaning) → IsThere n m d → Holds (λ f. f < n) (function_called p d)
function-there n m p (meaning.Variable v) h = tt
function-there n m p (meaning.Constant v) h = tt
function-there n m p (meaning.Function f) h = h
function-there n m p meaning.Main h = tt
function-there n m p (meaning.Typeless f) h = tt
function-there n m p (meaning.Valueless f) h = tt

pub type-there : {A : Type 0} (x : Identifier) (o : Option A) → Holds (λ v. o ≡ Some v) (visible_type x o)
type-there x None = tt
type-there x (Some v) = refl

-- ---- numbers, and values that are assigned

module _ (a : Surroundings) where
  abbrev pub IsNumber : Expression → Type 0
  IsNumber e = (is_typed a e ≡ true) × (is_arithmetic (type_of e) ≡ true)

  abbrev pub IsGiven : Option DataType → Expression → Type 0
  IsGiven u e = (is_typed a e ≡ true) × (may_be_assigned u (type_of e) ≡ true)

  pub number-typed : (p : Place) (v : Found) → IsFound a v → Holds IsNumber (number p v)
  number-typed p v h =
      holds-unless IsNumber (is_arithmetic (type_in v)) p kind.Mismatch (value_of v) (λ e. ((value-typed a v h).0, ap is_arithmetic (value-typed a v h).1 ∙ e))

  pub assigned-typed : (p : Place) (u : Option DataType) (v : Found) → IsFound a v → Holds (IsGiven u) (assigned p u v)
  assigned-typed p u v h =
      holds-unless (IsGiven u) (may_be_assigned u (type_in v)) p kind.Mismatch (value_of v) (λ e. ((value-typed a v h).0, ap (may_be_assigned u) (value-typed a v h).1 ∙ e))

  pub holds-number : (p : Place) (j : Judged Found) → Holds (IsFound a) j → Holds IsNumber (checked j (number p))
  holds-number p j h = holds-checked (IsFound a) IsNumber j (number p) h (number-typed p)

  pub holds-assigned : (p : Place) (u : Option DataType) (j : Judged Found) → Holds (IsFound a) j → Holds (IsGiven u) (checked j (assigned p u))
  holds-assigned p u j h = holds-checked (IsFound a) (IsGiven u) j (assigned p u) h (assigned-typed p u)

  -- ---- structures, arrays, processes: as they were, and of such a type
  abbrev pub IsOf : (DataType → Bool) → Found → Type 0
  IsOf is v = IsFound a v × (is (type_in v) ≡ true)

  pub structure-typed : (p : Place) (v : Found) → IsFound a v → Holds (IsOf is_struct) (structure_in p v)
  structure-typed p v h = holds-unless (IsOf is_struct) (is_struct (type_in v)) p kind.Mismatch v (λ e. (h, e))

  pub process-typed : (p : Place) (v : Found) → IsFound a v → Holds (IsOf is_process) (process_in p v)
  process-typed p v h = holds-unless (IsOf is_process) (is_process (type_in v)) p kind.Mismatch v (λ e. (h, e))

  pub array-typed : (p : Place) (v : Found) → IsFound a v → Holds (IsOf is_array) (array_in p v)
  array-typed p v h = holds-unless (IsOf is_array) (is_array (type_in v)) p kind.Mismatch v (λ e. (h, e))

  -- an arm of a choice, or a target: no array
  pub no_array-typed : (p : Place) (v : Found) → IsFound a v → Holds (λ u. IsFound a u × (not (is_array (type_in u)) ≡ true)) (no_array p v)
  no_array-typed p v h = holds-unless (λ u. IsFound a u × (not (is_array (type_in u)) ≡ true)) (not (is_array (type_in v))) p kind.Mismatch v (λ e. (h, e))

  -- ---- targets

  pub target-typed : (p : Place) (v : Found) → IsFound a v → Holds (λ l. (is_typed_location a l ≡ true) × (type_in v ≡ l.data_type)) (target p v)
  target-typed p (found_as.Place l) h = (h, refl)
  target-typed p (found_as.Value e) h = tt
  target-typed p (found_as.Chain e steps t) h = tt
  target-typed p (found_as.Call e steps process trans args t) h = tt

  pub number_target-typed : (p : Place) (v : Found) → IsFound a v → Holds (λ l. (is_typed_location a l ≡ true) × (is_arithmetic l.data_type ≡ true)) (number_target p v)
  unfolding map both
  number_target-typed p (found_as.Place l) h = go (is_arithmetic l.data_type) refl
    where
      go : (b : Bool) → is_arithmetic l.data_type ≡ b → Holds (λ m. (is_typed_location a m ≡ true) × (is_arithmetic m.data_type ≡ true)) (map second (both (unless b p kind.Mismatch (value_of (found_as.Place l))) (Good l)))
      go true e = (h, e)
      go false e = tt
  number_target-typed p (found_as.Value e) h = holds-second _ (number p (found_as.Value e)) (target p (found_as.Value e)) tt
  number_target-typed p (found_as.Chain e steps t) h = holds-second _ (number p (found_as.Chain e steps t)) (target p (found_as.Chain e steps t)) tt
  number_target-typed p (found_as.Call e steps process trans args t) h = holds-second _ (number p (found_as.Call e steps process trans args t)) (target p (found_as.Call e steps process trans args t)) tt

  -- the target of `=`, whose type is that of what is found
  pub any_target-typed : (p : Place) (j : Judged Found) → Holds (IsFound a) j → Holds (λ l. (is_typed_location a l ≡ true) × (type_found j ≡ Some l.data_type)) (checked j (any_target p))
  unfolding checked answer
  any_target-typed p (Good v) h =
      holds-second _ (no_array p v) (target p v)
      (holds-weaker (λ l. (is_typed_location a l ≡ true) × (type_in v ≡ l.data_type)) _ (λ l i. (i.0, ap (λ t. Some t) i.1)) (target p v) (target-typed p v h))
  any_target-typed p (Bad own f fs) h = tt

  -- ---- the middle of `within`

  abbrev pub IsTimed : Timed → Type 0
  IsTimed v =
      (is_typed a v.0 ≡ true)
      × (is_called (slice_get a.parts.transactions v.1) (type_of v.0) v.3 ≡ true)
      × (arguments_typed a v.2 (parameters_at (slice_get a.parts.transactions v.1)) ≡ true)

  pub timed-typed : (p : Place) (v : Found) → IsFound a v → Holds IsTimed (timed p v)
  timed-typed p (found_as.Place l) h = tt
  timed-typed p (found_as.Value e) h = tt
  timed-typed p (found_as.Chain e steps t) h = tt
  timed-typed p (found_as.Call e steps process trans args t) h =
      ((behind-typed a e steps process h.0).0, ap (λ u. is_called (slice_get a.parts.transactions trans) u t) (behind-typed a e steps process h.0).1 ∙ h.1, h.2)

  -- a variable with a type that the list in the end has, too
  pub variable-typed : (variables : List DataType) (n m : ℕ) → n < length variables → m ≡ n → ((t : DataType) → slice_get variables n ≡ Some t → slice_get a.variables n ≡ Some t) → IsFound a (variable n (type_or_void (slice_get variables n)))
  variable-typed variables n m lt same front =
      let at : slice_get variables n ≡ Some (type_at n) = slice_get-get_or variables n Int lt in
      ap (λ o. is_of_type (slice_get a.variables n) (type_or_void o) && is_same (type_or_void o) (type_or_void o)) at
      ∙ ap (λ o. is_of_type o (type_at n) && is_same (type_at n) (type_at n)) (front (type_at n) at)
      ∙ and_from _ _ (type-same (type_at n)) (type-same (type_at n))
    where
      type_at : ℕ → DataType
      type_at k = get_or variables k Int

  pub named-typed : (functions : ℕ) (variables : List DataType) (p : Place) (d : Meaning) → ((n : ℕ) (t : DataType) → slice_get variables n ≡ Some t → slice_get a.variables n ≡ Some t) → IsThere functions (length variables) d → Holds (IsFound a) (value_named_by variables p d)
  unfolding is_place
  named-typed functions variables p (meaning.Variable n) front h = variable-typed variables n n h refl (front n)
  named-typed functions variables p (meaning.Constant n) front h = (typed-Constant a n numeric.Int ∙ h, refl)
  named-typed functions variables p (meaning.Function f) front h = tt
  named-typed functions variables p meaning.Main front h = tt
  named-typed functions variables p (meaning.Typeless f) front h = tt
  named-typed functions variables p (meaning.Valueless f) front h = tt
