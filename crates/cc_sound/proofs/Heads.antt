-- What calls know of what they call, what steps lead to, and choices and comparisons of types.
use Rattle.std.proofs.Common.{◌≡◌, ℕ, zero, suc, ◌<◌, Bool, true, false, not, ◌&&◌, ◌||◌, List, [], ◌∷◌, ◌++◌, length, Option, Some, None, Result, Ok, Err, refl, ap, sym, subst, ◌∙◌, arith}
use Rattle.std.proofs.lemmas.Bool.{and_from, ltb-true}
use Rattle.std.specs.Prelude.{if◌then◌else◌, slice_get, nat_eq, nat_lt}
use Rattle.cc_base.specs.Numbers.{wider}
use Rattle.cc_base.specs.declared.numbers.Comparison.{Comparison}
use Rattle.cc_typed.proofs.Partings.{same-type, type-same}
use Rattle.cc_typed.proofs.Tables.{left, right}
use Rattle.cc_typed.specs.KnownTypes.{is_process_type}
use Rattle.cc_typed.specs.Parting.{field_type, is_field_of, is_of_type}
use Rattle.cc_typed.specs.Table.{fields_of}
use Rattle.cc_typed.specs.Typed.{Surroundings, is_called, is_choice, is_comparable, is_equality, is_sent, kind_parameters}
use Rattle.cc_typed.specs.Types.{is_arithmetic, is_array, is_process, is_same, is_struct, of_number, of_process, of_struct}
use Rattle.cc_typed.specs.declared.tree.Transaction.{Transaction}
use Rattle.cc_typed.specs.declared.types.DataType.{DataType}
use Rattle.cc_typed.specs.declared.types.DataType.TheVariants.{Void, Single, Array}
use Rattle.cc_typed.specs.declared.types.ElementType.TheVariants as item
use Rattle.cc_typed.specs.declared.types.Structure.{Structure}
use Rattle.cc_faults.proofs.Holds.{Holds, holds-checked, holds-map, holds-weaker}
use Rattle.cc_faults.specs.Expressions as spec
use Rattle.cc_faults.specs.Expressions.{function_head, kind_head, kind_in, structure_at, transaction_at, transaction_head, transaction_of, with_parameters, with_signature}
use Rattle.cc_faults.specs.Judged.{checked, known, map}
use Rattle.cc_faults.specs.Made.{choice_of, type_in}
use Rattle.cc_faults.specs.Rows.{fields_named, function_called, has_field, has_transaction, may_be_arms, may_be_compared, transaction_named, transactions_of, visible, visible_type}
use Rattle.cc_faults.specs.Scopes.{Scope, Text, entry_at, meaning_at, one_behind, position}
use Rattle.cc_faults.specs.declared.fault.FaultAt.{FaultAt}
use Rattle.cc_faults.specs.declared.plain.Identifier.{Identifier}
use Rattle.cc_faults.specs.declared.scope.Found.{Found}
use Rattle.cc_faults.specs.declared.scope.KindHead.{KindHead}
use Rattle.cc_faults.specs.declared.scope.Signature.{Signature}
use Rattle.cc_faults.specs.declared.scope.TransactionHead.{TransactionHead}
use Rattle.cc_sound.proofs.Rows.{function-there, type-there, visible-there}
use Rattle.cc_sound.specs.Fits.{IsFront, IsThere, ScopeFits, TextFits, transaction_with}
use Rattle.cc_sound.specs.Typing.{IsFound}

pub true-false : {A : Type 0} → true ≡ false → A
true-false e = absurd (cc)

pub false-true : {A : Type 0} → false ≡ true → A
false-true e = absurd (cc)

-- ---- fronts of lists

append-get : {A : Type 0} (xs rest : List A) (n : ℕ) (x : A) → slice_get xs n ≡ Some x → slice_get (xs ++ rest) n ≡ Some x
append-get [] rest n x e = cc
append-get (y ∷ xs) rest zero x e = e
append-get (y ∷ xs) rest (suc n) x e = append-get xs rest n x e

pub front-get : {A : Type 0} (xs ys : List A) → IsFront xs ys → (n : ℕ) (x : A) → slice_get xs n ≡ Some x → slice_get ys n ≡ Some x
front-get xs ys f n x e = ap (λ zs. slice_get zs n) f.1 ∙ append-get xs f.0 n x e

pub some-there : {A : Type 0} (xs : List A) (n : ℕ) → n < length xs → (x : A) × (slice_get xs n ≡ Some x)
some-there [] n lt = absurd (omega (arith, lt))
some-there (x ∷ xs) zero lt = (x, refl)
some-there (x ∷ xs) (suc n) lt = some-there xs n (omega (arith, lt))

-- ---- heads

module _ (t : Text) where
  signed-function : (f : ℕ) (r : Result Signature FaultAt) → slice_get t.functions f ≡ Some r → Holds (λ h. slice_get t.functions h.0 ≡ Some (Ok h.1)) (with_signature f (Some r))
  unfolding map
  signed-function f (Ok g) e = e
  signed-function f (Err k) e = tt

  function-with : (f : ℕ) → f < length t.functions → Holds (λ h. slice_get t.functions h.0 ≡ Some (Ok h.1)) (with_signature f (slice_get t.functions f))
  function-with f lt =
      let there = some-there t.functions f lt in
      subst (λ o. Holds (λ h. slice_get t.functions h.0 ≡ Some (Ok h.1)) (with_signature f o)) (sym there.1) (signed-function f there.0 there.1)

  pub function-head : (s : Scope) (a : Surroundings) → ScopeFits t s a.parts → (x : Identifier) → Holds (λ h. slice_get t.functions h.0 ≡ Some (Ok h.1)) (function_head t s x)
  function-head s a here x =
      holds-checked (λ f. f < length t.functions) _ (checked (visible x (meaning_at s x)) (function_called x.place)) _
      (holds-checked (IsThere (length t.functions) (length s.variables)) (λ f. f < length t.functions) (visible x (meaning_at s x)) (function_called x.place) (visible-there _ _ x (meaning_at s x) (here.names x)) (function-there _ _ x.place))
      function-with

  abbrev pub IsKindHead : Surroundings → ℕ × List DataType → Type 0
  IsKindHead a h = (is_process_type a.parts h.0 ≡ true) × (kind_parameters (slice_get a.parts.kinds h.0) ≡ h.1)

  kind-known : (a : Surroundings) → TextFits t a.parts → (k : ℕ) → is_process_type a.parts k ≡ true → (h : KindHead) → slice_get t.kinds k ≡ Some h → (r : Result (List DataType) FaultAt) → h.parameters ≡ r
      → Holds (IsKindHead a) (map (λ (ts : List DataType). (k, ts)) (known r))
  unfolding map
  kind-known a whole k there h e (Ok ts) f = (there, whole.kinds k h ts e f)
  kind-known a whole k there h e (Err g) f = tt

  kind-with : (a : Surroundings) → TextFits t a.parts → (k : ℕ) → is_process_type a.parts k ≡ true → (o : Option KindHead) → slice_get t.kinds k ≡ o → k < length t.kinds → Holds (IsKindHead a) (with_parameters k o)
  kind-with a whole k there None e lt = let some = some-there t.kinds k lt in absurd (none-some (sym e ∙ some.1))
    where
      none-some : {h : KindHead} → None ≡ Some h → ⊥
      none-some f = cc
  kind-with a whole k there (Some h) e lt = kind-known a whole k there h e h.parameters refl

  pub kind-head : (s : Scope) (a : Surroundings) → TextFits t a.parts → ScopeFits t s a.parts → (x : Identifier) → Holds (IsKindHead a) (kind_head t s x)
  kind-head s a whole here x =
      holds-checked (λ k. entry_at s.processes_named x ≡ Some k) (IsKindHead a) (visible_type x (entry_at s.processes_named x)) (λ (k : ℕ). with_parameters k (slice_get t.kinds k))
      (type-there x (entry_at s.processes_named x))
      (λ k e. kind-with a whole k (here.processes_named x k e) (slice_get t.kinds k) refl (below k (here.processes_named x k e)))
    where
      below : (k : ℕ) → is_process_type a.parts k ≡ true → k < length t.kinds
      below k e = let lt = ltb-true k (length a.parts.kinds) (right (nat_lt 0 k) (nat_lt k (length a.parts.kinds)) e) in let same = whole.each_kind in omega (arith, lt, same)

  -- the transaction of this head stands in the parts
  abbrev pub IsHead : Surroundings → ℕ → TransactionHead × Signature → Type 0
  IsHead a k h =
      (slice_get a.parts.transactions h.0.number ≡ Some (transaction_with k h.0 h.1)) × (h.0.is_async ≡ true → h.1.result ≡ Void)

  transaction-named : (k : ℕ) (x : Identifier) (o : Option TransactionHead) → transaction_named (transactions_of (slice_get t.kinds k)) x.name ≡ o → Holds (λ h. transaction_named (transactions_of (slice_get t.kinds k)) x.name ≡ Some h) (has_transaction x o)
  transaction-named k x None e = tt
  transaction-named k x (Some h) e = e

  transaction-signed : (a : Surroundings) → TextFits t a.parts → (k x : ℕ) (h : TransactionHead) → transaction_named (transactions_of (slice_get t.kinds k)) x ≡ Some h → (r : Result Signature FaultAt) → h.signature ≡ r
      → Holds (IsHead a k) (with_signature h (Some r))
  unfolding map
  transaction-signed a whole k x h e (Ok g) f = (whole.transactions k x h g e f, whole.asynchronous k x h g e f)
  transaction-signed a whole k x h e (Err g) f = tt

  pub transaction-head : (a : Surroundings) → TextFits t a.parts → (k : ℕ) (x : Identifier) → Holds (IsHead a k) (transaction_head t k x)
  transaction-head a whole k x =
      holds-checked (λ h. transaction_named (transactions_of (slice_get t.kinds k)) x.name ≡ Some h) (IsHead a k) (transaction_at t k x) (λ (h : TransactionHead). with_signature h (Some h.signature))
      (transaction-named k x (transaction_named (transactions_of (slice_get t.kinds k)) x.name) refl)
      (λ h e. transaction-signed a whole k x.name h e h.signature refl)

  abbrev pub IsCallHead : Surroundings → Found × (TransactionHead × Signature) → Type 0
  IsCallHead a h = (IsFound a h.0 × (is_process (type_in h.0) ≡ true)) × IsHead a (kind_in (type_in h.0)) h.1

  pub transaction-of : (a : Surroundings) → TextFits t a.parts → (x : Identifier) (v : Found) → IsFound a v × (is_process (type_in v) ≡ true) → Holds (IsCallHead a) (transaction_of t x v)
  transaction-of a whole x v h =
      holds-map (IsCallHead a) (λ (g : TransactionHead × Signature). (v, g)) (transaction_head t (kind_in (type_in v)) x)
      (holds-weaker (IsHead a (kind_in (type_in v))) _ (λ g i. (h, i)) (transaction_head t (kind_in (type_in v)) x) (transaction-head a whole (kind_in (type_in v)) x))

-- ---- what a transaction of such a head is

process-kind : (u : DataType) → is_process u ≡ true → is_same (of_process (kind_in u)) u ≡ true
process-kind Void e = false-true e
process-kind (Single (item.Number n)) e = false-true e
process-kind (Single (item.Process k)) e = type-same (of_process k)
process-kind (Single (item.Struct n)) e = false-true e
process-kind (Array e n) f = false-true f

pub head-called : (o : Option Transaction) (u : DataType) (h : TransactionHead) (g : Signature) → is_process u ≡ true → o ≡ Some (transaction_with (kind_in u) h g) → h.is_async ≡ false → is_called o u g.result ≡ true
head-called o u h g p e f =
    ap (λ x. is_called x u g.result) e
    ∙ and_from _ _ (and_from _ _ (ap not f) (process-kind u p)) (type-same g.result)

pub head-sent : (o : Option Transaction) (u : DataType) (h : TransactionHead) (g : Signature) → is_process u ≡ true → o ≡ Some (transaction_with (kind_in u) h g) → h.is_async ≡ true → is_sent o u ≡ true
head-sent o u h g p e f = ap (λ x. is_sent x u) e ∙ and_from _ _ f (process-kind u p)

-- ---- fields and elements

below-behind : (o : Option ℕ) (n : ℕ) → ((k : ℕ) → o ≡ Some k → k < n) → (k : ℕ) → one_behind o ≡ Some k → k < suc n
below-behind None n go k e = cc
below-behind (Some j) n go k e =
    let same : suc j ≡ k = suc-same e in
    let lt = go j refl in omega (arith, same, lt)
  where
    suc-same : {i m : ℕ} → Some i ≡ Some m → i ≡ m
    suc-same f = cc

some-same : {i m : ℕ} → Some i ≡ Some m → i ≡ m
some-same f = cc

position-here : (b : Bool) (o : Option ℕ) (n k : ℕ) → ((j : ℕ) → o ≡ Some j → j < n) → (if b then Some 0 else one_behind o) ≡ Some k → k < suc n
position-here true o n k go e = let same : 0 ≡ k = some-same e in omega (arith, same)
position-here false o n k go e = below-behind o n go k e

pub position-below : (xs : List ℕ) (x k : ℕ) → position xs x ≡ Some k → k < length xs
position-below [] x k e = cc
position-below (y ∷ ys) x k e = position-here (nat_eq y x) (position ys x) (length ys) k (position-below ys x) e

pub field-there : (x : Identifier) (xs : List ℕ) (o : Option ℕ) → position xs x.name ≡ o → Holds (λ k. k < length xs) (has_field x o)
field-there x xs None e = tt
field-there x xs (Some k) e = position-below xs x.name k e

module _ (t : Text) (s : Scope) (a : Surroundings) (here : ScopeFits t s a.parts) where
  field-of : (n k : ℕ) (o : Option Structure) → slice_get s.structures n ≡ o → k < length (fields_of o) → is_field_of a.parts.structures (of_struct n) k (spec.field_type (slice_get (fields_of o) k)) ≡ true
  field-of n k None e lt = absurd (omega (arith, lt))
  field-of n k (Some c) e lt =
      let there = some-there c.fields k lt in
      ap (λ o. is_of_type (field_type (slice_get (fields_of o) k)) (spec.field_type (slice_get c.fields k))) (front-get s.structures a.parts.structures here.structures n c e)
      ∙ ap (λ o. is_of_type (field_type o) (spec.field_type o)) there.1
      ∙ type-same (there.0).data_type

  pub field-typed : (u : DataType) (k : ℕ) → is_struct u ≡ true → k < length (fields_named s u) → is_field_of a.parts.structures u k (spec.field_type (slice_get (fields_of (structure_at s u)) k)) ≡ true
  field-typed Void k e lt = false-true e
  field-typed (Single (item.Number n)) k e lt = false-true e
  field-typed (Single (item.Process n)) k e lt = false-true e
  field-typed (Single (item.Struct n)) k e lt =
      let many = here.members n in field-of n k (slice_get s.structures n) refl (omega (arith, lt, many))
  field-typed (Array e n) k f lt = false-true f

-- ---- choices and comparisons

choice-other : (b : Bool) (t u : DataType) → b ≡ true → is_same t u ≡ true → ((b && is_same t u) && is_same t t) ≡ true
choice-other b t u e f = and_from _ _ (and_from _ _ e f) (type-same t)

pub choice-typed : (t u : DataType) → not (is_array t) ≡ true → may_be_arms t u ≡ true → is_choice t u (choice_of t u) ≡ true
choice-typed Void u n e = choice-other true Void u refl e
choice-typed (Single (item.Process k)) u n e = choice-other true (of_process k) u refl e
choice-typed (Single (item.Struct k)) u n e = choice-other true (of_struct k) u refl e
choice-typed (Single (item.Number k)) (Single (item.Number m)) n e = type-same (of_number (wider k m))
choice-typed (Single (item.Number k)) (Single (item.Process m)) n e = false-true e
choice-typed (Single (item.Number k)) (Single (item.Struct m)) n e = false-true e
choice-typed (Single (item.Number k)) Void n e = false-true e
choice-typed (Single (item.Number k)) (Array f m) n e = false-true e
choice-typed (Array f m) u n e = false-true n

compared-other : (b : Bool) (u w : DataType) → (b && is_same w u) ≡ true → (b && is_same u w) ≡ true
compared-other b u w h =
    let same : w ≡ u = same-type w u (right b (is_same w u) h) in
    and_from b (is_same u w) (left b (is_same w u) h) (ap (λ x. is_same u x) same ∙ type-same u)

compared-number : (b : Bool) (u w : DataType) → (b && is_same u w) ≡ true → is_arithmetic u ≡ true → is_arithmetic w ≡ true
compared-number b u w h i = let same : u ≡ w = same-type u w (right b (is_same u w) h) in ap is_arithmetic (sym same) ∙ i

compared-cases : (x y b d : Bool) (u w : DataType) → is_arithmetic u ≡ x → is_arithmetic w ≡ y → (x || (b && is_same w u)) ≡ true → (y || (d && is_same u w)) ≡ true → ((x && y) || (b && is_same u w)) ≡ true
compared-cases true true b d u w h i e f = refl
compared-cases true false b d u w h i e f = false-true (sym i ∙ compared-number d u w f h)
compared-cases false y b d u w h i e f = compared-other b u w e

pub compared-typed : (c : Comparison) (u w : DataType) → may_be_compared c (Some w) u ≡ true → may_be_compared c (Some u) w ≡ true → is_comparable c u w ≡ true
compared-typed c u w e f =
    compared-cases (is_arithmetic u) (is_arithmetic w) (is_equality c && is_process u) (is_equality c && is_process w) u w refl refl e f
