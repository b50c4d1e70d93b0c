-- The transactions of a text without a fault are typed, and stand where their heads say.
use Rattle.std.proofs.Common.{◌≡◌, ℕ, zero, suc, ◌+◌, ◌<◌, Bool, true, false, not, ◌&&◌, ◌||◌, List, [], ◌∷◌, ◌++◌, length, Option, Some, None, Ok, refl, ap, sym, subst, ◌∙◌, append_assoc, length-append, arith}
use Rattle.std.proofs.lemmas.Bool.{and_from, lt-ltb, or_left}
use Rattle.std.specs.List.{list_all}
use Rattle.std.specs.Prelude.{if◌then◌else◌, nat_eq, slice_get}
use Rattle.cc_typed.proofs.Tables.{left, right}
use Rattle.cc_typed.specs.KnownTypes.{are_parameters, is_process_type, is_whole}
use Rattle.cc_typed.specs.Parts.{Parts}
use Rattle.cc_typed.specs.Typed.{is_typed_transaction}
use Rattle.cc_typed.specs.Types.{is_void}
use Rattle.cc_typed.specs.declared.tree.Function.{Function}
use Rattle.cc_typed.specs.declared.tree.Kind.{Kind}
use Rattle.cc_typed.specs.declared.tree.Transaction.{Transaction as TypedTransaction}
use Rattle.cc_typed.specs.declared.types.DataType.{DataType}
use Rattle.cc_typed.specs.declared.types.DataType.TheVariants.{Void}
use Rattle.cc_faults.specs.Declarations.{is_async, kind_heads, parameters, signature_of, transaction_heads, transaction_result, transaction_signature, unused}
use Rattle.cc_faults.specs.Judged.{Good, after_each, both, map, outcome, second}
use Rattle.cc_faults.specs.Programs.{Passed, Piece, OneFunction, OneKind, and_item, and_transaction, transaction, transaction_made, transactions_among}
use Rattle.cc_faults.specs.Rows.{transaction_named, transactions_of}
use Rattle.cc_faults.specs.Scopes.{Scope, Text}
use Rattle.cc_faults.specs.declared.plain.Item.{Item}
use Rattle.cc_faults.specs.declared.plain.Item.TheVariants as item
use Rattle.cc_faults.specs.declared.plain.Transaction.{Transaction}
use Rattle.cc_faults.specs.declared.plain.TypeName.{TypeName}
use Rattle.cc_faults.specs.declared.scope.KindHead.{KindHead}
use Rattle.cc_faults.specs.declared.scope.Signature.{Signature}
use Rattle.cc_faults.specs.declared.scope.TransactionHead.{TransactionHead}
use Rattle.cc_sound.proofs.Functions.{good-equal}
use Rattle.cc_sound.proofs.Goods.{AreWalked, good-both, good-map, good-outcome, good-walk, walk-length}
use Rattle.cc_sound.proofs.Growth.{front-on}
use Rattle.cc_sound.proofs.Heads.{false-true}
use Rattle.cc_sound.proofs.Items.{ArePieces}
use Rattle.cc_sound.proofs.Levels.{Level, level-after, level-fits}
use Rattle.cc_sound.proofs.Moves.{items-move, kinds-behind}
use Rattle.cc_sound.proofs.Parameters.{parameters-typed, written-typed}
use Rattle.cc_sound.proofs.Specified.{none-there, some-same}
use Rattle.cc_sound.proofs.Starts.{specified_names}
use Rattle.cc_sound.specs.Fits.{IsFront, ScopeFits, transaction_with}

get-at : {A : Type 0} (xs : List A) (x : A) (rest : List A) → slice_get (xs ++ x ∷ rest) (length xs) ≡ Some x
get-at [] x rest = refl
get-at (y ∷ xs) x rest = get-at xs x rest

-- ---- one line

line-made : (k : ℕ) (s : Scope) (before : List ℕ) (d : Transaction) (y : TypedTransaction) → transaction k s before d ≡ Good y → (g : Signature) × (transaction_signature s d ≡ Good g) × (y ≡ transaction_made k d g)
line-made k s before d y e =
    let m = good-map (transaction_made k d) (map second (both (unused before d.name) (transaction_signature s d))) y e in
    let n = good-map second (both (unused before d.name) (transaction_signature s d)) m.0 m.1 in
    let b = good-both (unused before d.name) (transaction_signature s d) n.0 n.1 in
    ((n.0).1, b.1, m.2 ∙ ap (transaction_made k d) n.2)

result-void : (s : Scope) (o : Option TypeName) (u : DataType) → is_async o ≡ true → transaction_result s o ≡ Good u → u ≡ Void
result-void s None u e f = good-equal f refl
result-void s (Some n) u e f = false-true e

signature-parts : (s : Scope) (d : Transaction) (g : Signature) → transaction_signature s d ≡ Good g → (transaction_result s d.result ≡ Good g.result) × (parameters s d.name d.parameters ≡ Good g.parameters)
signature-parts s d g e =
    let m = good-map signature_of (both (transaction_result s d.result) (parameters s d.name d.parameters)) g e in
    let b = good-both (transaction_result s d.result) (parameters s d.name d.parameters) m.0 m.1 in
    (b.0 ∙ ap (λ (h : Signature). Good h.result) (sym m.2), b.1 ∙ ap (λ (h : Signature). Good h.parameters) (sym m.2))

-- a head says what stands in the program
abbrev pub IsTransactionOf : Parts → List TypedTransaction → ℕ → TransactionHead → Type 0
IsTransactionOf p all k h =
    (g : Signature) → h.signature ≡ Ok g → (slice_get all h.number ≡ Some (transaction_with k h g)) × (h.is_async ≡ true → g.result ≡ Void) × (list_all (is_whole p) g.parameters ≡ true)

module _ (t : Text) (s : Scope) (p : Parts) (here : ScopeFits t s p) where
  result-typed : (o : Option TypeName) (u : DataType) → transaction_result s o ≡ Good u → (is_void u || (not (is_async o) && is_whole p u)) ≡ true
  result-typed None u e = or_left _ _ (ap is_void (result-void s None u refl e))
  result-typed (Some n) u e = written-typed t s p here n u e

  line-typed : (k : ℕ) (before : List ℕ) (d : Transaction) (y : TypedTransaction) → is_process_type p k ≡ true → transaction k s before d ≡ Good y → is_typed_transaction p y ≡ true
  line-typed k before d y there e =
      let m = line-made k s before d y e in
      let parts = signature-parts s d m.0 m.1 in
      subst (λ z. is_typed_transaction p z ≡ true) (sym m.2)
      (and_from _ _ (and_from _ _ there (parameters-typed t s p here d.name d.parameters (m.0).parameters parts.1).1) (result-typed d.result (m.0).result parts.0))

  lines-typed : (k : ℕ) (before : List ℕ) (ds : List Transaction) (ys : List TypedTransaction) → is_process_type p k ≡ true → AreWalked (λ r d y. transaction k s r d ≡ Good y) and_transaction before ds ys → list_all (is_typed_transaction p) ys ≡ true
  lines-typed k before [] [] there h = refl
  lines-typed k before [] (y ∷ ys) there h = absurd h
  lines-typed k before (d ∷ ds) [] there h = absurd h
  lines-typed k before (d ∷ ds) (y ∷ ys) there h =
      and_from _ _ (line-typed k before d y there h.0) (lines-typed k (and_transaction before d) ds ys there h.1)

  line-known : (k n : ℕ) (before : List ℕ) (first more : List TypedTransaction) (d : Transaction) (y : TypedTransaction) → length first ≡ n → transaction k s before d ≡ Good y
      → IsTransactionOf p (first ++ y ∷ more) k (record { name = d.name.name; number = n; is_async = is_async d.result; signature = outcome (transaction_signature s d) })
  line-known k n before first more d y many e g f =
      let m = line-made k s before d y e in
      let good = good-outcome (transaction_signature s d) g f in
      let parts = signature-parts s d g good in
      let same = good-equal m.1 good in (
        ap (slice_get (first ++ y ∷ more)) (sym many) ∙ get-at first y more ∙ ap (λ z. Some z) (m.2 ∙ ap (transaction_made k d) same),
        λ async. result-void s d.result g.result async parts.0,
        left _ _ (parameters-typed t s p here d.name d.parameters g.parameters parts.1).1,
      )

  lines-known : (k n : ℕ) (before : List ℕ) (first more : List TypedTransaction) (ds : List Transaction) (ys : List TypedTransaction) → length first ≡ n → AreWalked (λ r d y. transaction k s r d ≡ Good y) and_transaction before ds ys
      → (x : ℕ) (h : TransactionHead) → transaction_named (transaction_heads s n ds) x ≡ Some h → IsTransactionOf p (first ++ (ys ++ more)) k h
  lines-known k n before first more [] ys many w x h e = absurd (none-some e)
    where
      none-some : None ≡ Some h → ⊥
      none-some f = cc
  lines-known k n before first more (d ∷ ds) [] many w x h e = absurd w
  lines-known k n before first more (d ∷ ds) (y ∷ ys) many w x h e =
      cases (nat_eq d.name.name x) e
      (λ f. subst (λ l. IsTransactionOf p l k h) (append_assoc first (y ∷ []) (ys ++ more)) (lines-known k (suc n) (and_transaction before d) (first ++ y ∷ []) more ds ys longer w.1 x h f))
    where
      longer : length (first ++ y ∷ []) ≡ suc n
      longer = let a = length-append first (y ∷ []) in omega (arith, a, many)

      cases : (b : Bool) → (if b then Some (record { name = d.name.name; number = n; is_async = is_async d.result; signature = outcome (transaction_signature s d) }) else transaction_named (transaction_heads s (suc n) ds) x) ≡ Some h
          → (transaction_named (transaction_heads s (suc n) ds) x ≡ Some h → IsTransactionOf p (first ++ (y ∷ ys ++ more)) k h) → IsTransactionOf p (first ++ (y ∷ ys ++ more)) k h
      cases true f go =
          subst (IsTransactionOf p (first ++ (y ∷ ys ++ more)) k) (some-same f) (line-known k n before first (ys ++ more) d y many w.0)
      cases false f go = go f

-- ---- all lines

module _ (t : Text) (p : Parts) (all : List Item) where
  -- all that stands behind ends in the program
  abbrev pub GoesTo : Passed → List Item → Type 0
  GoesTo b items = IsFront (after_each (and_item t) b items).scope.structures p.structures

  pub fits-here : (b : Passed) (items : List Item) → Level t p b.scope → GoesTo b items → ScopeFits t b.scope p
  fits-here b items level front =
      level-fits t p b.scope level (front-on b.scope.structures (after_each (and_item t) b items).scope.structures p.structures (items-move t b items).structures front)

  pub goes-more : (b : Passed) (i : Item) (rest : List Item) → GoesTo b (i ∷ rest) → GoesTo (and_item t b i) rest
  unfolding after_each
  goes-more b i rest front = front

  none-head : {h : TransactionHead} → None ≡ Some h → ⊥
  none-head f = cc

  get-no : {A : Type 0} (n : ℕ) (x : ℕ) (h : TransactionHead) → transaction_named (transactions_of (slice_get [] n)) x ≡ Some h → A
  get-no zero x h e = absurd (none-head e)
  get-no (suc n) x h e = absurd (none-head e)

  -- each transaction of each specification stands where its head says
  pub transactions-known : (n : ℕ) (first : List TypedTransaction) → length first ≡ n → (b : Passed) (items : List Item) (ys : List Piece) → Level t p b.scope → GoesTo b items → ArePieces t all b items ys
      → (j k x : ℕ) (h : TransactionHead) → k ≡ suc (b.kinds + j) → transaction_named (transactions_of (slice_get (kind_heads b.scope n items) j)) x ≡ Some h → IsTransactionOf p (first ++ transactions_among ys) k h
  transactions-known n first many b [] ys level front w j k x h same e = get-no j x h e
  transactions-known n first many b (i ∷ rest) [] level front w j k x h same e = absurd w
  transactions-known n first many b (item.Structure y fields ∷ rest) (z ∷ ys) level front w j k x h same e =
      subst (λ q. IsTransactionOf p (first ++ transactions_among (q ∷ ys)) k h) (sym w.0)
      (transactions-known (n + 0) first (omega (arith, many)) (and_item t b (item.Structure y fields)) rest ys (level-after t p b.scope (item.Structure y fields) level) (goes-more b (item.Structure y fields) rest front) w.1 j k x h (omega (arith, same)) e)
  transactions-known n first many b (item.Enumeration y cs ∷ rest) (z ∷ ys) level front w j k x h same e =
      subst (λ q. IsTransactionOf p (first ++ transactions_among (q ∷ ys)) k h) (sym w.0)
      (transactions-known (n + 0) first (omega (arith, many)) (and_item t b (item.Enumeration y cs)) rest ys (level-after t p b.scope (item.Enumeration y cs) level) (goes-more b (item.Enumeration y cs) rest front) w.1 j k x h (omega (arith, same)) e)
  transactions-known n first many b (item.Body y names block ∷ rest) (z ∷ ys) level front w j k x h same e =
      subst (λ q. IsTransactionOf p (first ++ transactions_among (q ∷ ys)) k h) (sym w.0.1)
      (transactions-known (n + 0) first (omega (arith, many)) (and_item t b (item.Body y names block)) rest ys (level-after t p b.scope (item.Body y names block) level) (goes-more b (item.Body y names block) rest front) w.1 j k x h (omega (arith, same))
      (ap (λ l. transaction_named (transactions_of (slice_get l j)) x) (kinds-behind t b.scope (n + 0) (item.Body y names block) rest) ∙ e))
  transactions-known n first many b (item.Function result y ps block ∷ rest) (z ∷ ys) level front w j k x h same e =
      subst (λ q. IsTransactionOf p (first ++ transactions_among (q ∷ ys)) k h) (sym w.0.1)
      (one (nat_eq y.name 0) _ _
      (transactions-known (n + 0) first (omega (arith, many)) (and_item t b (item.Function result y ps block)) rest ys (level-after t p b.scope (item.Function result y ps block) level) (goes-more b (item.Function result y ps block) rest front) w.1 j k x h (omega (arith, same)) e))
    where
      one : (d : Bool) (c : Kind) (f : Function) → IsTransactionOf p (first ++ transactions_among ys) k h → IsTransactionOf p (first ++ transactions_among ((if d then OneKind 0 c else OneFunction f) ∷ ys)) k h
      one true c f i = i
      one false c f i = i
  transactions-known n first many b (item.Specification y ts ds ∷ rest) (z ∷ ys) level front w zero k x h same e =
      let kind : suc b.kinds ≡ k = omega (arith, same) in
      subst (λ q. IsTransactionOf p (first ++ transactions_among (q ∷ ys)) k h) (sym w.0.1)
      (subst (λ m. IsTransactionOf p (first ++ (w.0.0.1 ++ transactions_among ys)) m h) kind
      (lines-known t b.scope p (fits-here b (item.Specification y ts ds ∷ rest) level front) (suc b.kinds) n [] first (transactions_among ys) ds w.0.0.1 many (good-walk (transaction (suc b.kinds) b.scope) and_transaction [] ds w.0.0.1 w.0.2.lines) x h e))
  transactions-known n first many b (item.Specification y ts ds ∷ rest) (z ∷ ys) level front w (suc j) k x h same e =
      subst (λ q. IsTransactionOf p (first ++ transactions_among (q ∷ ys)) k h) (sym w.0.1)
      (subst (λ l. IsTransactionOf p l k h) (append_assoc first w.0.0.1 (transactions_among ys))
      (transactions-known (n + length ds) (first ++ w.0.0.1) longer (and_item t b (item.Specification y ts ds)) rest ys (level-after t p b.scope (item.Specification y ts ds) level) (goes-more b (item.Specification y ts ds) rest front) w.1 j k x h (omega (arith, same)) e))
    where
      longer : length (first ++ w.0.0.1) ≡ n + length ds
      longer =
          let a = length-append first w.0.0.1 in
          let c = walk-length (λ r d v. transaction (suc b.kinds) b.scope r d ≡ Good v) and_transaction [] ds w.0.0.1 (good-walk (transaction (suc b.kinds) b.scope) and_transaction [] ds w.0.0.1 w.0.2.lines) in omega (arith, a, c, many)

  all-on : {A : Type 0} (test : A → Bool) (xs ys : List A) → list_all test xs ≡ true → list_all test ys ≡ true → list_all test (xs ++ ys) ≡ true
  all-on test [] ys h i = i
  all-on test (x ∷ xs) ys h i = and_from _ _ (left _ _ h) (all-on test xs ys (right _ _ h) i)

  pub transactions-typed : (b : Passed) (items : List Item) (ys : List Piece) → Level t p b.scope → GoesTo b items → ArePieces t all b items ys → b.kinds + length (specified_names items) < length p.kinds → list_all (is_typed_transaction p) (transactions_among ys) ≡ true
  transactions-typed b [] [] level front w few = refl
  transactions-typed b [] (z ∷ ys) level front w few = absurd w
  transactions-typed b (i ∷ rest) [] level front w few = absurd w
  transactions-typed b (item.Structure y fields ∷ rest) (z ∷ ys) level front w few =
      subst (λ q. list_all (is_typed_transaction p) (transactions_among (q ∷ ys)) ≡ true) (sym w.0)
      (transactions-typed (and_item t b (item.Structure y fields)) rest ys (level-after t p b.scope (item.Structure y fields) level) (goes-more b (item.Structure y fields) rest front) w.1 (omega (arith, few)))
  transactions-typed b (item.Enumeration y cs ∷ rest) (z ∷ ys) level front w few =
      subst (λ q. list_all (is_typed_transaction p) (transactions_among (q ∷ ys)) ≡ true) (sym w.0)
      (transactions-typed (and_item t b (item.Enumeration y cs)) rest ys (level-after t p b.scope (item.Enumeration y cs) level) (goes-more b (item.Enumeration y cs) rest front) w.1 (omega (arith, few)))
  transactions-typed b (item.Body y names block ∷ rest) (z ∷ ys) level front w few =
      subst (λ q. list_all (is_typed_transaction p) (transactions_among (q ∷ ys)) ≡ true) (sym w.0.1)
      (transactions-typed (and_item t b (item.Body y names block)) rest ys (level-after t p b.scope (item.Body y names block) level) (goes-more b (item.Body y names block) rest front) w.1 (omega (arith, few)))
  transactions-typed b (item.Function result y ps block ∷ rest) (z ∷ ys) level front w few =
      subst (λ q. list_all (is_typed_transaction p) (transactions_among (q ∷ ys)) ≡ true) (sym w.0.1)
      (one (nat_eq y.name 0) _ _
      (transactions-typed (and_item t b (item.Function result y ps block)) rest ys (level-after t p b.scope (item.Function result y ps block) level) (goes-more b (item.Function result y ps block) rest front) w.1 (omega (arith, few))))
    where
      one : (d : Bool) (c : Kind) (f : Function) → list_all (is_typed_transaction p) (transactions_among ys) ≡ true → list_all (is_typed_transaction p) (transactions_among ((if d then OneKind 0 c else OneFunction f) ∷ ys)) ≡ true
      one true c f i = i
      one false c f i = i
  transactions-typed b (item.Specification y ts ds ∷ rest) (z ∷ ys) level front w few =
      subst (λ q. list_all (is_typed_transaction p) (transactions_among (q ∷ ys)) ≡ true) (sym w.0.1)
      (all-on (is_typed_transaction p) w.0.0.1 (transactions_among ys)
      (lines-typed t b.scope p (fits-here b (item.Specification y ts ds ∷ rest) level front) (suc b.kinds) [] ds w.0.0.1 (and_from _ _ (lt-ltb 0 (suc b.kinds) (omega arith)) (lt-ltb (suc b.kinds) (length p.kinds) (omega (arith, few)))) (good-walk (transaction (suc b.kinds) b.scope) and_transaction [] ds w.0.0.1 w.0.2.lines))
      (transactions-typed (and_item t b (item.Specification y ts ds)) rest ys (level-after t p b.scope (item.Specification y ts ds) level) (goes-more b (item.Specification y ts ds) rest front) w.1 (omega (arith, few))))

  -- the types of a specification's parameters are those of parameters
  pub kinds-typed : (n : ℕ) (b : Passed) (items : List Item) (ys : List Piece) → Level t p b.scope → GoesTo b items → ArePieces t all b items ys → (j : ℕ) (h : KindHead) (us : List DataType) → slice_get (kind_heads b.scope n items) j ≡ Some h → h.parameters ≡ Ok us → are_parameters p us ≡ true
  kinds-typed n b [] ys level front w j h us e f = absurd (none-there j e)
  kinds-typed n b (i ∷ rest) [] level front w j h us e f = absurd w
  kinds-typed n b (item.Structure y fields ∷ rest) (z ∷ ys) level front w j h us e f =
      kinds-typed (n + 0) (and_item t b (item.Structure y fields)) rest ys (level-after t p b.scope (item.Structure y fields) level) (goes-more b (item.Structure y fields) rest front) w.1 j h us e f
  kinds-typed n b (item.Enumeration y cs ∷ rest) (z ∷ ys) level front w j h us e f =
      kinds-typed (n + 0) (and_item t b (item.Enumeration y cs)) rest ys (level-after t p b.scope (item.Enumeration y cs) level) (goes-more b (item.Enumeration y cs) rest front) w.1 j h us e f
  kinds-typed n b (item.Body y names block ∷ rest) (z ∷ ys) level front w j h us e f =
      kinds-typed (n + 0) (and_item t b (item.Body y names block)) rest ys (level-after t p b.scope (item.Body y names block) level) (goes-more b (item.Body y names block) rest front) w.1 j h us
      (ap (λ l. slice_get l j) (kinds-behind t b.scope (n + 0) (item.Body y names block) rest) ∙ e) f
  kinds-typed n b (item.Function result y ps block ∷ rest) (z ∷ ys) level front w j h us e f =
      kinds-typed (n + 0) (and_item t b (item.Function result y ps block)) rest ys (level-after t p b.scope (item.Function result y ps block) level) (goes-more b (item.Function result y ps block) rest front) w.1 j h us e f
  kinds-typed n b (item.Specification y ts ds ∷ rest) (z ∷ ys) level front w zero h us e f =
      (parameters-typed t b.scope p (fits-here b (item.Specification y ts ds ∷ rest) level front) y ts us (good-outcome (parameters b.scope y ts) us (ap (λ (g : KindHead). g.parameters) (some-same e) ∙ f))).1
  kinds-typed n b (item.Specification y ts ds ∷ rest) (z ∷ ys) level front w (suc j) h us e f =
      kinds-typed (n + length ds) (and_item t b (item.Specification y ts ds)) rest ys (level-after t p b.scope (item.Specification y ts ds) level) (goes-more b (item.Specification y ts ds) rest front) w.1 j h us e f
