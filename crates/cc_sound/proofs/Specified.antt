-- Each specification has one body, whose variables begin with the parameters that are specified.
use Rattle.std.proofs.Common.{◌≡◌, ℕ, zero, suc, ◌+◌, ◌<◌, Bool, true, false, ◌||◌, List, [], ◌∷◌, length, Option, Some, None, Ok, refl, ap, sym, subst, ◌∙◌, length-append, arith}
use Rattle.std.proofs.lemmas.Bool.{eq-eqb, eqb-true, or_left, or_right}
use Rattle.std.specs.Prelude.{if◌then◌else◌, nat_eq, slice_get}
use Rattle.cc_typed.specs.declared.tree.Kind.{Kind}
use Rattle.cc_typed.specs.declared.types.DataType.{DataType}
use Rattle.cc_faults.specs.Declarations.{after_item, kind_heads, kind_of, parameters, transaction_heads, transactions_in}
use Rattle.cc_faults.specs.Judged.{Good, Bad, outcome}
use Rattle.cc_faults.specs.Programs.{BodyParts, Passed, Piece, NoPiece, OneFunction, OneKind, Transactions, and_item, has_body, kind_among, kinds_among, no_kind}
use Rattle.cc_faults.specs.Rows.{value_type, with_specification}
use Rattle.cc_faults.specs.Scopes.{Scope, Text, entry_at, is_among}
use Rattle.cc_faults.specs.declared.fault.FaultAt.{FaultAt}
use Rattle.cc_faults.specs.declared.fault.TypeKind.TheVariants as kind
use Rattle.cc_faults.specs.declared.plain.Identifier.{Identifier}
use Rattle.cc_faults.specs.declared.plain.Item.{Item}
use Rattle.cc_faults.specs.declared.plain.Item.TheVariants as item
use Rattle.cc_faults.specs.declared.plain.Statement.{Statement}
use Rattle.cc_faults.specs.declared.scope.KindHead.{KindHead}
use Rattle.cc_sound.proofs.Functions.{parameters-each}
use Rattle.cc_sound.proofs.Goods.{each-length, good-outcome, good-unless}
use Rattle.cc_sound.proofs.Heads.{false-true, true-false}
use Rattle.cc_sound.proofs.Items.{ArePieces, BodyFound}
use Rattle.cc_sound.proofs.Moves.{item-moves}
use Rattle.cc_sound.proofs.Parameters.{not-seen}
use Rattle.cc_sound.proofs.Starts.{specified_in, specified_names}

-- ---- the heads of specifications

kind-count : (s : Scope) (n : ℕ) (i : Item) → length (kind_of s n i) ≡ length (specified_in i)
kind-count s n (item.Structure x fields) = refl
kind-count s n (item.Enumeration x cs) = refl
kind-count s n (item.Specification x ts ds) = refl
kind-count s n (item.Body x names block) = refl
kind-count s n (item.Function result x ps block) = refl

pub kinds-count : (s : Scope) (n : ℕ) (items : List Item) → length (kind_heads s n items) ≡ length (specified_names items)
kinds-count s n [] = refl
kinds-count s n (i ∷ rest) =
    let a = kind-count s n i in
    let b = kinds-count (after_item s i) (n + transactions_in i) rest in
    let c = length-append (kind_of s n i) (kind_heads (after_item s i) (n + transactions_in i) rest) in
    let d = length-append (specified_in i) (specified_names rest) in omega (arith, a, b, c, d)

-- as many types as are counted
abbrev pub IsCounted : KindHead → Type 0
IsCounted h = (us : List DataType) → h.parameters ≡ Ok us → length us ≡ h.count

pub none-there : {A : Type 0} (n : ℕ) {a : A} → slice_get [] n ≡ Some a → ⊥
none-there n e = cc

pub some-same : {A : Type 0} {a c : A} → Some a ≡ Some c → a ≡ c
some-same e = cc

pub counted-at : (s : Scope) (n : ℕ) (items : List Item) (j : ℕ) (h : KindHead) → slice_get (kind_heads s n items) j ≡ Some h → IsCounted h
counted-at s n [] j h e = absurd (none-there j e)
counted-at s n (item.Structure x fields ∷ rest) j h e = counted-at (after_item s (item.Structure x fields)) (n + 0) rest j h e
counted-at s n (item.Enumeration x cs ∷ rest) j h e = counted-at (after_item s (item.Enumeration x cs)) (n + 0) rest j h e
counted-at s n (item.Body x names block ∷ rest) j h e = counted-at s (n + 0) rest j h e
counted-at s n (item.Function result x ps block ∷ rest) j h e = counted-at (after_item s (item.Function result x ps block)) (n + 0) rest j h e
counted-at s n (item.Specification x ts ds ∷ rest) zero h e = subst IsCounted (some-same e) here
  where
    here : IsCounted (record { count = length ts; parameters = outcome (parameters s x ts); transactions = transaction_heads s n ds })
    here us f =
        sym (each-length (λ m u. value_type s m ≡ Good u) ts us (parameters-each s x ts us (good-outcome (parameters s x ts) us f)))
counted-at s n (item.Specification x ts ds ∷ rest) (suc j) h e = counted-at s (n + length ds) rest j h e

-- ---- pieces of a kind

abbrev pub has_kind : ℕ → List Piece → Bool
has_kind k [] = false
has_kind k (OneKind j c ∷ rest) = nat_eq j k || has_kind k rest
has_kind k (NoPiece ∷ rest) = has_kind k rest
has_kind k (OneFunction f ∷ rest) = has_kind k rest
has_kind k (Transactions ds ∷ rest) = has_kind k rest

pub kind-more : (k : ℕ) (y : Piece) (ys : List Piece) → has_kind k ys ≡ true → has_kind k (y ∷ ys) ≡ true
kind-more k NoPiece ys h = h
kind-more k (OneFunction f) ys h = h
kind-more k (Transactions ds) ys h = h
kind-more k (OneKind j c) ys h = or_right _ _ h

pub no-kind : (k : ℕ) (ys : List Piece) → has_kind k ys ≡ false → kind_among k ys ≡ no_kind
no-kind k [] h = refl
no-kind k (NoPiece ∷ ys) h = no-kind k ys h
no-kind k (OneFunction f ∷ ys) h = no-kind k ys h
no-kind k (Transactions ds ∷ ys) h = no-kind k ys h
no-kind k (OneKind j c ∷ ys) h = cases (nat_eq j k) (has_kind k ys) h (no-kind k ys)
  where
    cases : (b d : Bool) → (b || d) ≡ false → (d ≡ false → kind_among k ys ≡ no_kind) → (if b then c else kind_among k ys) ≡ no_kind
    cases true d e go = true-false e
    cases false d e go = go e

pub kinds-get : (n : ℕ) (k j : ℕ) (ys : List Piece) → j < n → slice_get (kinds_among k n ys) j ≡ Some (kind_among (k + j) ys)
kinds-get zero k j ys lt = absurd (omega (arith, lt))
kinds-get (suc n) k zero ys lt = let e : k ≡ k + 0 = omega arith in ap (λ m. Some (kind_among m ys)) e
kinds-get (suc n) k (suc j) ys lt =
    let e : suc k + j ≡ k + suc j = omega arith in
    kinds-get n (suc k) j ys (omega (arith, lt)) ∙ ap (λ m. Some (kind_among m ys)) e

pub kinds-length : (n k : ℕ) (ys : List Piece) → length (kinds_among k n ys) ≡ n
kinds-length zero k ys = refl
kinds-length (suc n) k ys = ap suc (kinds-length n (suc k) ys)

-- ---- names of specifications and bodies

or-right-false : (a b : Bool) → (a || b) ≡ false → b ≡ false
or-right-false true b e = true-false e
or-right-false false b e = e

or-left-false : (a b : Bool) → (a || b) ≡ false → a ≡ false
or-left-false true b e = true-false e
or-left-false false b e = refl

module _ (t : Text) (all : List Item) where
  -- no specification has a name that an earlier one has
  spec-fresh : (b : Passed) (items : List Item) (ys : List Piece) → ArePieces t all b items ys → (i x : ℕ) → slice_get (specified_names items) i ≡ Some x → is_among b.specifications x ≡ false
  spec-fresh b [] ys h i x e = absurd (none-there i e)
  spec-fresh b (k ∷ rest) [] h i x e = absurd h
  spec-fresh b (item.Structure y fields ∷ rest) (z ∷ ys) h i x e = spec-fresh (and_item t b (item.Structure y fields)) rest ys h.1 i x e
  spec-fresh b (item.Enumeration y cs ∷ rest) (z ∷ ys) h i x e = spec-fresh (and_item t b (item.Enumeration y cs)) rest ys h.1 i x e
  spec-fresh b (item.Body y names block ∷ rest) (z ∷ ys) h i x e = spec-fresh (and_item t b (item.Body y names block)) rest ys h.1 i x e
  spec-fresh b (item.Function result y ps block ∷ rest) (z ∷ ys) h i x e = spec-fresh (and_item t b (item.Function result y ps block)) rest ys h.1 i x e
  spec-fresh b (item.Specification y ts ds ∷ rest) (z ∷ ys) h zero x e =
      subst (λ n. is_among b.specifications n ≡ false) (some-same e) (not-seen b.specifications y _ h.0.2.is_first)
  spec-fresh b (item.Specification y ts ds ∷ rest) (z ∷ ys) h (suc i) x e =
      or-right-false (nat_eq y.name x) (is_among b.specifications x) (spec-fresh (and_item t b (item.Specification y ts ds)) rest ys h.1 i x e)

  pub spec-once : (b : Passed) (items : List Item) (ys : List Piece) → ArePieces t all b items ys → (i j x : ℕ) → slice_get (specified_names items) i ≡ Some x → slice_get (specified_names items) j ≡ Some x → i ≡ j
  spec-once b [] ys h i j x e f = absurd (none-there i e)
  spec-once b (k ∷ rest) [] h i j x e f = absurd h
  spec-once b (item.Structure y fields ∷ rest) (z ∷ ys) h i j x e f = spec-once (and_item t b (item.Structure y fields)) rest ys h.1 i j x e f
  spec-once b (item.Enumeration y cs ∷ rest) (z ∷ ys) h i j x e f = spec-once (and_item t b (item.Enumeration y cs)) rest ys h.1 i j x e f
  spec-once b (item.Body y names block ∷ rest) (z ∷ ys) h i j x e f = spec-once (and_item t b (item.Body y names block)) rest ys h.1 i j x e f
  spec-once b (item.Function result y ps block ∷ rest) (z ∷ ys) h i j x e f = spec-once (and_item t b (item.Function result y ps block)) rest ys h.1 i j x e f
  spec-once b (item.Specification y ts ds ∷ rest) (z ∷ ys) h zero zero x e f = refl
  spec-once b (item.Specification y ts ds ∷ rest) (z ∷ ys) h zero (suc j) x e f =
      false-true (sym (or-left-false (nat_eq y.name x) (is_among b.specifications x) (spec-fresh (and_item t b (item.Specification y ts ds)) rest ys h.1 j x f)) ∙ eq-eqb y.name x (some-same e))
  spec-once b (item.Specification y ts ds ∷ rest) (z ∷ ys) h (suc i) zero x e f =
      false-true (sym (or-left-false (nat_eq y.name x) (is_among b.specifications x) (spec-fresh (and_item t b (item.Specification y ts ds)) rest ys h.1 i x e)) ∙ eq-eqb y.name x (some-same f))
  spec-once b (item.Specification y ts ds ∷ rest) (z ∷ ys) h (suc i) (suc j) x e f =
      ap suc (spec-once (and_item t b (item.Specification y ts ds)) rest ys h.1 i j x e f)

  -- each specification has a name, and a body of it stands in the text
  abbrev pub HasBody : ℕ → List Item → Type 0
  HasBody j items = (x : ℕ) × (slice_get (specified_names items) j ≡ Some x) × (has_body x all ≡ true)

  pub spec-body : (s : Scope) (n : ℕ) (b : Passed) (items : List Item) (ys : List Piece) → ArePieces t all b items ys → (j : ℕ) (h : KindHead) → slice_get (kind_heads s n items) j ≡ Some h → HasBody j items
  spec-body s n b [] ys h j g e = absurd (none-there j e)
  spec-body s n b (k ∷ rest) [] h j g e = absurd h
  spec-body s n b (item.Structure y fields ∷ rest) (z ∷ ys) h j g e = spec-body (after_item s (item.Structure y fields)) (n + 0) (and_item t b (item.Structure y fields)) rest ys h.1 j g e
  spec-body s n b (item.Enumeration y cs ∷ rest) (z ∷ ys) h j g e = spec-body (after_item s (item.Enumeration y cs)) (n + 0) (and_item t b (item.Enumeration y cs)) rest ys h.1 j g e
  spec-body s n b (item.Body y names block ∷ rest) (z ∷ ys) h j g e = spec-body s (n + 0) (and_item t b (item.Body y names block)) rest ys h.1 j g e
  spec-body s n b (item.Function result y ps block ∷ rest) (z ∷ ys) h j g e = spec-body (after_item s (item.Function result y ps block)) (n + 0) (and_item t b (item.Function result y ps block)) rest ys h.1 j g e
  spec-body s n b (item.Specification y ts ds ∷ rest) (z ∷ ys) h zero g e =
      (y.name, refl, (good-unless (has_body y.name all) y.place kind.NoBody tt _ h.0.2.with_its_body).0)
  spec-body s n b (item.Specification y ts ds ∷ rest) (z ∷ ys) h (suc j) g e =
      spec-body s (n + length ds) (and_item t b (item.Specification y ts ds)) rest ys h.1 j g e

  named-kind : (x : Identifier) (o : Option ℕ) (k : ℕ) → with_specification x o ≡ Good k → o ≡ Some k
  named-kind x None k e = absurd (bad-good e)
    where
      bad-good : {f : FaultAt} → Bad true f [] ≡ Good k → ⊥
      bad-good g = cc
  named-kind x (Some j) k e = cc

  -- the kind of a body is that of its name
  pub body-named : (names : List (Option ℕ)) (b : Passed) (x : Identifier) (xs : List Identifier) (block : List Statement) (v : BodyParts) → b.scope.processes_named ≡ names → BodyFound t b x xs block v → entry_at names x ≡ Some v.0.1.0.0
  body-named names b x xs block v e found =
      ap (λ ns. entry_at ns x) (sym e) ∙ named-kind x (entry_at b.scope.processes_named x) v.0.1.0.0 found.kind

  abbrev pub BodyThere : List (Option ℕ) → ℕ → List Piece → Type 0
  BodyThere names n ys =
      (k : ℕ) × (x : Identifier) × (x.name ≡ n) × (entry_at names x ≡ Some k) × (has_kind k ys ≡ true)

  there-more : (names : List (Option ℕ)) (n : ℕ) (y : Piece) (ys : List Piece) → BodyThere names n ys → BodyThere names n (y ∷ ys)
  there-more names n y ys h = (h.0, h.1, h.2, h.3, kind-more h.0 y ys h.4)

  -- a body of this name is among the pieces
  pub body-there : (names : List (Option ℕ)) (n : ℕ) (b : Passed) (items : List Item) (ys : List Piece) → b.scope.processes_named ≡ names → ArePieces t all b items ys → has_body n items ≡ true → BodyThere names n ys
  body-there names n b [] ys e h i = false-true i
  body-there names n b (j ∷ rest) [] e h i = absurd h
  body-there names n b (item.Structure y fields ∷ rest) (z ∷ ys) e h i =
      there-more names n z ys (body-there names n (and_item t b (item.Structure y fields)) rest ys ((item-moves t b.scope (item.Structure y fields)).processes ∙ e) h.1 i)
  body-there names n b (item.Enumeration y cs ∷ rest) (z ∷ ys) e h i =
      there-more names n z ys (body-there names n (and_item t b (item.Enumeration y cs)) rest ys ((item-moves t b.scope (item.Enumeration y cs)).processes ∙ e) h.1 i)
  body-there names n b (item.Specification y ts ds ∷ rest) (z ∷ ys) e h i =
      there-more names n z ys (body-there names n (and_item t b (item.Specification y ts ds)) rest ys e h.1 i)
  body-there names n b (item.Function result y ps block ∷ rest) (z ∷ ys) e h i =
      there-more names n z ys (body-there names n (and_item t b (item.Function result y ps block)) rest ys ((item-moves t b.scope (item.Function result y ps block)).processes ∙ e) h.1 i)
  body-there names n b (item.Body y xs block ∷ rest) (z ∷ ys) e h i =
      cases (nat_eq y.name n) refl i (λ g. body-there names n (and_item t b (item.Body y xs block)) rest ys e h.1 g)
    where
      cases : (d : Bool) → nat_eq y.name n ≡ d → (d || has_body n rest) ≡ true → (has_body n rest ≡ true → BodyThere names n ys) → BodyThere names n (z ∷ ys)
      cases true f g go =
          (h.0.0.0.1.0.0, y, eqb-true y.name n f, body-named names b y xs block h.0.0 e h.0.2, ap (λ q. has_kind h.0.0.0.1.0.0 (q ∷ ys)) h.0.1 ∙ or_left _ _ (eq-eqb h.0.0.0.1.0.0 h.0.0.0.1.0.0 refl))
      cases false f g go = there-more names n z ys (go g)

  -- no later body has the kind of an earlier one
  pub body-once : (names : List (Option ℕ)) (k : ℕ) (x : Identifier) → entry_at names x ≡ Some k → ((y : Identifier) → entry_at names y ≡ Some k → y.name ≡ x.name) → (k ≡ 0 → ⊥) → (b : Passed) (items : List Item) (ys : List Piece) → b.scope.processes_named ≡ names → is_among b.bodies x.name ≡ true → ArePieces t all b items ys
      → has_kind k ys ≡ false
  body-once names k x named alone some b [] [] e seen h = refl
  body-once names k x named alone some b [] (z ∷ ys) e seen h = absurd h
  body-once names k x named alone some b (j ∷ rest) [] e seen h = absurd h
  body-once names k x named alone some b (item.Structure y fields ∷ rest) (z ∷ ys) e seen h =
      ap (λ q. has_kind k (q ∷ ys)) h.0 ∙ body-once names k x named alone some (and_item t b (item.Structure y fields)) rest ys ((item-moves t b.scope (item.Structure y fields)).processes ∙ e) seen h.1
  body-once names k x named alone some b (item.Enumeration y cs ∷ rest) (z ∷ ys) e seen h =
      ap (λ q. has_kind k (q ∷ ys)) h.0 ∙ body-once names k x named alone some (and_item t b (item.Enumeration y cs)) rest ys ((item-moves t b.scope (item.Enumeration y cs)).processes ∙ e) seen h.1
  body-once names k x named alone some b (item.Specification y ts ds ∷ rest) (z ∷ ys) e seen h =
      ap (λ q. has_kind k (q ∷ ys)) h.0.1 ∙ body-once names k x named alone some (and_item t b (item.Specification y ts ds)) rest ys e seen h.1
  body-once names k x named alone some b (item.Function result y ps block ∷ rest) (z ∷ ys) e seen h =
      ap (λ q. has_kind k (q ∷ ys)) h.0.1
      ∙ one (nat_eq y.name 0) _ _ (body-once names k x named alone some (and_item t b (item.Function result y ps block)) rest ys ((item-moves t b.scope (item.Function result y ps block)).processes ∙ e) seen h.1)
    where
      one : (d : Bool) (c : Kind) (f : _) → has_kind k ys ≡ false → has_kind k ((if d then OneKind 0 c else OneFunction f) ∷ ys) ≡ false
      one true c f g = zero-no (nat_eq 0 k) refl
        where
          zero-no : (d : Bool) → nat_eq 0 k ≡ d → (d || has_kind k ys) ≡ false
          zero-no true i = absurd (some (sym (eqb-true 0 k i)))
          zero-no false i = g
      one false c f g = g
  body-once names k x named alone some b (item.Body y xs block ∷ rest) (z ∷ ys) e seen h =
      ap (λ q. has_kind k (q ∷ ys)) h.0.1
      ∙ other (nat_eq h.0.0.0.1.0.0 k) refl (body-once names k x named alone some (and_item t b (item.Body y xs block)) rest ys e (or_right _ _ seen) h.1)
    where
      other : (d : Bool) → nat_eq h.0.0.0.1.0.0 k ≡ d → has_kind k ys ≡ false → (d || has_kind k ys) ≡ false
      other true f g =
          let same = eqb-true h.0.0.0.1.0.0 k f in
          let name = alone y (body-named names b y xs block h.0.0 e h.0.2 ∙ ap (λ m. Some m) same) in
          true-false (sym (ap (is_among b.bodies) name ∙ seen) ∙ not-seen b.bodies y _ h.0.2.is_first)
      other false f g = g
