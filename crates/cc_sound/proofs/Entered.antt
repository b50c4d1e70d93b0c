-- The variables of a body begin with the parameters of its specification.
use Rattle.std.proofs.Common.{◌≡◌, ℕ, ◌+◌, Bool, true, false, ◌||◌, List, [], ◌∷◌, length, take, drop, Some, Ok, refl, ap, sym, subst, ◌∙◌, arith}
use Rattle.std.proofs.lemmas.Bool.{eqb-true}
use Rattle.std.specs.Prelude.{if◌then◌else◌, nat_eq, slice_get}
use Rattle.cc_typed.specs.Parts.{Parts}
use Rattle.cc_typed.specs.declared.tree.Function.{Function}
use Rattle.cc_typed.specs.declared.tree.Kind.{Kind}
use Rattle.cc_typed.specs.declared.types.DataType.{DataType}
use Rattle.cc_typed.specs.declared.types.DataType.TheVariants.{Void}
use Rattle.cc_faults.specs.Declarations.{main_head}
use Rattle.cc_faults.specs.Judged.{Good, both, known, second}
use Rattle.cc_faults.specs.Programs.{BodyParts, FunctionParts, Passed, Piece, NoPiece, OneFunction, OneKind, Transactions, after_body, and_item, body_role, body_types, few_for_main, in_body, kind_among, kind_of_body, no_variables, types_of_names}
use Rattle.cc_faults.specs.Rows.{as_many, as_many_names}
use Rattle.cc_faults.specs.Scopes.{Text, outermost}
use Rattle.cc_faults.specs.declared.fault.TypeKind.TheVariants as kind
use Rattle.cc_faults.specs.declared.plain.Identifier.{Identifier}
use Rattle.cc_faults.specs.declared.plain.Item.{Item}
use Rattle.cc_faults.specs.declared.plain.Item.TheVariants as item
use Rattle.cc_faults.specs.declared.plain.Parameter.{Parameter}
use Rattle.cc_faults.specs.declared.plain.Statement.{Statement}
use Rattle.cc_faults.specs.declared.plain.TypeName.{TypeName}
use Rattle.cc_faults.specs.declared.scope.KindHead.{KindHead}
use Rattle.cc_sound.proofs.Functions.{good-equal, ok-equal, some-equal, take-front, take-none}
use Rattle.cc_sound.proofs.Goods.{good-both, good-checked, good-known, good-map, good-unless}
use Rattle.cc_sound.proofs.Heads.{false-true}
use Rattle.cc_sound.proofs.Items.{ArePieces, BodyFound, function_variables}
use Rattle.cc_sound.proofs.Levels.{Level, level-after}
use Rattle.cc_sound.proofs.Parameters.{here-start, names-add, names-fresh}
use Rattle.cc_sound.proofs.Passing.{in-passes}
use Rattle.cc_sound.proofs.Specified.{IsCounted, has_kind}
use Rattle.cc_sound.specs.Fits.{IsFront}

drop-none : {A : Type 0} (xs : List A) → drop 0 xs ≡ xs
drop-none [] = refl
drop-none (x ∷ xs) = refl

names-types : (x : Identifier) (n : ℕ) (h : KindHead) (us : List DataType) → types_of_names x n (Some h) ≡ Good us → (h.parameters ≡ Ok us) × (n ≡ h.count)
names-types x n h us e =
    let m = good-map second (both (as_many_names x n h.count) (known h.parameters)) us e in
    let b = good-both (as_many_names x n h.count) (known h.parameters) m.0 m.1 in (
      good-known h.parameters (m.0).1 b.1 ∙ ap (λ vs. Ok vs) (sym m.2),
      eqb-true n h.count (good-unless (nat_eq n h.count) x.place kind.BodyNames tt (m.0).0 b.0).0,
    )

module _ (t : Text) (p : Parts) where
  abbrev pub AreCounted : Type 0
  AreCounted = (k : ℕ) (h : KindHead) → slice_get t.kinds k ≡ Some h → IsCounted h

  abbrev pub IsKindOf : ℕ → Kind → Type 0
  IsKindOf k c =
      (h : KindHead) (us : List DataType) → slice_get t.kinds k ≡ Some h → h.parameters ≡ Ok us → take c.parameters c.variables ≡ us

  -- the parameters that are specified are the first variables of the body
  pub body-front : AreCounted → (b : Passed) (x : Identifier) (xs : List Identifier) (block : List Statement) (v : BodyParts) → Level t p b.scope → BodyFound t b x xs block v → (h : KindHead) → slice_get t.kinds v.0.1.0.0 ≡ Some h
      → (h.parameters ≡ Ok v.0.1.0.1) × (length xs ≡ length v.0.1.0.1) × ((in_body b.scope (body_types t b.scope x (length xs)) xs).variables ≡ v.0.1.0.1) × IsFront v.0.1.0.1 (after_body t b.scope x xs block).variables
  body-front counted b x xs block v level found h e =
      let c = good-checked (kind_of_body t b.scope x) (λ (k : ℕ). types_of_names x (length xs) (slice_get t.kinds k)) v.0.1.0.1 found.types in
      let same = good-equal c.1 found.kind in
      let types = names-types x (length xs) h v.0.1.0.1 (ap (types_of_names x (length xs)) (sym e) ∙ ap (λ k. types_of_names x (length xs) (slice_get t.kinds k)) (sym same) ∙ c.2) in
      let many = counted v.0.1.0.0 h e v.0.1.0.1 types.0 in
      let alike = types.1 ∙ sym many in
      let plain : 0 + length xs ≡ length v.0.1.0.1 = omega (arith, alike) in
      let variables = names-add (body_types t b.scope x (length xs)) v.0.1.0.1 found.types [] 0 (no_variables b.scope) xs plain (names-fresh xs v.0.1.1 found.once) (here-start t p b.scope level) ∙ drop-none v.0.1.0.1 in
      (types.0, alike, variables, subst (λ l. IsFront l (after_body t b.scope x xs block).variables) variables (in-passes t (outermost (body_role t b.scope x)) (in_body b.scope (body_types t b.scope x (length xs)) xs) block).grows.variables)

  abbrev pub body_of : Passed → Identifier → List Identifier → List Statement → BodyParts → Kind
  body_of b x xs block v =
      record { parameters = length xs; variables = (after_body t b.scope x xs block).variables; result = Void; body = v.1 }

  abbrev pub main_of : Passed → TypeName → Identifier → List Parameter → List Statement → FunctionParts → Kind
  main_of b result x ps block v =
      record { parameters = length ps; variables = (function_variables t b result x ps block).variables; result = v.0.1.0.result; body = v.1 }

  body-kind : AreCounted → (b : Passed) (x : Identifier) (xs : List Identifier) (block : List Statement) (v : BodyParts) → Level t p b.scope → BodyFound t b x xs block v → IsKindOf v.0.1.0.0 (body_of b x xs block v)
  body-kind counted b x xs block v level found h us e f =
      let front = body-front counted b x xs block v level found h e in
      take-front (length xs) v.0.1.0.1 (after_body t b.scope x xs block).variables front.1 front.3 ∙ ok-equal front.0 f

  -- `main` has no parameters
  pub main-few : (x : Identifier) (n : ℕ) (u : Unit {0}) → nat_eq x.name 0 ≡ true → few_for_main x n ≡ Good u → n ≡ 0
  main-few x n u e f = cases (nat_eq x.name 0) e f
    where
      cases : (b : Bool) → b ≡ true → (if b then as_many x.place n 0 tt else Good tt) ≡ Good u → n ≡ 0
      cases true g i = eqb-true n 0 (good-unless (nat_eq n 0) x.place kind.Arity tt u i).0
      cases false g i = false-true g

  main-kind : slice_get t.kinds 0 ≡ Some main_head → (n : ℕ) (c : Kind) → n ≡ 0 → c.parameters ≡ n → IsKindOf 0 c
  main-kind first n c few same h us e f =
      let no_more : [] ≡ us = ok-equal (ap (λ (g : KindHead). g.parameters) (some-equal e first)) f in
      ap (λ m. take m c.variables) (same ∙ few) ∙ take-none c.variables ∙ no_more

  abbrev pub AreKinds : List Piece → Type 0
  AreKinds [] = Unit {0}
  AreKinds (OneKind k c ∷ ys) = IsKindOf k c × AreKinds ys
  AreKinds (NoPiece ∷ ys) = AreKinds ys
  AreKinds (OneFunction f ∷ ys) = AreKinds ys
  AreKinds (Transactions ds ∷ ys) = AreKinds ys

  one-kind : (is_main : Bool) (c : Kind) (f : Function) (ys : List Piece) → (is_main ≡ true → IsKindOf 0 c) → AreKinds ys → AreKinds ((if is_main then OneKind 0 c else OneFunction f) ∷ ys)
  one-kind true c f ys h i = (h refl, i)
  one-kind false c f ys h i = i

  pub kinds-found : AreCounted → slice_get t.kinds 0 ≡ Some main_head → (all : List Item) (b : Passed) (items : List Item) (ys : List Piece) → Level t p b.scope → ArePieces t all b items ys → AreKinds ys
  kinds-found counted first all b [] [] level h = tt
  kinds-found counted first all b [] (y ∷ ys) level h = absurd h
  kinds-found counted first all b (i ∷ rest) [] level h = absurd h
  kinds-found counted first all b (item.Structure x fields ∷ rest) (y ∷ ys) level h =
      subst (λ z. AreKinds (z ∷ ys)) (sym h.0) (kinds-found counted first all (and_item t b (item.Structure x fields)) rest ys (level-after t p b.scope (item.Structure x fields) level) h.1)
  kinds-found counted first all b (item.Enumeration x cs ∷ rest) (y ∷ ys) level h =
      subst (λ z. AreKinds (z ∷ ys)) (sym h.0) (kinds-found counted first all (and_item t b (item.Enumeration x cs)) rest ys (level-after t p b.scope (item.Enumeration x cs) level) h.1)
  kinds-found counted first all b (item.Specification x ts ds ∷ rest) (y ∷ ys) level h =
      subst (λ z. AreKinds (z ∷ ys)) (sym h.0.1) (kinds-found counted first all (and_item t b (item.Specification x ts ds)) rest ys (level-after t p b.scope (item.Specification x ts ds) level) h.1)
  kinds-found counted first all b (item.Body x xs block ∷ rest) (y ∷ ys) level h =
      subst (λ z. AreKinds (z ∷ ys)) (sym h.0.1) (body-kind counted b x xs block h.0.0 level h.0.2, kinds-found counted first all (and_item t b (item.Body x xs block)) rest ys (level-after t p b.scope (item.Body x xs block) level) h.1)
  kinds-found counted first all b (item.Function result x ps block ∷ rest) (y ∷ ys) level h =
      subst (λ z. AreKinds (z ∷ ys)) (sym h.0.1)
      (one-kind (nat_eq x.name 0) (main_of b result x ps block h.0.0) _ ys (λ e. main-kind first (length ps) (main_of b result x ps block h.0.0) (main-few x (length ps) h.0.0.0.1.1.0 e h.0.2.few) refl) (kinds-found counted first all (and_item t b (item.Function result x ps block)) rest ys (level-after t p b.scope (item.Function result x ps block) level) h.1))

  -- the kind of a number that is among the pieces
  pub kind-at : (k : ℕ) (ys : List Piece) → AreKinds ys → has_kind k ys ≡ true → IsKindOf k (kind_among k ys)
  kind-at k [] h e = false-true e
  kind-at k (NoPiece ∷ ys) h e = kind-at k ys h e
  kind-at k (OneFunction f ∷ ys) h e = kind-at k ys h e
  kind-at k (Transactions ds ∷ ys) h e = kind-at k ys h e
  kind-at k (OneKind j c ∷ ys) h e = cases (nat_eq j k) refl e (kind-at k ys h.1)
    where
      cases : (b : Bool) → nat_eq j k ≡ b → (b || has_kind k ys) ≡ true → (has_kind k ys ≡ true → IsKindOf k (kind_among k ys)) → IsKindOf k (if b then c else kind_among k ys)
      cases true f g go = subst (λ m. IsKindOf m c) (eqb-true j k f) h.0
      cases false f g go = go g
