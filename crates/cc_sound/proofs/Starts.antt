-- What is visible before the first item of a text: functions and process types are announced.
use Rattle.std.proofs.Common.{◌≡◌, ◌⊎◌, inl, inr, ℕ, zero, suc, ◌+◌, ◌≤◌, Bool, true, false, List, [], ◌∷◌, ◌++◌, length, Option, Some, None, refl, ap, subst, length-append, arith}
use Rattle.std.proofs.lemmas.Bool.{and_from, lt-ltb}
use Rattle.std.proofs.lemmas.Option.{slice_get_within}
use Rattle.std.specs.Prelude.{if◌then◌else◌, nat_eq, nat_lt, slice_get, slice_set}
use Rattle.cc_typed.specs.KnownTypes.{is_process_type}
use Rattle.cc_typed.specs.Parts.{Parts}
use Rattle.cc_faults.specs.Declarations.{after_item, announced, at_start, function_heads, functions_in, head_of, kinds_in, nothing, specified, text_of, with_first, with_process}
use Rattle.cc_faults.specs.Judged.{after_each}
use Rattle.cc_faults.specs.Programs.{Passed, and_item}
use Rattle.cc_faults.specs.Scopes.{Scope, Text, entry_at, is_there, or_none}
use Rattle.cc_faults.specs.declared.plain.Identifier.{Identifier}
use Rattle.cc_faults.specs.declared.plain.Item.{Item}
use Rattle.cc_faults.specs.declared.plain.Item.TheVariants as item
use Rattle.cc_faults.specs.declared.plain.Plain.{Plain}
use Rattle.cc_faults.specs.declared.scope.Meaning.{Meaning}
use Rattle.cc_faults.specs.declared.scope.Meaning.TheVariants as meaning
use Rattle.cc_faults.specs.declared.scope.Named.{Named}
use Rattle.cc_sound.proofs.Growth.{entry-set}
use Rattle.cc_sound.proofs.Levels.{Level}
use Rattle.cc_sound.specs.Fits.{IsThere}

-- ---- functions

abbrev pub functions_of : List Item → ℕ
functions_of [] = 0
functions_of (i ∷ rest) = functions_in i + functions_of rest

one-head : {A : Type 0} (b : Bool) (r : A) → length (if b then [] else r ∷ []) ≡ (if b then 0 else 1)
one-head true r = refl
one-head false r = refl

head-count : (s : Scope) (i : Item) → length (head_of s i) ≡ functions_in i
head-count s (item.Structure x fields) = refl
head-count s (item.Enumeration x cs) = refl
head-count s (item.Specification x ts ds) = refl
head-count s (item.Body x names block) = refl
head-count s (item.Function result x ps block) = one-head (nat_eq x.name 0) _

pub heads-count : (s : Scope) (items : List Item) → length (function_heads s items) ≡ functions_of items
heads-count s [] = refl
heads-count s (i ∷ rest) =
    let a = head-count s i in
    let b = heads-count (after_item s i) rest in
    let c = length-append (head_of s i) (function_heads (after_item s i) rest) in omega (arith, a, b, c)

abbrev AreAnnounced : ℕ → List (Option Named) → Type 0
AreAnnounced most names =
    (k : ℕ) (n : Named) → or_none (slice_get names k) ≡ Some n → IsThere most 0 n.meaning × (nat_lt n.scope 2 ≡ true)

pub nothing-there : {A : Type 0} (n k : ℕ) → or_none (slice_get (nothing {A = A} n) k) ≡ None
nothing-there zero k = refl
nothing-there (suc n) zero = refl
nothing-there (suc n) (suc k) = nothing-there n k

none-some : {A : Type 0} {o : Option A} {a : A} → o ≡ None → o ≡ Some a → ⊥
none-some e f = cc

module _ (most : ℕ) where
  meaning-there : (b : Bool) (n rest : ℕ) → n + ((if b then 0 else 1) + rest) ≤ most → IsThere most 0 (if b then meaning.Main else meaning.Function n)
  meaning-there true n rest le = tt
  meaning-there false n rest le = omega (arith, le)

  first-there : (names : List (Option Named)) (x : Identifier) (m : Meaning) → IsThere most 0 m → AreAnnounced most names → AreAnnounced most (with_first names x m)
  first-there names x m there go = cases (is_there (entry_at names x))
    where
      which : (n : Named) {o : Option Named} → ((record { scope = 0; meaning = m } ≡ n) ⊎ (o ≡ Some n)) → (o ≡ Some n → IsThere most 0 n.meaning × (nat_lt n.scope 2 ≡ true)) → IsThere most 0 n.meaning × (nat_lt n.scope 2 ≡ true)
      which n (inl same) old = subst (λ (d : Named). IsThere most 0 d.meaning × (nat_lt d.scope 2 ≡ true)) same (there, refl)
      which n (inr e) old = old e

      cases : (b : Bool) → AreAnnounced most (if b then names else slice_set names x.name (Some (record { scope = 0; meaning = m })))
      cases true = go
      cases false = λ k n e. which n (entry-set names x.name (record { scope = 0; meaning = m }) k n e) (go k n)

  announced-there : (n : ℕ) (names : List (Option Named)) (items : List Item) → n + functions_of items ≤ most → AreAnnounced most names → AreAnnounced most (announced n names items)
  announced-there n names [] le go = go
  announced-there n names (item.Structure x fields ∷ rest) le go = announced-there (n + 0) names rest (omega (arith, le)) go
  announced-there n names (item.Enumeration x cs ∷ rest) le go = announced-there (n + 0) names rest (omega (arith, le)) go
  announced-there n names (item.Specification x ts ds ∷ rest) le go = announced-there (n + 0) names rest (omega (arith, le)) go
  announced-there n names (item.Body x xs block ∷ rest) le go = announced-there (n + 0) names rest (omega (arith, le)) go
  announced-there n names (item.Function result x ps block ∷ rest) le go =
      announced-there (n + (if nat_eq x.name 0 then 0 else 1)) (with_first names x (if nat_eq x.name 0 then meaning.Main else meaning.Function n)) rest (omega (arith, le))
      (first-there names x (if nat_eq x.name 0 then meaning.Main else meaning.Function n) (meaning-there (nat_eq x.name 0) n (functions_of rest) le) go)

-- ---- process types

abbrev pub specified_in : Item → List ℕ
specified_in (item.Structure x fields) = []
specified_in (item.Enumeration x cs) = []
specified_in (item.Specification x ts ds) = x.name ∷ []
specified_in (item.Body x names block) = []
specified_in (item.Function result x ps block) = []

-- the names of the specifications in their order
abbrev pub specified_names : List Item → List ℕ
specified_names [] = []
specified_names (i ∷ rest) = specified_in i ++ specified_names rest

-- an entry of a list that was written at one place: this one, or as before
pub entry-place : {A : Type 0} (xs : List (Option A)) (i : ℕ) (e : A) (k : ℕ) (n : A) → or_none (slice_get (slice_set xs i (Some e)) k) ≡ Some n → ((i ≡ k) × (e ≡ n)) ⊎ (or_none (slice_get xs k) ≡ Some n)
entry-place [] i e k n h = inr h
entry-place (y ∷ xs) zero e zero n h = inl (refl, some-same h)
  where
    some-same : Some e ≡ Some n → e ≡ n
    some-same f = cc
entry-place (y ∷ xs) zero e (suc k) n h = inr h
entry-place (y ∷ xs) (suc i) e zero n h = inr h
entry-place (y ∷ xs) (suc i) e (suc k) n h = next (entry-place xs i e k n h)
  where
    next : {P : Type 0} → (((i ≡ k) × (e ≡ n)) ⊎ P) → ((suc i ≡ suc k) × (e ≡ n)) ⊎ P
    next (inl f) = inl (ap suc f.0, f.1)
    next (inr p) = inr p

-- the specification of this number, from number k on, has this name
abbrev pub IsSpecified : ℕ → List Item → ℕ → ℕ → Type 0
IsSpecified k items x m = (i : ℕ) × (m ≡ k + i) × (slice_get (specified_names items) i ≡ Some x)

later : (k : ℕ) (y x m : ℕ) (ns : List ℕ) → (i : ℕ) × (m ≡ (k + 1) + i) × (slice_get ns i ≡ Some x) → (i : ℕ) × (m ≡ k + i) × (slice_get (y ∷ ns) i ≡ Some x)
later k y x m ns h = (suc h.0, let e = h.1 in omega (arith, e), h.2)

none-more : (k x m : ℕ) (ns : List ℕ) {P : Type 0} → (P ⊎ ((i : ℕ) × (m ≡ (k + 0) + i) × (slice_get ns i ≡ Some x))) → P ⊎ ((i : ℕ) × (m ≡ k + i) × (slice_get ns i ≡ Some x))
none-more k x m ns (inl p) = inl p
none-more k x m ns (inr h) = inr (h.0, let e = h.1 in omega (arith, e), h.2)

pub specified-named : (k : ℕ) (names : List (Option ℕ)) (items : List Item) (x : Identifier) (m : ℕ) → entry_at (specified k names items) x ≡ Some m → (entry_at names x ≡ Some m) ⊎ IsSpecified k items x.name m
specified-named k names [] x m e = inl e
specified-named k names (item.Structure y fields ∷ rest) x m e = none-more k x.name m (specified_names rest) (specified-named (k + 0) names rest x m e)
specified-named k names (item.Enumeration y cs ∷ rest) x m e = none-more k x.name m (specified_names rest) (specified-named (k + 0) names rest x m e)
specified-named k names (item.Body y xs block ∷ rest) x m e = none-more k x.name m (specified_names rest) (specified-named (k + 0) names rest x m e)
specified-named k names (item.Function result y ps block ∷ rest) x m e = none-more k x.name m (specified_names rest) (specified-named (k + 0) names rest x m e)
specified-named k names (item.Specification y ts ds ∷ rest) x m e =
    which (is_there (entry_at names y)) (specified-named (k + 1) (with_process names y k) rest x m e)
  where
    placed : (((y.name ≡ x.name) × (k ≡ m)) ⊎ (entry_at names x ≡ Some m)) → (entry_at names x ≡ Some m) ⊎ IsSpecified k (item.Specification y ts ds ∷ rest) x.name m
    placed (inl f) = inr (0, let e = f.1 in omega (arith, e), ap (λ n. Some n) f.0)
    placed (inr old) = inl old

    which : (b : Bool) → ((entry_at (if b then names else slice_set names y.name (Some k)) x ≡ Some m) ⊎ IsSpecified (k + 1) rest x.name m) → (entry_at names x ≡ Some m) ⊎ IsSpecified k (item.Specification y ts ds ∷ rest) x.name m
    which b (inr h) = inr (later k y.name x.name m (specified_names rest) h)
    which true (inl h) = inl h
    which false (inl h) = placed (entry-place names y.name k x.name m h)

kinds-here : (i : Item) → kinds_in i ≡ length (specified_in i)
kinds-here (item.Structure x fields) = refl
kinds-here (item.Enumeration x cs) = refl
kinds-here (item.Specification x ts ds) = refl
kinds-here (item.Body x names block) = refl
kinds-here (item.Function result x ps block) = refl

-- how many specifications were passed
pub kinds-passed : (t : Text) (b : Passed) (items : List Item) → (after_each (and_item t) b items).kinds ≡ b.kinds + length (specified_names items)
unfolding after_each
kinds-passed t b [] = omega arith
kinds-passed t b (i ∷ rest) =
    let a = kinds-passed t (and_item t b i) rest in
    let c = kinds-here i in
    let d = length-append (specified_in i) (specified_names rest) in omega (arith, a, c, d)

-- the number of a process type is that of its specification
pub process-named : (tree : Plain) (x : Identifier) (k : ℕ) → entry_at (at_start tree).processes_named x ≡ Some k → IsSpecified 1 tree.items x.name k
process-named tree x k e = which (specified-named 1 (nothing tree.names) tree.items x k e)
  where
    which : ((entry_at (nothing tree.names) x ≡ Some k) ⊎ IsSpecified 1 tree.items x.name k) → IsSpecified 1 tree.items x.name k
    which (inl f) = absurd (none-some (nothing-there tree.names x.name) f)
    which (inr h) = h

pub level-start : (tree : Plain) (p : Parts) → length p.kinds ≡ suc (length (specified_names tree.items)) → Level (text_of tree) p (at_start tree)
level-start tree p many =
    record {
      names = λ x n e. (there x.name n e).0;
      outside = λ x n e. (there x.name n e).1;
      structures_named = λ x n e. absurd (none-some (nothing-there tree.names x.name) e);
      processes_named = λ x k e. named k (process-named tree x k e);
      enumerations_named = λ x u e. absurd (none-some (nothing-there tree.names x.name) e);
      each_member = refl;
      members = λ n. refl;
      no_variables = refl;
    }
  where
    there : AreAnnounced (length (text_of tree).functions) (announced 0 (nothing tree.names) tree.items)
    there =
        announced-there (length (text_of tree).functions) 0 (nothing tree.names) tree.items
        (let e = heads-count (at_start tree) tree.items in omega (arith, e))
        (λ k n e. absurd (none-some (nothing-there tree.names k) e))

    named : (k : ℕ) {x : ℕ} → IsSpecified 1 tree.items x k → is_process_type p k ≡ true
    named k h =
        let e = h.1 in
        let lt = slice_get_within (specified_names tree.items) h.0 _ h.2 in
        and_from _ _ (lt-ltb 0 k (omega (arith, e))) (lt-ltb k (length p.kinds) (omega (arith, e, lt, many)))
