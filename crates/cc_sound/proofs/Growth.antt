-- What is visible goes on: variables and accepts grow at the end, and names lead to what is there.
use Rattle.std.proofs.Common.{◌≡◌, ◌⊎◌, inl, inr, ℕ, zero, suc, ◌+◌, ◌≤◌, Bool, true, false, List, [], ◌∷◌, ◌++◌, length, Option, Some, Result, Ok, Err, refl, ap, sym, subst, ◌∙◌, append_assoc, append-nil, length-append, arith}
use Rattle.std.proofs.lemmas.Bool.{and_from}
use Rattle.std.proofs.lemmas.Option.{slice_get_within}
use Rattle.std.specs.List.{list_all}
use Rattle.std.specs.Prelude.{if◌then◌else◌, slice_get, slice_set}
use Rattle.cc_typed.proofs.Tables.{left, right}
use Rattle.cc_typed.specs.KnownTypes.{is_known}
use Rattle.cc_typed.specs.Parts.{Parts}
use Rattle.cc_typed.specs.declared.types.DataType.{DataType}
use Rattle.cc_faults.specs.Scopes.{Scope, Text, declared, is_here, left as left_scope, meaning_at, or_none, with_variable}
use Rattle.cc_faults.specs.declared.fault.FaultAt.{FaultAt}
use Rattle.cc_faults.specs.declared.plain.Identifier.{Identifier}
use Rattle.cc_faults.specs.declared.scope.Meaning.{Meaning}
use Rattle.cc_faults.specs.declared.scope.Meaning.TheVariants as meaning
use Rattle.cc_faults.specs.declared.scope.Named.{Named}
use Rattle.cc_sound.specs.Fits.{Inside, IsFront, IsThere}

-- ---- fronts

pub front-same : {A : Type 0} (xs : List A) → IsFront xs xs
front-same xs = ([], sym (append-nil xs))

pub front-on : {A : Type 0} (xs ys zs : List A) → IsFront xs ys → IsFront ys zs → IsFront xs zs
front-on xs ys zs f g = (f.0 ++ g.0, g.1 ∙ ap (λ l. l ++ g.0) f.1 ∙ append_assoc xs f.0 g.0)

pub front-more : {A : Type 0} (xs : List A) (x : A) → IsFront xs (xs ++ x ∷ [])
front-more xs x = (x ∷ [], refl)

pub front-length : {A : Type 0} (xs ys : List A) → IsFront xs ys → length xs ≤ length ys
front-length xs ys f = let e : length ys ≡ length xs + length f.0 = ap length f.1 ∙ length-append xs f.0 in omega (arith, e)

pub get-more : {A : Type 0} (xs : List A) (x : A) → slice_get (xs ++ x ∷ []) (length xs) ≡ Some x
get-more [] x = refl
get-more (y ∷ xs) x = get-more xs x

pub all-append : {A : Type 0} (test : A → Bool) (xs : List A) (x : A) → list_all test xs ≡ true → test x ≡ true → list_all test (xs ++ x ∷ []) ≡ true
all-append test [] x h i = and_from _ _ i refl
all-append test (y ∷ xs) x h i = and_from _ _ (left _ _ h) (all-append test xs x (right _ _ h) i)

pub all-at : {A : Type 0} (test : A → Bool) (xs : List A) (n : ℕ) (x : A) → list_all test xs ≡ true → slice_get xs n ≡ Some x → test x ≡ true
all-at test [] n x h e = cc
all-at test (y ∷ xs) zero x h e = let same : y ≡ x = cc in ap test (sym same) ∙ left _ _ h
all-at test (y ∷ xs) (suc n) x h e = all-at test xs n x (right _ _ h) e

-- ---- what a text has found so far, and goes on with

pub record Grows (s r : Scope) : Type 0 where
  pub variables : IsFront s.variables r.variables
  pub sites : IsFront s.sites r.sites
  pub structures : r.structures ≡ s.structures
  pub members : r.members ≡ s.members
  pub structures_named : r.structures_named ≡ s.structures_named
  pub enumerations_named : r.enumerations_named ≡ s.enumerations_named
  pub processes_named : r.processes_named ≡ s.processes_named

pub grows-same : (s : Scope) → Grows s s
grows-same s =
    record { variables = front-same s.variables; sites = front-same s.sites; structures = refl; members = refl; structures_named = refl; enumerations_named = refl; processes_named = refl }

pub grows-on : (s r q : Scope) → Grows s r → Grows r q → Grows s q
grows-on s r q g h =
    record {
      variables = front-on s.variables r.variables q.variables g.variables h.variables;
      sites = front-on s.sites r.sites q.sites g.sites h.sites;
      structures = h.structures ∙ g.structures;
      members = h.members ∙ g.members;
      structures_named = h.structures_named ∙ g.structures_named;
      enumerations_named = h.enumerations_named ∙ g.enumerations_named;
      processes_named = h.processes_named ∙ g.processes_named;
    }

pub grows-left : (s r : Scope) → Grows s r → Grows s (left_scope s r)
grows-left s r g =
    record { variables = g.variables; sites = g.sites; structures = g.structures; members = g.members; structures_named = g.structures_named; enumerations_named = g.enumerations_named; processes_named = g.processes_named }

grows-variable : (n : ℕ) (s : Scope) (x : Identifier) (o : Result DataType FaultAt) → Grows s (with_variable n s x o)
grows-variable n s x (Err f) =
    record { variables = front-same s.variables; sites = front-same s.sites; structures = refl; members = refl; structures_named = refl; enumerations_named = refl; processes_named = refl }
grows-variable n s x (Ok t) =
    record { variables = front-more s.variables t; sites = front-same s.sites; structures = refl; members = refl; structures_named = refl; enumerations_named = refl; processes_named = refl }

grows-if : (b : Bool) (s r : Scope) → Grows s r → Grows s (if b then s else r)
grows-if true s r g = grows-same s
grows-if false s r g = g

pub grows-declared : (n : ℕ) (s : Scope) (x : Identifier) (o : Result DataType FaultAt) → Grows s (declared n s x o)
grows-declared n s x o = grows-if (is_here n (meaning_at s x)) s (with_variable n s x o) (grows-variable n s x o)

-- ---- names

some-entry : {A : Type 0} {x y : A} → Some x ≡ Some y → x ≡ y
some-entry e = cc

-- an entry of a list that was written at one place
pub entry-set : {A : Type 0} (xs : List (Option A)) (i : ℕ) (e : A) (k : ℕ) (n : A) → or_none (slice_get (slice_set xs i (Some e)) k) ≡ Some n → (e ≡ n) ⊎ (or_none (slice_get xs k) ≡ Some n)
entry-set [] i e k n h = inr h
entry-set (y ∷ xs) zero e zero n h = inl (some-entry h)
entry-set (y ∷ xs) zero e (suc k) n h = inr h
entry-set (y ∷ xs) (suc i) e zero n h = inr h
entry-set (y ∷ xs) (suc i) e (suc k) n h = entry-set xs i e k n h

pub there-more : (f m k : ℕ) (d : Meaning) → m ≤ k → IsThere f m d → IsThere f k d
there-more f m k (meaning.Variable v) le h = omega (arith, le, h)
there-more f m k (meaning.Constant n) le h = h
there-more f m k (meaning.Function g) le h = h
there-more f m k meaning.Main le h = tt
there-more f m k (meaning.Typeless g) le h = tt
there-more f m k (meaning.Valueless g) le h = tt

-- names, one of which means this from now on
pub names-set : (f m k : ℕ) (s : Scope) (x : Identifier) (d : Named) → m ≤ k → IsThere f k d.meaning → ((y : Identifier) (n : Named) → meaning_at s y ≡ Some n → IsThere f m n.meaning)
    → (y : Identifier) (n : Named) → or_none (slice_get (slice_set s.names x.name (Some d)) y.name) ≡ Some n → IsThere f k n.meaning
names-set f m k s x d le h go y n e = which (entry-set s.names x.name d y.name n e)
  where
    which : ((d ≡ n) ⊎ (meaning_at s y ≡ Some n)) → IsThere f k n.meaning
    which (inl same) = subst (λ (z : Named). IsThere f k z.meaning) same h
    which (inr old) = there-more f m k n.meaning le (go y n old)

module _ (t : Text) (p : Parts) where
  inside-variable : (n : ℕ) (s : Scope) (x : Identifier) (o : Result DataType FaultAt) → ((u : DataType) → o ≡ Ok u → is_known p u ≡ true) → Inside t p s → Inside t p (with_variable n s x o)
  inside-variable n s x (Err f) go h = (
    record {
      names = names-set (length t.functions) (length s.variables) (length s.variables) s x (record { scope = n; meaning = meaning.Typeless f }) (omega arith) tt h.0.names;
      structures_named = h.0.structures_named;
      processes_named = h.0.processes_named;
      enumerations_named = h.0.enumerations_named;
      members = h.0.members;
      structures = h.0.structures;
    },
    h.1,
  )
  inside-variable n s x (Ok u) go h = (
    record {
      names = names-set (length t.functions) (length s.variables) (length (s.variables ++ u ∷ [])) s x (record { scope = n; meaning = meaning.Variable (length s.variables) }) (front-length s.variables (s.variables ++ u ∷ []) (front-more s.variables u)) (slice_get_within (s.variables ++ u ∷ []) (length s.variables) u (get-more s.variables u)) h.0.names;
      structures_named = h.0.structures_named;
      processes_named = h.0.processes_named;
      enumerations_named = h.0.enumerations_named;
      members = h.0.members;
      structures = h.0.structures;
    },
    all-append (is_known p) s.variables u h.1 (go u refl),
  )

  inside-if : (b : Bool) (s r : Scope) → Inside t p s → Inside t p r → Inside t p (if b then s else r)
  inside-if true s r h i = h
  inside-if false s r h i = i

  pub inside-declared : (n : ℕ) (s : Scope) (x : Identifier) (o : Result DataType FaultAt) → ((u : DataType) → o ≡ Ok u → is_known p u ≡ true) → Inside t p s → Inside t p (declared n s x o)
  inside-declared n s x o go h =
      inside-if (is_here n (meaning_at s x)) s (with_variable n s x o) h (inside-variable n s x o go h)

  pub inside-left : (s r : Scope) → Grows s r → Inside t p s → Inside t p r → Inside t p (left_scope s r)
  inside-left s r g h i = (
    record {
      names = λ x n e. there-more (length t.functions) (length s.variables) (length r.variables) n.meaning (front-length s.variables r.variables g.variables) (h.0.names x n e);
      structures_named = i.0.structures_named;
      processes_named = i.0.processes_named;
      enumerations_named = i.0.enumerations_named;
      members = i.0.members;
      structures = i.0.structures;
    },
    i.1,
  )
