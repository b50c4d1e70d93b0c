-- Heads without a fault: the types of parameters, and parameters and names as variables.
use Rattle.std.proofs.Common.{◌≡◌, ◌⊎◌, inl, inr, ℕ, suc, ◌+◌, Bool, true, false, not, ◌||◌, List, [], ◌∷◌, ◌++◌, length, drop, Option, Some, None, Result, Ok, Err, refl, ap, sym, subst, ◌∙◌, append_assoc, append-nil, arith}
use Rattle.std.proofs.lemmas.Bool.{and_from, eq-eqb, eqb-true, ltb-true, or_left, or_right}
use Rattle.std.proofs.lemmas.List.{drop_all}
use Rattle.std.specs.List.{list_all}
use Rattle.std.specs.Prelude.{if◌then◌else◌, nat_le}
use Rattle.cc_base.specs.Limits.{most_parameter_cells}
use Rattle.cc_typed.specs.KnownTypes.{are_parameters, is_whole}
use Rattle.cc_typed.specs.Parts.{Parts}
use Rattle.cc_typed.specs.Table.{cells_in_all, is_below}
use Rattle.cc_typed.specs.Types.{is_void}
use Rattle.cc_typed.specs.declared.types.DataType.{DataType}
use Rattle.cc_faults.specs.Declarations.{and_name, parameters, signature, signature_of, types_of, unused}
use Rattle.cc_faults.specs.Judged.{Judged, Good, both, each, map, outcome}
use Rattle.cc_faults.specs.Programs.{after_parameters, in_function, names_in, names_once, no_variables}
use Rattle.cc_faults.specs.Programs as programs
use Rattle.cc_faults.specs.Rows.{few_cells, value_type, written}
use Rattle.cc_faults.specs.Scopes.{Scope, Text, declared, is_among, is_here, meaning_at, with_variable}
use Rattle.cc_faults.specs.Statements.{kth}
use Rattle.cc_faults.specs.declared.fault.FaultAt.{FaultAt}
use Rattle.cc_faults.specs.declared.fault.TypeKind.TheVariants as kind
use Rattle.cc_faults.specs.declared.plain.Identifier.{Identifier}
use Rattle.cc_faults.specs.declared.plain.Parameter.{Parameter}
use Rattle.cc_faults.specs.declared.plain.TypeName.{TypeName}
use Rattle.cc_faults.specs.declared.scope.Meaning.TheVariants as meaning
use Rattle.cc_faults.specs.declared.scope.Named.{Named}
use Rattle.cc_faults.specs.declared.scope.Role.{Role}
use Rattle.cc_faults.specs.declared.scope.Signature.{Signature}
use Rattle.cc_sound.proofs.Accepts.{declared-variables, holds-at, kth-drop, kth-outcome}
use Rattle.cc_sound.proofs.Goods.{AreEach, AreWalked, good-both, good-checked, good-each, good-map, good-unless, good-walk}
use Rattle.cc_sound.proofs.Growth.{inside-declared}
use Rattle.cc_sound.proofs.Heads.{false-true, true-false}
use Rattle.cc_sound.proofs.Levels.{Level}
use Rattle.cc_sound.proofs.Passing.{Passes, passes-declared, passes-most, passes-on, passes-same}
use Rattle.cc_sound.proofs.Starts.{entry-place}
use Rattle.cc_sound.proofs.Structures.{all_cells-same}
use Rattle.cc_sound.proofs.Types.{IsWhole, outcome-holds, value-known, value-whole, written-whole}
use Rattle.cc_sound.specs.Fits.{Inside, ScopeFits}

-- ---- types

module _ (t : Text) (s : Scope) (p : Parts) (here : ScopeFits t s p) where
  types-whole : (ts : List TypeName) (us : List DataType) → AreEach (λ n u. value_type s n ≡ Good u) ts us → (list_all (is_whole p) us ≡ true) × (list_all (is_below (length s.structures)) us ≡ true)
  types-whole [] [] h = (refl, refl)
  types-whole [] (u ∷ us) h = absurd h
  types-whole (n ∷ ts) [] h = absurd h
  types-whole (n ∷ ts) (u ∷ us) h =
      let a = holds-at (IsWhole t s p here) (value_type s n) u (value-whole t s p here n) h.0 in
      let b = types-whole ts us h.1 in (and_from _ _ a.0 b.0, and_from _ _ a.1 b.1)

  -- the types that are written are those of parameters
  pub parameters-typed : (x : Identifier) (ts : List TypeName) (us : List DataType) → parameters s x ts ≡ Good us → AreEach (λ n u. value_type s n ≡ Good u) ts us × (are_parameters p us ≡ true)
  parameters-typed x ts us e =
      let c = good-checked (each (value_type s) ts) (few_cells s.structures x) us e in
      let f = good-unless (nat_le (cells_in_all s.structures c.0) most_parameter_cells) x.place kind.ManyCells c.0 us c.2 in
      let found = subst (λ vs. AreEach (λ n u. value_type s n ≡ Good u) ts vs) f.1 (good-each (value_type s) ts c.0 c.1) in
      let whole = types-whole ts us found in
      (found, and_from _ _ whole.0 (ap (λ n. nat_le n most_parameter_cells) (sym (all_cells-same t s p here us whole.1)) ∙ ap (λ vs. nat_le (cells_in_all s.structures vs) most_parameter_cells) (sym f.1) ∙ f.0))

  pub written-typed : (n : TypeName) (u : DataType) → written s n ≡ Good u → (is_void u || is_whole p u) ≡ true
  written-typed n u e = holds-at (λ v. (is_void v || is_whole p v) ≡ true) (written s n) u (written-whole t s p here n) e

pub signature-made : (s : Scope) (x : Identifier) (result : TypeName) (ps : List Parameter) (g : Signature) → signature s x result ps ≡ Good g → (written s result ≡ Good g.result) × (parameters s x (types_of ps) ≡ Good g.parameters)
signature-made s x result ps g e =
    let m = good-map signature_of (both (written s result) (parameters s x (types_of ps))) g e in
    let b = good-both (written s result) (parameters s x (types_of ps)) m.0 m.1 in
    (b.0 ∙ ap (λ (h : Signature). Good h.result) (sym m.2), b.1 ∙ ap (λ (h : Signature). Good h.parameters) (sym m.2))

-- ---- names, each once

abbrev pub AreFresh : List ℕ → List Identifier → Type 0
AreFresh before [] = Unit {0}
AreFresh before (x ∷ xs) = (is_among before x.name ≡ false) × AreFresh (and_name before x) xs

not-among : (b : Bool) → not b ≡ true → b ≡ false
not-among true e = cc
not-among false e = refl

pub not-seen : (before : List ℕ) (x : Identifier) (u : Unit {0}) → unused before x ≡ Good u → is_among before x.name ≡ false
not-seen before x u e =
    not-among (is_among before x.name) (good-unless (not (is_among before x.name)) x.place kind.Duplicate tt u e).0

fresh-walked : (before : List ℕ) (xs : List Identifier) (us : List (Unit {0})) → AreWalked (λ r x u. unused r x ≡ Good u) and_name before xs us → AreFresh before xs
fresh-walked before [] us h = tt
fresh-walked before (x ∷ xs) [] h = absurd h
fresh-walked before (x ∷ xs) (u ∷ us) h = (not-seen before x u h.0, fresh-walked (and_name before x) xs us h.1)

pub names-fresh : (xs : List Identifier) (us : List (Unit {0})) → names_once xs ≡ Good us → AreFresh [] xs
names-fresh xs us e = fresh-walked [] xs us (good-walk unused and_name [] xs us e)

-- ---- variables

-- names of the outermost scope are among these
abbrev pub AreHere : Scope → List ℕ → Type 0
AreHere s before = (x : Identifier) → is_here 2 (meaning_at s x) ≡ true → is_among before x.name ≡ true

pub here-start : (t : Text) (p : Parts) (s : Scope) → Level t p s → AreHere (no_variables s) []
here-start t p s h x e = cases (meaning_at s x) refl e
  where
    cases : (o : Option Named) → meaning_at s x ≡ o → is_here 2 o ≡ true → false ≡ true
    cases None f g = g
    cases (Some n) f g =
        let same = eqb-true n.scope 2 g in
        let lt = ltb-true n.scope 2 (h.outside x n f) in absurd (omega (arith, same, lt))

module _ (s : Scope) (before : List ℕ) (go : AreHere s before) (x : Identifier) where
  here-placed : (d : Named) (y : Identifier) (o : Option Named) → ((n : Named) → o ≡ Some n → ((x.name ≡ y.name) × (d ≡ n)) ⊎ (meaning_at s y ≡ Some n)) → is_here 2 o ≡ true → is_among (and_name before x) y.name ≡ true
  here-placed d y None place e = false-true e
  here-placed d y (Some n) place e = which (place n refl)
    where
      which : (((x.name ≡ y.name) × (d ≡ n)) ⊎ (meaning_at s y ≡ Some n)) → is_among (and_name before x) y.name ≡ true
      which (inl f) = or_left _ _ (eq-eqb x.name y.name f.0)
      which (inr f) = or_right _ _ (go y (ap (is_here 2) f ∙ e))

  here-variable : (o : Result DataType FaultAt) → AreHere (with_variable 2 s x o) (and_name before x)
  here-variable (Ok u) y e =
      here-placed (record { scope = 2; meaning = meaning.Variable (length s.variables) }) y (meaning_at (with_variable 2 s x (Ok u)) y) (λ n f. entry-place s.names x.name (record { scope = 2; meaning = meaning.Variable (length s.variables) }) y.name n f) e
  here-variable (Err f) y e =
      here-placed (record { scope = 2; meaning = meaning.Typeless f }) y (meaning_at (with_variable 2 s x (Err f)) y) (λ n g. entry-place s.names x.name (record { scope = 2; meaning = meaning.Typeless f }) y.name n g) e

  here-if : (b : Bool) (r : Scope) → AreHere r (and_name before x) → AreHere (if b then s else r) (and_name before x)
  here-if true r h y e = or_right _ _ (go y e)
  here-if false r h y e = h y e

  here-declared : (o : Result DataType FaultAt) → AreHere (declared 2 s x o) (and_name before x)
  here-declared o = here-if (is_here 2 (meaning_at s x)) (with_variable 2 s x o) (here-variable o)

  not-here : is_among before x.name ≡ false → is_here 2 (meaning_at s x) ≡ false
  not-here e = cases (is_here 2 (meaning_at s x)) refl
    where
      cases : (b : Bool) → is_here 2 (meaning_at s x) ≡ b → b ≡ false
      cases true f = true-false (sym (go x f) ∙ e)
      cases false f = refl

-- each parameter of a function is a variable of its type
pub parameters-add : (outer s : Scope) (before : List ℕ) (ps : List Parameter) (us : List DataType) → AreEach (λ n u. value_type outer n ≡ Good u) (types_of ps) us → AreFresh before (names_in ps) → AreHere s before → (after_parameters outer s ps).variables ≡ s.variables ++ us
parameters-add outer s before [] [] h fresh go = sym (append-nil s.variables)
parameters-add outer s before [] (u ∷ us) h fresh go = absurd h
parameters-add outer s before (q ∷ ps) [] h fresh go = absurd h
parameters-add outer s before (q ∷ ps) (u ∷ us) h fresh go =
    parameters-add outer (declared 2 s q.name (outcome (value_type outer q.of))) (and_name before q.name) ps us h.1 fresh.1 (here-declared s before go q.name (outcome (value_type outer q.of)))
    ∙ ap (λ l. l ++ us) (declared-variables 2 s q.name (outcome (value_type outer q.of)) u (not-here s before go q.name fresh.0) (ap outcome h.0))
    ∙ append_assoc s.variables (u ∷ []) us

-- each name of a body is a variable of its parameter's type
pub names-add : (ts : Judged (List DataType)) (us : List DataType) → ts ≡ Good us → (before : List ℕ) (k : ℕ) (s : Scope) (xs : List Identifier) → k + length xs ≡ length us → AreFresh before xs → AreHere s before → (programs.after_names ts k s xs).variables ≡ s.variables ++ drop k us
names-add ts us same before k s [] e fresh go =
    sym (append-nil s.variables) ∙ ap (λ l. s.variables ++ l) (sym (drop_all k us (omega (arith, e))))
names-add ts us same before k s (x ∷ xs) e fresh go =
    names-add ts us same (and_name before x) (suc k) (declared 2 s x (outcome (map (kth k) ts))) xs (omega (arith, e)) fresh.1 (here-declared s before go x (outcome (map (kth k) ts)))
    ∙ ap (λ l. l ++ drop (suc k) us) (declared-variables 2 s x (outcome (map (kth k) ts)) (kth k us) (not-here s before go x fresh.0) (ap (λ j. outcome (map (kth k) j)) same ∙ kth-outcome us k))
    ∙ append_assoc s.variables (kth k us ∷ []) (drop (suc k) us)
    ∙ ap (λ l. s.variables ++ l) (sym (kth-drop us k (omega (arith, e))))

pub parameters-pass : (r : Role) (outer s : Scope) (ps : List Parameter) → Passes r s (after_parameters outer s ps) (length ps)
parameters-pass r outer s [] = passes-same r s
parameters-pass r outer s (q ∷ ps) =
    passes-most r s (after_parameters outer s (q ∷ ps)) (1 + length ps) (suc (length ps)) (omega arith)
    (passes-on r s (declared 2 s q.name (outcome (value_type outer q.of))) (after_parameters outer s (q ∷ ps)) 1 (length ps)
    (passes-declared r 2 s q.name (outcome (value_type outer q.of)))
    (parameters-pass r outer (declared 2 s q.name (outcome (value_type outer q.of))) ps))

pub parameters-inside : (t : Text) (p : Parts) (outer s : Scope) (ps : List Parameter) → ScopeFits t outer p → Inside t p s → Inside t p (after_parameters outer s ps)
parameters-inside t p outer s [] here h = h
parameters-inside t p outer s (q ∷ ps) here h =
    parameters-inside t p outer (declared 2 s q.name (outcome (value_type outer q.of))) ps here
    (inside-declared t p 2 s q.name (outcome (value_type outer q.of)) (λ u e. (outcome-holds _ (value_type outer q.of) u (value-known t outer p here q.of) e).0) h)
