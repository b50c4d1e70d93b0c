-- Parameters and names as variables. A type that is written means the same behind a variable.
use Rattle.std.proofs.Common.{◌≡◌, ℕ, suc, ◌+◌, ◌<◌, ◌≤◌, Bool, true, false, ◌||◌, List, [], ◌∷◌, Option, Some, None, Result, Ok, Err, length, drop, get_or, refl, sym, ap, ◌∙◌, arith}
use Rattle.std.proofs.lemmas.List.{drop_all}
use Rattle.std.specs.Prelude.{if◌then◌else◌, nat_eq}
use Rattle.cc_typed.specs.Sequences.{drop-at}
use Rattle.cc_typed.specs.Types.{of_process, of_struct}
use Rattle.cc_typed.specs.declared.types.DataType.{DataType}
use Rattle.cc_faults.specs.Declarations.{and_name, unused}
use Rattle.cc_faults.specs.Faults.{noted}
use Rattle.cc_faults.specs.Judged.{Judged, Good, Bad, after_each, both, checked, each_after, faults, known, map, outcome, second}
use Rattle.cc_faults.specs.Programs.{after_names, after_parameters, in_body, in_function, names_in, names_once, no_variables, types_of_names}
use Rattle.cc_faults.specs.Rows.{as_many_names, fresh, int_of, unless, value_type, visible_type}
use Rattle.cc_faults.specs.Scopes.{Scope, declared, entry_at, is_among, is_here, meaning_at, with_variable}
use Rattle.cc_faults.specs.Statements.{kth, after_names as accept_names}
use Rattle.cc_faults.proofs.Judged.{faults-map, noted-both}
use Rattle.cc_faults.specs.declared.fault.FaultAt.{FaultAt}
use Rattle.cc_faults.specs.declared.fault.TypeKind.TheVariants as kind
use Rattle.cc_faults.specs.declared.plain.Identifier.{Identifier}
use Rattle.cc_faults.specs.declared.plain.Parameter.{Parameter}
use Rattle.cc_faults.specs.declared.plain.TypeName.{TypeName}
use Rattle.cc_faults.specs.declared.plain.TypeName.TheVariants as type_name
use Rattle.cc_faults.specs.declared.scope.KindHead.{KindHead}
use Rattle.cc_declared.specs.Entering.{Names, and_name_found, and_parameter, and_parameter_name, names_from, unless_others}
use Rattle.cc_declared.specs.Lists.{and_once, made_of}
use Rattle.cc_declared.proofs.FieldWalks.{among-once}
use Rattle.cc_declared.proofs.Firsts.{noted-front, outcome-map}

-- the same types are visible
pub record HasTypesOf (s u : Scope) : Type 0 where
  pub same_structures : u.structures_named ≡ s.structures_named
  pub same_enumerations : u.enumerations_named ≡ s.enumerations_named
  pub same_processes : u.processes_named ≡ s.processes_named

pub same-type : (s u : Scope) → HasTypesOf s u → (t : TypeName) → value_type u t ≡ value_type s t
same-type s u same (type_name.Void p) = refl
same-type s u same (type_name.Number n) = refl
same-type s u same (type_name.Structure x) = ap (λ es. map of_struct (checked (visible_type x (entry_at es x)) known)) same.same_structures
same-type s u same (type_name.Enumeration x) = ap (λ es. map int_of (checked (visible_type x (entry_at es x)) known)) same.same_enumerations
same-type s u same (type_name.Process x) = ap (λ es. map of_process (visible_type x (entry_at es x))) same.same_processes

keeps-types : (s u : Scope) → HasTypesOf s u → (x : Identifier) (t : Result DataType FaultAt) (b : Bool) → HasTypesOf s (if b then u else with_variable 2 u x t)
keeps-types s u same x t true = same
keeps-types s u same x (Ok t) false = record { same_structures = same.same_structures; same_enumerations = same.same_enumerations; same_processes = same.same_processes }
keeps-types s u same x (Err f) false = record { same_structures = same.same_structures; same_enumerations = same.same_enumerations; same_processes = same.same_processes }

walked : (outer s : Scope) → HasTypesOf outer s → (ps : List Parameter) → after_each and_parameter s ps ≡ after_parameters outer s ps
unfolding after_each
walked outer s same [] = refl
walked outer s same (p ∷ ps) =
    ap (λ j. after_each and_parameter (declared 2 s p.name (outcome j)) ps) (same-type outer s same p.of)
    ∙ walked outer (declared 2 s p.name (outcome (value_type outer p.of))) (keeps-types outer s same p.name (outcome (value_type outer p.of)) (is_here 2 (meaning_at s p.name))) ps

pub in-function : (s : Scope) (ps : List Parameter) → after_each and_parameter (no_variables s) ps ≡ in_function s ps
in-function s ps = walked s (no_variables s) (record { same_structures = refl; same_enumerations = refl; same_processes = refl }) ps

-- ---- names, each once
names-noted : (m : Option FaultAt) (seen before : List ℕ) → ((n : ℕ) → is_among seen n ≡ is_among before n) → (xs : List Identifier) → (after_each and_name_found (m, seen) xs).0 ≡ noted m (faults (each_after unused and_name before xs))
unfolding after_each each_after faults noted
names-noted m seen before same [] = refl
names-noted m seen before same (x ∷ xs) =
    names-noted (noted m (faults (fresh (is_among seen x.name) x))) (and_once seen x.name) (and_name before x) (λ n. among-once seen x.name n ∙ ap (λ b. nat_eq x.name n || b) (same n)) xs
    ∙ ap (λ b. noted (noted m (faults (fresh b x))) (faults (each_after unused and_name (and_name before x) xs))) (same x.name)
    ∙ sym (noted-front m (unused before x) (each_after unused and_name (and_name before x) xs))

pub names-once : (m : Option FaultAt) (xs : List Identifier) → (after_each and_name_found (m, []) xs).0 ≡ noted m (faults (names_once xs))
names-once m xs = names-noted m [] [] (λ n. refl) xs

pub same-names : (w : Names) (ps : List Parameter) → after_each and_parameter_name w ps ≡ after_each and_name_found w (names_in ps)
unfolding after_each
same-names w [] = refl
same-names w (p ∷ ps) = same-names (and_name_found w p.name) ps

-- ---- types of a body's names
pub outcome-others : (x : Identifier) (n count : ℕ) (j : Judged (List DataType)) → outcome (map second (both (as_many_names x n count) j)) ≡ unless_others (nat_eq n count) x (outcome j)
unfolding map both unless_others
outcome-others x n count j = by (nat_eq n count) j
  where
    by : (b : Bool) (k : Judged (List DataType)) → outcome (map second (both (unless {A = Unit {0}} b x.place kind.BodyNames tt) k)) ≡ unless_others b x (outcome k)
    by true (Good ts) = refl
    by true (Bad own g gs) = refl
    by false (Good ts) = refl
    by false (Bad own g gs) = refl

pub no-kind : (m : Option FaultAt) (x : Identifier) (n : ℕ) (h : Option KindHead) → h ≡ None → m ≡ noted m (faults (types_of_names x n h))
unfolding faults noted
no-kind m x n None e = refl
no-kind m x n (Some h) e = absurd (cc)

pub ruleset types_of_body = (outcome-others, noted-both, faults-map)

-- ---- names as variables
module _ (scope : ℕ) (ts : Result (List DataType) FaultAt) (xs : List Identifier) (k : ℕ) where
  pub names-more : (s s1 o : Scope) (t : Result DataType FaultAt) (d : Identifier) → k < length xs → s1 ≡ declared scope s (get_or xs k d) t → t ≡ made_of (kth k) ts → names_from scope ts k s (drop k xs) ≡ o → names_from scope ts (k + 1) s1 (drop (k + 1) xs) ≡ o
  names-more s s1 o t d lt e found invariant =
      let next : k + 1 ≡ suc k = omega arith in
      ap (λ n. names_from scope ts n s1 (drop (k + 1) xs)) next
      ∙ ap (λ u. names_from scope ts (suc k) u (drop (k + 1) xs)) (e ∙ ap (declared scope s (get_or xs k d)) found)
      ∙ sym (ap (names_from scope ts k s) (drop-at xs k d lt))
      ∙ invariant

  pub names-end : (s o : Scope) → length xs ≤ k → names_from scope ts k s (drop k xs) ≡ o → s ≡ o
  names-end s o le invariant = sym (ap (names_from scope ts k s) (drop_all k xs le)) ∙ invariant

same-variables : (ts : Judged (List DataType)) (k : ℕ) (s : Scope) (xs : List Identifier) → names_from 2 (outcome ts) k s xs ≡ after_names ts k s xs
same-variables ts k s [] = refl
same-variables ts k s (x ∷ xs) =
    ap (λ t. names_from 2 (outcome ts) (suc k) (declared 2 s x t) xs) (sym (outcome-map (kth k) ts)) ∙ same-variables ts (suc k) (declared 2 s x (outcome (map (kth k) ts))) xs

pub in-body : (s s1 : Scope) (types : Result (List DataType) FaultAt) (xs : List Identifier) → s1 ≡ names_from 2 types 0 (no_variables s) xs
    → (ts : Judged (List DataType)) → outcome ts ≡ types → s1 ≡ in_body s ts xs
in-body s s1 types xs e ts is = e ∙ ap (λ t. names_from 2 t 0 (no_variables s) xs) (sym is) ∙ same-variables ts 0 (no_variables s) xs

-- the names of an accept, where the types of its transaction are known as an outcome
pub in-accept : (scope : ℕ) (ts : Judged (List DataType)) (k : ℕ) (s : Scope) (xs : List Identifier) → names_from scope (outcome ts) k s xs ≡ accept_names scope ts k s xs
in-accept scope ts k s [] = refl
in-accept scope ts k s (x ∷ xs) =
    ap (λ t. names_from scope (outcome ts) (suc k) (declared scope s x t) xs) (sym (outcome-map (kth k) ts)) ∙ in-accept scope ts (suc k) (declared scope s x (outcome (map (kth k) ts))) xs
