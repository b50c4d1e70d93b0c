-- The loop over the fields of a structure.
use Rattle.std.proofs.Common.{◌≡◌, ℕ, Bool, true, false, ◌||◌, List, [], ◌∷◌, ◌++◌, Option, Result, Ok, Err, refl, sym, ap, ◌∙◌, ◌+◌, ◌<◌, length, drop, get_or, append-nil, append_assoc}
use Rattle.std.proofs.lemmas.Bool.{eqb-true}
use Rattle.std.specs.Prelude.{if◌then◌else◌, nat_eq}
use Rattle.cc_typed.specs.declared.types.DataType.{DataType}
use Rattle.cc_typed.specs.declared.types.Structure.{Structure}
use Rattle.cc_faults.specs.Declarations.{after_structure, and_field, field, field_names, field_with, next_structure, structure, structure_of, with_structure, with_structure_name}
use Rattle.cc_faults.specs.Faults.{noted}
use Rattle.cc_faults.specs.Judged.{Judged, Good, Bad, answer, faults, found, outcome, map, checked, both, second, in_front, each_after, after_each}
use Rattle.cc_faults.specs.Rows.{fresh, structure_not_large}
use Rattle.cc_faults.specs.Scopes.{Scope, entry_at, is_among, is_there}
use Rattle.cc_faults.specs.declared.fault.FaultAt.{FaultAt}
use Rattle.cc_faults.specs.declared.plain.Field.{Field}
use Rattle.cc_faults.specs.declared.plain.Identifier.{Identifier}
use Rattle.cc_declared.specs.Lists.{and_once, and_put, faults_ruled, made_of, ruled}
use Rattle.cc_declared.specs.Walks.{Fields, and_field_found, field_at, with_structure_found}
use Rattle.cc_declared.proofs.Firsts.{front-first, front-rest, noted-front, nothing-before, put-front, walk-read}

-- ---- names, each once
swapped : (a b c : Bool) → a || (b || c) ≡ (b || (a || c))
swapped true true c = refl
swapped true false c = refl
swapped false true c = refl
swapped false false c = refl

among-end : (names : List ℕ) (n x : ℕ) → is_among (names ++ n ∷ []) x ≡ (nat_eq n x || is_among names x)
among-end [] n x = refl
among-end (y ∷ ys) n x = ap (λ b. nat_eq y x || b) (among-end ys n x) ∙ swapped (nat_eq y x) (nat_eq n x) (is_among ys x)

pub among-once : (names : List ℕ) (n x : ℕ) → is_among (and_once names n) x ≡ (nat_eq n x || is_among names x)
unfolding and_once
among-once names n x = by (is_among names n) refl
  where
    same : (b : Bool) → nat_eq n x ≡ b → is_among names n ≡ true → is_among names x ≡ (b || is_among names x)
    same true e there = ap (is_among names) (sym (eqb-true n x e)) ∙ there
    same false e there = refl

    by : (b : Bool) → is_among names n ≡ b → is_among (if b then names else names ++ n ∷ []) x ≡ (nat_eq n x || is_among names x)
    by true e = same (nat_eq n x) refl e ∙ refl
    by false e = among-end names n x

-- ---- the loop
module _ (s : Scope) where
  -- names that were seen are those before
  abbrev pub IsSeen : List ℕ → List ℕ → Type 0
  IsSeen seen before = (x : ℕ) → is_among seen x ≡ is_among before x

  still-seen : (seen before : List ℕ) (f : Field) → IsSeen seen before → IsSeen (and_once seen f.name.name) (and_field before f)
  still-seen seen before f same x = among-once seen f.name.name x ∙ ap (λ b. nat_eq f.name.name x || b) (same x)

  at-field : (seen before : List ℕ) (f : Field) → IsSeen seen before → field_at s (is_among seen f.name.name) f ≡ field s before f
  at-field seen before f same = ap (λ b. field_at s b f) (same f.name.name)

  pub fields-noted : (r : Result (List DataType) FaultAt) (m : Option FaultAt) (seen before : List ℕ) → IsSeen seen before → (fs : List Field)
      → (after_each (and_field_found s) (r, m, seen) fs).1 ≡ noted m (faults (each_after (field s) and_field before fs))
  unfolding after_each each_after faults noted
  fields-noted r m seen before same [] = refl
  fields-noted r m seen before same (f ∷ fs) =
      fields-noted (and_put r (outcome (field_at s (is_among seen f.name.name) f))) (noted m (faults (field_at s (is_among seen f.name.name) f))) (and_once seen f.name.name) (and_field before f) (still-seen seen before f same) fs
      ∙ ap (λ j. noted (noted m (faults j)) (faults (each_after (field s) and_field (and_field before f) fs))) (at-field seen before f same)
      ∙ sym (noted-front m (field s before f) (each_after (field s) and_field (and_field before f) fs))

  faulty-fields : (g : FaultAt) (m : Option FaultAt) (seen : List ℕ) (fs : List Field) → (after_each (and_field_found s) (Err g, m, seen) fs).0 ≡ Err g
  unfolding after_each and_put
  faulty-fields g m seen [] = refl
  faulty-fields g m seen (f ∷ fs) = faulty-fields g (noted m (faults (field_at s (is_among seen f.name.name) f))) (and_once seen f.name.name) fs

  pub fields-types : (all : List DataType) (m : Option FaultAt) (seen before : List ℕ) → IsSeen seen before → (fs : List Field)
      → (after_each (and_field_found s) (Ok all, m, seen) fs).0 ≡ made_of (λ (ts : List DataType). all ++ ts) (outcome (each_after (field s) and_field before fs))
  unfolding after_each each_after made_of
  fields-types all m seen before same [] = ap Ok (sym (append-nil all))
  fields-types all m seen before same (f ∷ fs) =
      let b = is_among seen f.name.name in
      let m1 = noted m (faults (field_at s b f)) in
      let seen1 = and_once seen f.name.name in
      put-front all (field_at s b f) (each_after (field s) and_field (and_field before f) fs) (after_each (and_field_found s) (and_put (Ok all) (outcome (field_at s b f)), m1, seen1) fs).0
      (λ g e. ap (λ r. (after_each (and_field_found s) (r, m1, seen1) fs).0) e ∙ faulty-fields g m1 seen1 fs)
      (λ v e.
      ap (λ r. (after_each (and_field_found s) (r, m1, seen1) fs).0) e
      ∙ fields-types (all ++ v ∷ []) m1 seen1 (and_field before f) (still-seen seen before f same) fs)
      ∙ ap (λ j. made_of (λ (ts : List DataType). all ++ ts) (outcome (map in_front (both j (each_after (field s) and_field (and_field before f) fs))))) (at-field seen before f same)

  unused-field : (before : List ℕ) (f : Field) (t : DataType) → outcome (field s before f) ≡ Ok t → is_among before f.name.name ≡ false
  unfolding map both
  unused-field before f t e = by (is_among before f.name.name) (field_with s f f.length) e
    where
      by : (b : Bool) (j : Judged DataType) → outcome (map second (both (fresh b f.name) j)) ≡ Ok t → b ≡ false
      by true (Good u) e = absurd (cc)
      by true (Bad own g gs) e = absurd (cc)
      by false j e = refl

  once-new : (names : List ℕ) (n : ℕ) → is_among names n ≡ false → and_once names n ≡ names ++ n ∷ []
  unfolding and_once
  once-new names n e = ap (λ b. if b then names else names ++ n ∷ []) e

  pub fields-names : (r : Result (List DataType) FaultAt) (m : Option FaultAt) (seen before : List ℕ) → IsSeen seen before → (fs : List Field) (ts : List DataType)
      → outcome (each_after (field s) and_field before fs) ≡ Ok ts → (after_each (and_field_found s) (r, m, seen) fs).2 ≡ seen ++ field_names fs
  unfolding after_each each_after
  fields-names r m seen before same [] ts e = sym (append-nil seen)
  fields-names r m seen before same (f ∷ fs) ts e =
      let n = f.name.name in
      let j = field_at s (is_among seen n) f in
      let first = front-first (field s before f) (each_after (field s) and_field (and_field before f) fs) ts e in
      let rest = front-rest (field s before f) (each_after (field s) and_field (and_field before f) fs) ts e in
      fields-names (and_put r (outcome j)) (noted m (faults j)) (and_once seen n) (and_field before f) (still-seen seen before f same) fs rest.0 rest.1
      ∙ ap (λ ns. ns ++ field_names fs) (once-new seen n (same n ∙ unused-field before f first.0 first.1))
      ∙ append_assoc seen (n ∷ []) (field_names fs)

  pub fields-more : (r r1 : Result (List DataType) FaultAt) (v : Result DataType FaultAt) (m m1 : Option FaultAt) (names names1 : List ℕ) (o : Fields) (fs : List Field) (k : ℕ) (d : Field) (b : Bool)
      → k < length fs → b ≡ is_among names (get_or fs k d).name.name → v ≡ outcome (field_at s b (get_or fs k d)) → m1 ≡ noted m (faults (field_at s b (get_or fs k d)))
      → r1 ≡ and_put r v → names1 ≡ and_once names (get_or fs k d).name.name
      → after_each (and_field_found s) (r, m, names) (drop k fs) ≡ o → after_each (and_field_found s) (r1, m1, names1) (drop (k + 1) fs) ≡ o
  fields-more r r1 v m m1 names names1 o fs k d b lt before found least put seen invariant =
      let f = get_or fs k d in
      let r-is = put ∙ ap (and_put r) (found ∙ ap (λ c. outcome (field_at s c f)) before) in
      let m-is = least ∙ ap (λ c. noted m (faults (field_at s c f))) before in
      walk-read (and_field_found s) (r, m, names) (r1, m1, names1) o fs k d lt (λ i. (r-is i, m-is i, seen i)) invariant

  -- ---- the declaration
  module _ (x : Identifier) (fields : List Field) where
    outcome-rule : (j : Judged (List DataType)) → outcome (checked (map (structure_of s) j) (structure_not_large x)) ≡ ruled (outcome j) (λ (ts : List DataType). outcome (structure_not_large x (structure_of s ts)))
    unfolding checked map ruled
    outcome-rule (Good ts) = refl
    outcome-rule (Bad own g gs) = refl

    noted-rule : (m : Option FaultAt) (j : Judged (List DataType)) → noted m (faults (checked (map (structure_of s) j) (structure_not_large x))) ≡ noted (noted m (faults j)) (faults_ruled (outcome j) (λ (ts : List DataType). structure_not_large x (structure_of s ts)))
    unfolding checked map faults noted faults_ruled
    noted-rule m (Good ts) = refl
    noted-rule m (Bad own g gs) = refl

    ok-before : (j : Judged (List DataType)) (c : Structure) → outcome (checked (map (structure_of s) j) (structure_not_large x)) ≡ Ok c → (ts : List DataType) × (outcome j ≡ Ok ts)
    unfolding checked map
    ok-before (Good ts) c e = (ts, refl)
    ok-before (Bad own g gs) c e = absurd (cc)

    nothing-seen : IsSeen [] []
    nothing-seen x = refl

    -- what the walk comes to, with nothing seen
    pub types-found : (m : Option FaultAt) → (after_each (and_field_found s) (Ok [], m, []) fields).0 ≡ outcome (each_after (field s) and_field [] fields)
    types-found m = fields-types [] m [] [] nothing-seen fields ∙ nothing-before (outcome (each_after (field s) and_field [] fields))

    pub structure-found : (m : Option FaultAt) (types : Result (List DataType) FaultAt) (r : Result Structure FaultAt) → types ≡ (after_each (and_field_found s) (Ok [], m, []) fields).0
        → r ≡ ruled types (λ (ts : List DataType). outcome (structure_not_large x (structure_of s ts))) → r ≡ outcome (structure s x fields)
    structure-found m types r e i =
        i ∙ ap (λ t. ruled t (λ (ts : List DataType). outcome (structure_not_large x (structure_of s ts)))) (e ∙ types-found m)
        ∙ sym (outcome-rule (each_after (field s) and_field [] fields))

    pub structure-noted : (m m1 m2 : Option FaultAt) (types : Result (List DataType) FaultAt) → types ≡ (after_each (and_field_found s) (Ok [], m, []) fields).0
        → m1 ≡ (after_each (and_field_found s) (Ok [], m, []) fields).1
        → m2 ≡ noted m1 (faults_ruled types (λ (ts : List DataType). structure_not_large x (structure_of s ts))) → m2 ≡ noted m (faults (structure s x fields))
    structure-noted m m1 m2 types e i j =
        j ∙ ap (λ n. noted n (faults_ruled types (λ (ts : List DataType). structure_not_large x (structure_of s ts)))) (i ∙ fields-noted (Ok []) m [] [] nothing-seen fields)
        ∙ ap (λ t. noted (noted m (faults (each_after (field s) and_field [] fields))) (faults_ruled t (λ (ts : List DataType). structure_not_large x (structure_of s ts)))) (e ∙ types-found m)
        ∙ sym (noted-rule m (each_after (field s) and_field [] fields))

    with-found : (j : Judged Structure) (names : List ℕ) → ((c : Structure) → outcome j ≡ Ok c → names ≡ field_names fields)
        → with_structure_found s x (outcome j) names ≡ with_structure (with_structure_name s x (outcome (map (next_structure s) j))) fields (found j)
    unfolding map answer
    with-found (Good c) names same =
        ap (λ ns. record (with_structure_name s x (Ok (length s.structures))) { structures = s.structures ++ c ∷ []; members = s.members ++ ns ∷ [] }) (same c refl)
    with-found (Bad true g gs) names same = refl
    with-found (Bad false g gs) names same = refl

    pub structure-after : (m : Option FaultAt) (r : Result Structure FaultAt) (names : List ℕ) → r ≡ outcome (structure s x fields)
        → names ≡ (after_each (and_field_found s) (Ok [], m, []) fields).2
        → (if is_there (entry_at s.structures_named x) then s else with_structure_found s x r names) ≡ after_structure s x fields
    structure-after m r names e i =
        ap (λ v. if is_there (entry_at s.structures_named x) then s else with_structure_found s x v names) e
        ∙ ap (λ after. if is_there (entry_at s.structures_named x) then s else after) (with-found (structure s x fields) names same)
      where
        same : (c : Structure) → outcome (structure s x fields) ≡ Ok c → names ≡ field_names fields
        same c ok =
            let types = ok-before (each_after (field s) and_field [] fields) c ok in
            i ∙ fields-names (Ok []) m [] [] nothing-seen fields types.0 types.1
