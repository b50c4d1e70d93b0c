-- The first of the faults as they are found, and what is noted, where a rule applies; loops.
use Rattle.std.proofs.Common.{◌≡◌, ℕ, ◌+◌, ◌<◌, ◌≤◌, Bool, true, false, List, [], ◌∷◌, ◌++◌, length, drop, get_or, Option, Result, Ok, Err, refl, sym, ap, ◌∙◌, append_assoc}
use Rattle.std.proofs.lemmas.List.{drop_all}
use Rattle.cc_typed.specs.Sequences.{drop-at}
use Rattle.cc_faults.specs.Faults.{noted}
use Rattle.cc_faults.specs.Judged.{Judged, Good, Bad, faults, outcome, map, checked, both, second, in_front, after_each}
use Rattle.cc_faults.proofs.Judged.{noted-end, noted-more, noted-both, faults-Good, faults-Bad, faults-map}
use Rattle.cc_faults.specs.Rows.{fresh}
use Rattle.cc_faults.specs.declared.fault.FaultAt.{FaultAt}
use Rattle.cc_faults.specs.declared.plain.Identifier.{Identifier}
use Rattle.cc_declared.specs.Lists.{and_put, faults_ruled, made_of, paired, ruled, unless_taken}

module _ {A B : Type 0} where
  pub outcome-map : (f : A → B) (j : Judged A) → outcome (map f j) ≡ made_of f (outcome j)
  unfolding map made_of
  outcome-map f (Good v) = refl
  outcome-map f (Bad own g gs) = refl

  pub outcome-checked : (j : Judged A) (r : A → Judged B) → outcome (checked j r) ≡ ruled (outcome j) (λ v. outcome (r v))
  unfolding checked ruled
  outcome-checked (Good v) r = refl
  outcome-checked (Bad own g gs) r = refl

  pub outcome-both : (j : Judged A) (k : Judged B) → outcome (both j k) ≡ paired (outcome j) (outcome k)
  unfolding both paired
  outcome-both (Good v) (Good w) = refl
  outcome-both (Good v) (Bad own g gs) = refl
  outcome-both (Bad own f fs) (Good w) = refl
  outcome-both (Bad own f fs) (Bad also g gs) = refl

  pub noted-ruled : (m : Option FaultAt) (j : Judged A) (r : A → Judged B) → noted m (faults (checked j r)) ≡ noted (noted m (faults j)) (faults_ruled (outcome j) r)
  unfolding faults checked noted faults_ruled
  noted-ruled m (Good v) r = refl
  noted-ruled m (Bad own g gs) r = refl

pub outcome-unused : {A : Type 0} (taken : Bool) (x : Identifier) (j : Judged A) → outcome (map second (both (fresh taken x) j)) ≡ unless_taken taken x (outcome j)
unfolding map both unless_taken
outcome-unused true x (Good v) = refl
outcome-unused true x (Bad own g gs) = refl
outcome-unused false x (Good v) = refl
outcome-unused false x (Bad own g gs) = refl

pub outcome-two : {A B C : Type 0} (j : Judged A) (k : Judged B) (r : A × B → Judged C) → outcome (checked (both j k) r) ≡ ruled (paired (outcome j) (outcome k)) (λ v. outcome (r v))
outcome-two j k r = outcome-checked (both j k) r ∙ ap (λ a. ruled a (λ v. outcome (r v))) (outcome-both j k)

pub ruleset two = (outcome-two)

pub ruleset noting = (noted-end, noted-more, faults-Good, faults-Bad)

pub ruleset heads = (outcome-map, outcome-both, noted-both, faults-map)

pub ruleset firsts = (outcome-unused, noted-both, faults-map)

-- one before others
pub noted-front : {A : Type 0} (m : Option FaultAt) (j : Judged A) (k : Judged (List A)) → noted m (faults (map in_front (both j k))) ≡ noted (noted m (faults j)) (faults k)
noted-front m j k = ap (noted m) (faults-map in_front (both j k)) ∙ noted-both m j k

-- what is put at the end of a list, where more follow
module _ {A : Type 0} where
  pub put-front : (all : List A) (j : Judged A) (k : Judged (List A)) (now : Result (List A) FaultAt)
      → ((g : FaultAt) → and_put (Ok all) (outcome j) ≡ Err g → now ≡ Err g)
      → ((v : A) → and_put (Ok all) (outcome j) ≡ Ok (all ++ v ∷ []) → now ≡ made_of (λ (vs : List A). (all ++ v ∷ []) ++ vs) (outcome k))
      → now ≡ made_of (λ (vs : List A). all ++ vs) (outcome (map in_front (both j k)))
  unfolding and_put made_of map both
  put-front all (Bad own g gs) (Good ws) now bad good = bad g refl
  put-front all (Bad own g gs) (Bad also h hs) now bad good = bad g refl
  put-front all (Good v) (Bad also h hs) now bad good = good v refl
  put-front all (Good v) (Good ws) now bad good = good v refl ∙ ap Ok (append_assoc all (v ∷ []) ws)

  pub nothing-before : (r : Result (List A) FaultAt) → made_of (λ (vs : List A). [] ++ vs) r ≡ r
  unfolding made_of
  nothing-before (Ok vs) = refl
  nothing-before (Err g) = refl

  pub front-first : (j : Judged A) (k : Judged (List A)) (vs : List A) → outcome (map in_front (both j k)) ≡ Ok vs → (v : A) × (outcome j ≡ Ok v)
  unfolding map both
  front-first (Good v) k vs e = (v, refl)
  front-first (Bad own g gs) (Good ws) vs e = absurd (cc)
  front-first (Bad own g gs) (Bad also h hs) vs e = absurd (cc)

  pub front-rest : (j : Judged A) (k : Judged (List A)) (vs : List A) → outcome (map in_front (both j k)) ≡ Ok vs → (ws : List A) × (outcome k ≡ Ok ws)
  unfolding map both
  front-rest (Good v) (Good ws) vs e = (ws, refl)
  front-rest (Good v) (Bad also h hs) vs e = absurd (cc)
  front-rest (Bad own g gs) (Good ws) vs e = (ws, refl)
  front-rest (Bad own g gs) (Bad also h hs) vs e = absurd (cc)

-- a loop over a list, by what it adds for each
module _ {S A : Type 0} (step : S → A → S) where
  pub walk-more : (now more o : S) (xs : List A) (i : ℕ) (x : A) → i < length xs → x ≡ get_or xs i x → more ≡ step now x → after_each step now (drop i xs) ≡ o → after_each step more (drop (i + 1) xs) ≡ o
  unfolding after_each
  walk-more now more o xs i x lt is e invariant =
      ap (λ w. after_each step w (drop (i + 1) xs)) (e ∙ ap (step now) is) ∙ sym (ap (after_each step now) (drop-at xs i x lt)) ∙ invariant

  pub walk-read : (now more o : S) (xs : List A) (i : ℕ) (d : A) → i < length xs → more ≡ step now (get_or xs i d) → after_each step now (drop i xs) ≡ o → after_each step more (drop (i + 1) xs) ≡ o
  unfolding after_each
  walk-read now more o xs i d lt e invariant = ap (λ w. after_each step w (drop (i + 1) xs)) e ∙ sym (ap (after_each step now) (drop-at xs i d lt)) ∙ invariant

  pub walk-end : (now o : S) (xs : List A) (i : ℕ) → length xs ≤ i → after_each step now (drop i xs) ≡ o → now ≡ o
  unfolding after_each
  walk-end now o xs i le invariant = sym (ap (after_each step now) (drop_all i xs le)) ∙ invariant
