-- What was found without a fault was found of parts without a fault.
use Rattle.std.proofs.Common.{◌≡◌, Bool, true, false, List, [], ◌∷◌, suc, length, None, Result, Ok, Err, refl, ap, sym, subst}
use Rattle.cc_base.specs.declared.names.Place.{Place}
use Rattle.cc_faults.specs.Judged.{Judged, Good, Bad, answer, map, checked, both, each, each_after, found, in_front, known, outcome}
use Rattle.cc_faults.specs.Rows.{unless}
use Rattle.cc_faults.specs.declared.fault.FaultAt.{FaultAt}
use Rattle.cc_faults.specs.declared.fault.TypeKind.{TypeKind}

good-same : {A : Type 0} {v w : A} → Good v ≡ Good w → v ≡ w
good-same e = cc

pub good-map : {A B : Type 0} (f : A → B) (j : Judged A) (v : B) → map f j ≡ Good v → (w : A) × (j ≡ Good w) × (v ≡ f w)
unfolding map
good-map f (Good w) v e = (w, refl, sym (good-same e))
good-map f (Bad own g gs) v e = absurd (cc)

pub good-both : {A B : Type 0} (j : Judged A) (k : Judged B) (v : A × B) → both j k ≡ Good v → (j ≡ Good v.0) × (k ≡ Good v.1)
unfolding both
good-both (Good a) (Good b) v e =
    let same : (a, b) ≡ v = good-same e in (ap (λ w. Good w.0) same, ap (λ w. Good w.1) same)
good-both (Good a) (Bad own g gs) v e = absurd (cc)
good-both (Bad own f fs) (Good b) v e = absurd (cc)
good-both (Bad own f fs) (Bad also g gs) v e = absurd (cc)

pub good-checked : {A B : Type 0} (j : Judged A) (r : A → Judged B) (v : B) → checked j r ≡ Good v → (w : A) × (j ≡ Good w) × (r w ≡ Good v)
unfolding checked
good-checked (Good w) r v e = (w, refl, e)
good-checked (Bad own f fs) r v e = absurd (cc)

pub good-unless : {A : Type 0} (b : Bool) (p : Place) (k : TypeKind) (v w : A) → unless b p k v ≡ Good w → (b ≡ true) × (v ≡ w)
good-unless true p k v w e = (refl, good-same e)
good-unless false p k v w e = absurd (cc)

pub good-known : {A : Type 0} (o : Result A FaultAt) (v : A) → known o ≡ Good v → o ≡ Ok v
good-known (Ok w) v e = cc
good-known (Err f) v e = absurd (cc)

pub good-outcome : {A : Type 0} (j : Judged A) (v : A) → outcome j ≡ Ok v → j ≡ Good v
good-outcome (Good w) v e = cc
good-outcome (Bad own f fs) v e = absurd (cc)

pub none-found : {A : Type 0} (j : Judged A) → ((v : A) → j ≡ Good v → ⊥) → found j ≡ None
unfolding answer
none-found (Good v) no_one = absurd (no_one v refl)
none-found (Bad true f fs) no_one = refl
none-found (Bad false f fs) no_one = refl

-- ---- lists

abbrev pub AreEach : {A B : Type 0} → (A → B → Type 0) → List A → List B → Type 0
AreEach R [] [] = Unit {0}
AreEach R [] (y ∷ ys) = ⊥
AreEach R (x ∷ xs) [] = ⊥
AreEach R (x ∷ xs) (y ∷ ys) = R x y × AreEach R xs ys

pub good-each : {A B : Type 0} (f : A → Judged B) (xs : List A) (ys : List B) → each f xs ≡ Good ys → AreEach (λ x y. f x ≡ Good y) xs ys
unfolding each
good-each f [] [] e = tt
good-each f [] (y ∷ ys) e = absurd (cc)
good-each f (x ∷ xs) ys e =
    let m = good-map in_front (both (f x) (each f xs)) ys e in
    let b = good-both (f x) (each f xs) m.0 m.1 in
    subst (AreEach (λ u v. f u ≡ Good v) (x ∷ xs)) (sym m.2) (b.0, good-each f xs (m.0).1 b.1)

pub each-length : {A B : Type 0} (R : A → B → Type 0) (xs : List A) (ys : List B) → AreEach R xs ys → length xs ≡ length ys
each-length R [] [] h = refl
each-length R [] (y ∷ ys) h = absurd h
each-length R (x ∷ xs) [] h = absurd h
each-length R (x ∷ xs) (y ∷ ys) h = ap suc (each-length R xs ys h.1)

-- each of a list, where a state is handed on
abbrev pub AreWalked : {S A B : Type 0} → (S → A → B → Type 0) → (S → A → S) → S → List A → List B → Type 0
AreWalked R step s [] [] = Unit {0}
AreWalked R step s [] (y ∷ ys) = ⊥
AreWalked R step s (x ∷ xs) [] = ⊥
AreWalked R step s (x ∷ xs) (y ∷ ys) = R s x y × AreWalked R step (step s x) xs ys

pub good-walk : {S A B : Type 0} (f : S → A → Judged B) (step : S → A → S) (s : S) (xs : List A) (ys : List B) → each_after f step s xs ≡ Good ys → AreWalked (λ r x y. f r x ≡ Good y) step s xs ys
unfolding each_after
good-walk f step s [] [] e = tt
good-walk f step s [] (y ∷ ys) e = absurd (cc)
good-walk f step s (x ∷ xs) ys e =
    let m = good-map in_front (both (f s x) (each_after f step (step s x) xs)) ys e in
    let b = good-both (f s x) (each_after f step (step s x) xs) m.0 m.1 in
    subst (AreWalked (λ r u v. f r u ≡ Good v) step s (x ∷ xs)) (sym m.2) (b.0, good-walk f step (step s x) xs (m.0).1 b.1)

pub walk-weaker : {S A B : Type 0} (R Q : S → A → B → Type 0) (step : S → A → S) → ((s : S) (x : A) (y : B) → R s x y → Q s x y) → (s : S) (xs : List A) (ys : List B) → AreWalked R step s xs ys → AreWalked Q step s xs ys
walk-weaker R Q step go s [] [] h = tt
walk-weaker R Q step go s [] (y ∷ ys) h = absurd h
walk-weaker R Q step go s (x ∷ xs) [] h = absurd h
walk-weaker R Q step go s (x ∷ xs) (y ∷ ys) h = (go s x y h.0, walk-weaker R Q step go (step s x) xs ys h.1)

pub walk-length : {S A B : Type 0} (R : S → A → B → Type 0) (step : S → A → S) (s : S) (xs : List A) (ys : List B) → AreWalked R step s xs ys → length xs ≡ length ys
walk-length R step s [] [] h = refl
walk-length R step s [] (y ∷ ys) h = absurd h
walk-length R step s (x ∷ xs) [] h = absurd h
walk-length R step s (x ∷ xs) (y ∷ ys) h = ap suc (walk-length R step (step s x) xs ys h.1)
