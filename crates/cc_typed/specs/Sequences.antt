-- Lists as such: an empty one, and what is left where one is cut.
use Rattle.std.proofs.Common.{◌≡◌, ℕ, ◌+◌, ◌<◌, zero, suc, min, Bool, true, false, List, [], ◌∷◌, length, take, drop, get_or, refl, ap, sym, ◌∙◌, arith}
use Rattle.std.proofs.Math.Seq.{drop-cons}
use Rattle.cc_typed.specs.declared.types.DataType.{DataType}

abbrev pub is_empty : {X : Type 0} → List X → Bool
is_empty [] = true
is_empty (x ∷ xs) = false

pub drop-at : {X : Type 0} (ts : List X) (k : ℕ) (d : X) → k < length ts → drop k ts ≡ get_or ts k d ∷ drop (k + 1) ts
drop-at ts k d lt = let e : suc k ≡ k + 1 = omega arith in drop-cons ts k d lt ∙ ap (λ n. get_or ts k d ∷ drop n ts) e

nil-taken : {X : Type 0} (k : ℕ) (xs : List X) → xs ≡ [] → take k xs ≡ []
nil-taken zero [] e = refl
nil-taken (suc k) [] e = refl
nil-taken k (x ∷ xs) e = cc

nil-dropped : {X : Type 0} (k : ℕ) (xs : List X) → xs ≡ [] → drop k xs ≡ []
nil-dropped zero [] e = refl
nil-dropped (suc k) [] e = refl
nil-dropped k (x ∷ xs) e = cc

same-taken : {X : Type 0} (m k : ℕ) (xs : List X) → m ≡ min k (length xs) → take m xs ≡ take k xs
same-taken m k [] e = nil-taken m [] refl ∙ sym (nil-taken k [] refl)
same-taken zero zero (x ∷ xs) e = refl
same-taken zero (suc k) (x ∷ xs) e = absurd (omega arith)
same-taken (suc m) zero (x ∷ xs) e = absurd (omega arith)
same-taken (suc m) (suc k) (x ∷ xs) e = ap (λ ys. x ∷ ys) (same-taken m k xs (omega arith))

same-dropped : {X : Type 0} (m k : ℕ) (xs : List X) → m ≡ min k (length xs) → drop m xs ≡ drop k xs
same-dropped m k [] e = nil-dropped m [] refl ∙ sym (nil-dropped k [] refl)
same-dropped zero zero (x ∷ xs) e = refl
same-dropped zero (suc k) (x ∷ xs) e = absurd (omega arith)
same-dropped (suc m) zero (x ∷ xs) e = absurd (omega arith)
same-dropped (suc m) (suc k) (x ∷ xs) e = same-dropped m k xs (omega arith)

pub take-min : (xs : List DataType) (k : ℕ) → take (min k (length xs)) xs ≡ take k xs
take-min xs k = same-taken (min k (length xs)) k xs refl

pub drop-min : (xs : List DataType) (k : ℕ) → drop (min k (length xs)) xs ≡ drop k xs
drop-min xs k = same-dropped (min k (length xs)) k xs refl

pub ruleset cuts = (take-min, drop-min)
