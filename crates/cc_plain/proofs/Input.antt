-- The input that is left.
use Rattle.std.proofs.Common.{◌≡◌, ℕ, zero, suc, ◌+◌, ◌≤◌, List, [], ◌∷◌, length, drop, refl, arith, add-one}
use Rattle.std.specs.Prelude.{slice_get}
use Rattle.cc_rules.specs.Effects.{first_byte, rest_of}

pub first-drop : (xs : List ℕ) (i : ℕ) → slice_get xs i ≡ first_byte (drop i xs)
first-drop [] zero = refl
first-drop [] (suc i) = refl
first-drop (x ∷ xs) zero = refl
first-drop (x ∷ xs) (suc i) = first-drop xs i

rest-suc : (xs : List ℕ) (i : ℕ) → drop (suc i) xs ≡ rest_of (drop i xs)
rest-suc [] zero = refl
rest-suc [] (suc i) = refl
rest-suc (x ∷ xs) zero = refl
rest-suc (x ∷ xs) (suc i) = rest-suc xs i

-- a byte is taken
pub rest-more : (xs : List ℕ) (i : ℕ) → drop (i + 1) xs ≡ rest_of (drop i xs)
rest-more xs i = rw add-one (rest-suc xs i)

-- at the end none is left
pub rest-past : (xs : List ℕ) (i : ℕ) → length xs ≤ i → drop i xs ≡ rest_of (drop i xs)
rest-past [] zero le = refl
rest-past [] (suc i) le = refl
rest-past (x ∷ xs) zero le = absurd (omega arith)
rest-past (x ∷ xs) (suc i) le = rest-past xs i (omega arith)
