-- A list with the numbers of its elements.
use Rattle.std.proofs.Common.{◌≡◌, ℕ, suc, ◌+◌, List, [], ◌∷◌, length, refl, ap}
use Rattle.std.specs.List.{enumerate_from}

module _ {X : Type 0} (d : X) where
  pub enumerated-length : (n : ℕ) (xs : List X) → length (enumerate_from n xs) ≡ length xs
  enumerated-length n [] = refl
  enumerated-length n (x ∷ xs) = ap suc (enumerated-length (n + 1) xs)
