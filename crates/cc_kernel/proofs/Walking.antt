-- A list that is changed from its front on, in place.
use Rattle.std.proofs.Common.{◌≡◌, ℕ, zero, suc, ◌+◌, ◌<◌, ◌≤◌, List, [], ◌∷◌, ◌++◌, length, get_or, set, map, take, drop, refl, sym, ap, ◌∙◌, arith, add-one}
use Rattle.std.specs.List.{enumerate_from}
use Rattle.std.proofs.lemmas.List.{take_all}
use Rattle.cc_kernel.proofs.Places.{enumerated-length}

module _ {X : Type 0} (d : X) (f : ℕ × X → X) where
  -- the first i of these, of which the first has this number, are changed
  abbrev pub walked : ℕ → ℕ → List X → List X
  walked n i xs = map f (take i (enumerate_from n xs)) ++ drop i xs

  at-suc : (n i : ℕ) (xs : List X) → i < length xs → get_or (walked n i xs) i d ≡ get_or xs i d
  at-suc n i [] lt = absurd (omega arith)
  at-suc n zero (x ∷ xs) lt = refl
  at-suc n (suc i) (x ∷ xs) lt = at-suc (n + 1) i xs (omega arith)

  set-suc : (n i k : ℕ) (xs : List X) → k ≡ n + i → i < length xs → set (walked n i xs) i (f (k, get_or xs i d)) ≡ walked n (suc i) xs
  set-suc n i k [] e lt = absurd (omega arith)
  set-suc n zero k (x ∷ xs) e lt = let same : k ≡ n = omega (arith, e) in ap (λ j. f (j, x) ∷ xs) same
  set-suc n (suc i) k (x ∷ xs) e lt = ap (λ ys. f (n, x) ∷ ys) (set-suc (n + 1) i k xs (omega (arith, e)) (omega arith))

  -- the next is still as it was
  pub walked-at : (i : ℕ) (xs : List X) → i < length xs → get_or (walked 0 i xs) i d ≡ get_or xs i d
  walked-at i xs lt = at-suc 0 i xs lt

  -- the next is changed
  pub walked-set : (i : ℕ) (xs : List X) → i < length xs → set (walked 0 i xs) i (f (i, get_or xs i d)) ≡ walked 0 (i + 1) xs
  walked-set i xs lt = rw add-one (set-suc 0 i i xs (omega arith) lt)

  set-same : (ys : List X) (i : ℕ) → set ys i (get_or ys i d) ≡ ys
  set-same [] i = refl
  set-same (y ∷ ys) zero = refl
  set-same (y ∷ ys) (suc i) = ap (λ zs. y ∷ zs) (set-same ys i)

  -- or it is to stay as it is
  pub walked-keep : (i : ℕ) (xs : List X) → i < length xs → f (i, get_or xs i d) ≡ get_or xs i d → walked 0 i xs ≡ walked 0 (i + 1) xs
  walked-keep i xs lt e =
      sym (set-same (walked 0 i xs) i)
      ∙ ap (set (walked 0 i xs) i) (walked-at i xs lt ∙ sym e)
      ∙ walked-set i xs lt

  walked-length : (n i : ℕ) (xs : List X) → length (walked n i xs) ≡ length xs
  walked-length n zero xs = refl
  walked-length n (suc i) [] = refl
  walked-length n (suc i) (x ∷ xs) = ap suc (walked-length (n + 1) i xs)

  pub walked-long : (i : ℕ) (xs : List X) → length (walked 0 i xs) ≡ length xs
  walked-long i xs = walked-length 0 i xs

  drop-past : (i : ℕ) (xs : List X) → length xs ≤ i → drop i xs ≡ []
  drop-past zero [] le = refl
  drop-past zero (x ∷ xs) le = absurd (omega arith)
  drop-past (suc i) [] le = refl
  drop-past (suc i) (x ∷ xs) le = drop-past i xs (omega arith)

  nil-append : (ys : List X) → ys ++ [] ≡ ys
  nil-append [] = refl
  nil-append (y ∷ ys) = ap (λ zs. y ∷ zs) (nil-append ys)

  -- all are changed
  pub walked-whole : (i : ℕ) (xs : List X) → length xs ≤ i → walked 0 i xs ≡ map f (enumerate_from 0 xs)
  walked-whole i xs le =
      let l = enumerated-length d 0 xs in
      ap (λ ys. map f (take i (enumerate_from 0 xs)) ++ ys) (drop-past i xs le)
      ∙ nil-append (map f (take i (enumerate_from 0 xs)))
      ∙ ap (map f) (take_all i (enumerate_from 0 xs) (omega (arith, l, le)))
