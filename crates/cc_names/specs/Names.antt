-- Numbers for names: each has the number of its first mention.
use Rattle.std.specs.Prelude.{ℕ, suc, Bool, true, false, ◌&&◌, ◌||◌, if◌then◌else◌, nat_eq, List, [], ◌∷◌, ◌++◌}

abbrev pub is_same : List ℕ → List ℕ → Bool
is_same [] [] = true
is_same [] (y ∷ ys) = false
is_same (x ∷ xs) [] = false
is_same (x ∷ xs) (y ∷ ys) = nat_eq x y && is_same xs ys

abbrev pub is_mentioned : List (List ℕ) → List ℕ → Bool
is_mentioned [] x = false
is_mentioned (y ∷ ys) x = is_same y x || is_mentioned ys x

-- how many stand before this one; as many as there are where it isn't among them
abbrev pub number_in : List (List ℕ) → List ℕ → ℕ
number_in [] x = 0
number_in (y ∷ ys) x = if is_same y x then 0 else suc (number_in ys x)

abbrev pub with_mention : List (List ℕ) → List ℕ → List (List ℕ)
with_mention seen x = if is_mentioned seen x then seen else seen ++ x ∷ []

-- each once, in the order of first mention, after those that were seen before
abbrev pub once : List (List ℕ) → List (List ℕ) → List (List ℕ)
once seen [] = seen
once seen (x ∷ xs) = once (with_mention seen x) xs

-- the bytes of `main`
abbrev pub main_bytes : List ℕ
main_bytes = 109 ∷ 97 ∷ 105 ∷ 110 ∷ []

-- the names of a text by their numbers, where these names are mentioned: `main` has the number 0
abbrev pub numbered : List (List ℕ) → List (List ℕ)
numbered mentions = once (main_bytes ∷ []) mentions
