-- What becomes of a meaning that an object may tell, as Some, or not.
use Rattle.std.specs.Prelude.{◌≡◌, ◌≤◌, ◌<◌, ◌⊎◌, ℕ, Bool, true, false, List, [], ◌++◌, length, take, ⊤, Option, Some, None, Result, MatchResult, option_map}
use Rattle.std.specs.Option.{is_some}
use Rattle.cc_world.specs.Causes.{Rose}
use Rattle.cc_world.specs.declared.fault.IoFault.{IoFault}

-- the known bytes, and then these
abbrev pub with_bytes : Option (List ℕ) → List ℕ → Option (List ℕ)
with_bytes known bytes = option_map (λ xs. xs ++ bytes) known

-- these bytes, and then the known ones
abbrev pub behind : List ℕ → Option (List ℕ) → Option (List ℕ)
behind bytes known = option_map (λ xs. bytes ++ xs) known

-- what an object tells of what is under it: nothing, where it doesn't tell
abbrev pub told_if : Bool → Option (List ℕ) → Option (List ℕ)
told_if false known = None
told_if true known = known

-- what is under it is known, where it tells
abbrev pub is_told_if : Bool → Option (List ℕ) → Bool
is_told_if false known = true
is_told_if true known = is_some known

-- nothing is left, where that is told
abbrev pub IsAtEnd : Option (List ℕ) → Type 0
IsAtEnd None = ⊤
IsAtEnd (Some xs) = xs ≡ []

-- a take gave the first bytes of what was left, none only at the end; at a fault all of it is still left
abbrev pub Takes : Option (List ℕ) → Option (List ℕ) → Result ℕ IoFault → List ℕ → Type 0
Takes old new result buf = MatchResult result
    (λ n. (n ≤ length buf) × (old ≡ behind (take n buf) new) × (n ≡ 0 → IsAtEnd old))
    (λ _. new ≡ old)

-- a put appended the first bytes, at least one; at a fault the same is held
abbrev pub Puts : Option (List ℕ) → Option (List ℕ) → Result ℕ IoFault → List ℕ → Type 0
Puts old new result bytes = MatchResult result
    (λ n. (1 ≤ n) × (n ≤ length bytes) × (new ≡ with_bytes old (take n bytes)))
    (λ _. new ≡ old)

-- the known bytes grew by all of these
abbrev pub GrewBy : Option (List ℕ) → Option (List ℕ) → List ℕ → Type 0
GrewBy old new bytes = new ≡ with_bytes old bytes

-- the known bytes grew by the first ones of these, and not by all
pub record GrewByPart (old new : Option (List ℕ)) (bytes : List ℕ) : Type 0 where
  pub count : ℕ
  pub short : count < length bytes
  pub held : new ≡ with_bytes old (take count bytes)

-- the known bytes grew by a line, or by a first part of it, and then one of two counts rose
abbrev pub Reported : Option (List ℕ) → Option (List ℕ) → List ℕ → ℕ → ℕ → ℕ → ℕ → Type 0
Reported old new line faults faults_after wants wants_after =
    GrewBy old new line ⊎ (GrewByPart old new line × (Rose faults faults_after ⊎ Rose wants wants_after))

-- what is told after was told before, and the two are tied so
abbrev pub Tells : {A : Type 0} → Option A → Option A → (A → A → Type 0) → Type 0
Tells old None tied = ⊤
Tells None (Some y) tied = ⊥
Tells (Some x) (Some y) tied = tied x y
