-- The open alternatives of a select.
use Rattle.std.specs.Prelude.{ℕ, ◌<◌, if◌then◌else◌, List, [], ◌∷◌, AllPairs, Option, Some, None, nat_eq}
use Rattle.cc_base.specs.declared.alternatives.Alt.{Alt}

-- each alternative has a smaller number than those after it
abbrev pub NumbersRise : List (ℕ × Alt) → Type 0
NumbersRise alts = AllPairs (λ a b. a.0 < b.0) alts

-- the alternative of this number
abbrev pub numbered : List (ℕ × Alt) → ℕ → Option Alt
numbered [] i = None
numbered (a ∷ alts) i = if nat_eq a.0 i then Some a.1 else numbered alts i
