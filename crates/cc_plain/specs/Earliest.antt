-- The least of some numbers, as it is found.
use Rattle.std.specs.Prelude.{ℕ, min, List, [], ◌∷◌, Option, Some, None}

-- the lesser of two, where both are there
abbrev pub lesser : Option ℕ → Option ℕ → Option ℕ
lesser None b = b
lesser (Some n) None = Some n
lesser (Some n) (Some k) = Some (min n k)

-- the least of these; none where there is none
abbrev pub earliest : List ℕ → Option ℕ
earliest [] = None
earliest (n ∷ ns) = lesser (Some n) (earliest ns)
