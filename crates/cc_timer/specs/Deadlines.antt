-- Deadlines, in the order in which they are due.
use Rattle.std.specs.Prelude.{◌≡◌, ℕ, Bool, true, false, ◌&&◌, ◌||◌, if◌then◌else◌, List, [], ◌∷◌, Option, Some, None, filter, nat_eq, nat_lt, All, Contains}
use Rattle.cc_timer.specs.declared.who.Who.{Who}
use Rattle.cc_timer.specs.declared.who.Who.TheVariants.{Process, Call}

-- the deadlines that stand, each a moment and who waits for it, in order, and for how many more there is room
pub record Deadlines : Type 0 where
  pub pairs : List (ℕ × Who)
  pub spare : ℕ

-- processes go before calls, each by number
abbrev pub is_named_before : Who → Who → Bool
is_named_before (Process p) (Process q) = nat_lt p.0 q.0
is_named_before (Process p) (Call c) = true
is_named_before (Call c) (Process p) = false
is_named_before (Call c) (Call d) = nat_lt c.0 d.0

-- d is due before e: at an earlier moment, or at the same one and for one who goes before
unfoldable pub is_due_before : ℕ × Who → ℕ × Who → Bool
is_due_before d e = nat_lt d.0 e.0 || nat_eq d.0 e.0 && is_named_before d.1 e.1

-- d is due before each of these
abbrev pub IsBeforeAll : ℕ × Who → List (ℕ × Who) → Type 0
IsBeforeAll d [] = Unit {0}
IsBeforeAll d (e ∷ es) = (is_due_before d e ≡ true) × IsBeforeAll d es

-- each is due before those after it
abbrev pub AreInOrder : List (ℕ × Who) → Type 0
AreInOrder [] = Unit {0}
AreInOrder (d ∷ ds) = IsBeforeAll d ds × AreInOrder ds

-- the deadlines with d in its place, where it is not there yet
abbrev pub with_deadline : ℕ × Who → List (ℕ × Who) → List (ℕ × Who)
with_deadline d [] = d ∷ []
with_deadline d (e ∷ es) =
    if is_due_before d e then d ∷ e ∷ es else (if is_due_before e d then e ∷ with_deadline d es else e ∷ es)

-- the deadlines but for d: of two that differ, one is due before the other
abbrev pub without_deadline : ℕ × Who → List (ℕ × Who) → List (ℕ × Who)
without_deadline d ds = filter (λ e. is_due_before d e || is_due_before e d) ds

-- d stands, and none is due before it
abbrev pub IsFirst : ℕ × Who → List (ℕ × Who) → Type 0
IsFirst d ds = Contains ds d × All (λ e. is_due_before e d ≡ false) ds

-- the first of a list
abbrev pub first : List (ℕ × Who) → Option (ℕ × Who)
first [] = None
first (d ∷ ds) = Some d
