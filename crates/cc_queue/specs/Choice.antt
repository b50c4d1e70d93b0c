-- Which call an accept takes.
use Rattle.std.specs.Prelude.{ℕ, ℤ, Bool, true, false, ◌&&◌, ◌||◌, if◌then◌else◌, List, Option, Some, None, int_le, int_lt, nat_eq, nat_le}
use Rattle.std.specs.List.{list_all}
use Rattle.std.specs.Option.{option_map_or}
use Rattle.cc_base.specs.Meaning.{Meaning}
use Rattle.cc_base.specs.declared.names.CallId.{CallId}
use Rattle.cc_queue.specs.declared.call.PendingCall.{PendingCall}

-- the rank of a call for an accept of this transaction at this target: its fit at the site in the environment, where it is
-- a call of that target and transaction
abbrev pub rank : Meaning → ℕ → ℕ → ℕ → List ℤ → PendingCall → Option ℤ
rank m target trans site env call =
    if nat_eq call.target.0 target && nat_eq call.trans trans then m.fit site env call.args else None

-- a call of rank k and this number is the other one, or is taken before it: the other does not fit, has a greater rank, or
-- has the same rank and was asked later
abbrev pub goes_before : ℤ → ℕ → Option ℤ → ℕ → Bool
goes_before k number None other = true
goes_before k number (Some k') other = int_lt k k' || int_le k k' && nat_le number other

-- the call is chosen: it fits and goes before every other call
abbrev pub is_chosen : Meaning → ℕ → ℕ → ℕ → List ℤ → List PendingCall → PendingCall → Bool
is_chosen m target trans site env calls call =
    option_map_or
    (λ k. list_all (λ other. goes_before k call.number.0 (rank m target trans site env other) other.number.0) calls)
    (rank m target trans site env call)
    false

-- the better of the best call so far and one that was asked later, which may not fit
abbrev pub better : Option (CallId × ℤ) → CallId → Option ℤ → Option (CallId × ℤ)
better best number None = best
better None number (Some k) = Some (number, k)
better (Some found) number (Some k) = if int_le found.1 k then Some found else Some (number, k)
