-- The calls that each process serves, as a stack: in the order accepted, the innermost last.
use Rattle.std.specs.Prelude.{◌≡◌, ◌≢◌, ℕ, zero, suc, ◌+◌, ◌<◌, ◌≤◌, Bool, ◌&&◌, List, [], ◌∷◌, ◌++◌, Option, Some, None, IsSome, All, length, nat_eq, if◌then◌else◌}
use Rattle.std.specs.Map.{lookup}
use Rattle.cc_base.specs.Grants.{value_cells}
use Rattle.cc_base.specs.Meaning.{Meaning}
use Rattle.cc_kernel.specs.Lists.{ServedCalls}
use Rattle.cc_kernel.specs.declared.served.ServedCall.{ServedCall}

-- the same process, and as many calls around
abbrev pub is_place : ℕ × ℕ → ℕ × ℕ → Bool
is_place a b = nat_eq a.0 b.0 && nat_eq a.1 b.1

abbrev pub depth_of : Option ℕ → ℕ
depth_of None = 0
depth_of (Some depth) = depth

abbrev pub one_call : Option ServedCall → List ServedCall
one_call None = []
one_call (Some call) = call ∷ []

-- the outermost calls of a process, so many of them
abbrev pub outermost : (ℕ × ℕ → Option ServedCall) → ℕ → ℕ → List ServedCall
outermost calls p zero = []
outermost calls p (suc n) = outermost calls p n ++ one_call (calls (p, n))

-- the calls that each process serves
abbrev pub stacks : (ℕ × ℕ → Option ServedCall) → (ℕ → Option ℕ) → ℕ → List ServedCall
stacks calls depths p = outermost calls p (depth_of (depths p))

-- the calls that each process serves, as they are kept
abbrev pub served_by : ServedCalls → ℕ → List ServedCall
served_by c = stacks (λ q. lookup (is_place q) c.calls) (λ p. lookup (nat_eq p) c.depths)

-- each call stands in its place, no process serves more than the deepest, and there is room for so many more
pub record AreStacked (calls : ℕ × ℕ → Option ServedCall) (depths : ℕ → Option ℕ) (deepest spare calls_room depths_room : ℕ) : Type 0 where
  pub held : (p n : ℕ) → n < depth_of (depths p) → IsSome (calls (p, n))
  pub few : (p : ℕ) → depth_of (depths p) ≤ deepest
  pub room : spare ≤ calls_room
  pub room_of_depths : spare ≤ depths_room
  pub countable : deepest + spare ≤ 4294967295

-- the process serves one call more, within its others
abbrev pub one_more : (ℕ → List ServedCall) → ℕ → ServedCall → ℕ → List ServedCall
one_more served p call i = if nat_eq p i then served i ++ call ∷ [] else served i

-- the process serves no call any more
abbrev pub none_served : (ℕ → List ServedCall) → ℕ → ℕ → List ServedCall
none_served served p i = if nat_eq p i then [] else served i

-- the transaction of each call that is served exists
abbrev pub AreKnown : Meaning → (ℕ → List ServedCall) → Type 0
AreKnown m served = (p : ℕ) → All (λ call. call.trans < length m.shapes) (served p)

-- the value of each call that is served has at most so many cells
abbrev pub AreWithin : Meaning → ℕ → (ℕ → List ServedCall) → Type 0
AreWithin m most served = (p : ℕ) → All (λ call. value_cells m call.trans ≤ most) (served p)

-- the call is the innermost of this server at first, and then it is out
pub record IsInnermost (server : ℕ) (call : ServedCall) (old new : ℕ → List ServedCall) : Type 0 where
  pub own : old server ≡ new server ++ call ∷ []
  pub others : (p : ℕ) → p ≢ server → new p ≡ old p
