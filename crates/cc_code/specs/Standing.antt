-- What holds of a process of verified code between two instructions.
use Rattle.std.specs.Prelude.{◌≡◌, ℕ, ℤ, zero, suc, ◌+◌, ◌-◌, ◌≤◌, ◌⊎◌, Bool, true, false, List, [], ◌∷◌, length, slice_get, Some}
use Rattle.cc_base.specs.Limits.{most_steps, ticks_granted}
use Rattle.cc_base.specs.Outcome.{Left}
use Rattle.cc_base.specs.declared.request.Grant.{Grant}
use Rattle.cc_base.specs.declared.request.Grant.TheVariants.{Value}
use Rattle.cc_base.specs.declared.request.Request.{Request}
use Rattle.cc_base.specs.declared.request.Request.TheVariants.{Fault}
use Rattle.cc_code.specs.Control.{InFragment, InKind, InPart}
use Rattle.cc_code.specs.Operands.{gives}
use Rattle.cc_code.specs.Rules.{IsAddress, height_at}
use Rattle.cc_code.specs.Steps.{Frame, State, Ran, Stepped, Goes, Stops, Asks, Yields, Strays, renews, step}
use Rattle.cc_code.specs.declared.code.Part.{Part}
use Rattle.cc_code.specs.declared.code.RawCode.{RawCode}
use Rattle.cc_code.specs.declared.instr.Instr.{Instr}
use Rattle.cc_code.specs.declared.instr.Instr.TheVariants as instr

-- what runs: the body of a kind of process, with the functions that it calls, or a pure fragment
pub data Runs : Type 0 where
  Kind : Runs
  Fragment : Runs

-- the address is in the part that runs, and each call that is active goes back into the part below it, where the height is
-- that of the caller's stack with the value of the function
abbrev pub GoBack : RawCode → ℕ → List Frame → Type 0
GoBack k at [] = InKind k at
GoBack k at (f ∷ frames) =
    (n : ℕ) × (p : Part) × (slice_get k.functions n ≡ Some p) × InPart k p.entry at × IsAddress k f.back
    × (height_at k f.back ≡ length f.stack + p.value) × GoBack k f.back frames

-- the same of what runs; a fragment makes no calls
abbrev pub IsWithin : RawCode → Runs → ℕ → List Frame → Type 0
IsWithin k Kind at frames = GoBack k at frames
IsWithin k Fragment at frames = InFragment k at × (frames ≡ [])

-- an instruction is next, and its operands are on the stack as the heights say
pub record Stands (k : RawCode) (b : Runs) (s : State) : Type 0 where
  pub address : IsAddress k s.address
  pub height : length s.stack ≡ height_at k s.address
  pub part : IsWithin k b s.address s.frames

abbrev pub AsksValue : Instr → Type 0
AsksValue (instr.Ask t) = Unit {0}
AsksValue (instr.AskWithin t a) = Unit {0}
AsksValue i = ⊥

-- where a call is next and is answered by a value, this has as many cells as the call gives
abbrev pub IsAnsweredInFull : RawCode → Instr → List Grant → Type 0
IsAnsweredInFull k i grants = AsksValue i → (cells : List ℤ) (rest : List Grant) → grants ≡ Value cells ∷ rest → length cells ≡ gives k i

abbrev pub NextIsAnsweredInFull : RawCode → State → Type 0
NextIsAnsweredInFull k s = (i : Instr) → slice_get k.instrs s.address ≡ Some i → IsAnsweredInFull k i s.left.grants

abbrev pub IsFault : Request → Type 0
IsFault (Fault kind) = Unit {0}
IsFault request = ⊥

-- what comes of verified code: of a kind a request, of a fragment its value or a fault
abbrev pub Ends : Runs → Ran → Type 0
Ends b Strays = ⊥
Ends Kind (Asks request) = Unit {0}
Ends Kind (Yields value) = ⊥
Ends Fragment (Asks request) = IsFault request
Ends Fragment (Yields value) = Unit {0}

-- it goes on so, or ends
abbrev pub StandsAfter : RawCode → Runs → Stepped → Type 0
StandsAfter k b (Goes s) = Stands k b s
StandsAfter k b (Stops r) = Ends b r

-- what comes of it is a request, or the value of a fragment
abbrev pub NeverStrays : Ran → Type 0
NeverStrays (Asks request) = Unit {0}
NeverStrays (Yields value) = Unit {0}
NeverStrays Strays = ⊥

abbrev pub Afterwards : (State → Type 0) → Stepped → Type 0
Afterwards P (Goes s) = P s
Afterwards P (Stops r) = Unit {0}

-- each call of the next n instructions that is answered by a value is given its cells
unfoldable pub AreAnsweredInFull : RawCode → ℕ → State → Type 0
AreAnsweredInFull k zero s = Unit {0}
AreAnsweredInFull k (suc n) s = NextIsAnsweredInFull k s × Afterwards (AreAnsweredInFull k n) (step k s)

-- the next grant is gone, and so many ticks are left
abbrev pub TakesGrant : ℕ → Left → Left → Type 0
TakesGrant ticks before after = (g : Grant) × (before.grants ≡ g ∷ after.grants) × (after.ticks ≡ ticks)

-- the grants are the same and the ticks one fewer; or none was left, and of those that the next grant gave one is gone
abbrev pub TakesTick : Left → Left → Type 0
TakesTick before after =
    ((after.grants ≡ before.grants) × (before.ticks ≡ after.ticks + 1)) ⊎ ((before.ticks ≡ 0) × TakesGrant (ticks_granted - 1) before after)

abbrev pub LeavesIf : Bool → Left → Left → Type 0
LeavesIf true before after = TakesGrant ticks_granted before after
LeavesIf false before after = after ≡ before

-- what an instruction that goes on leaves of the grants and ticks: a `Tick` takes a tick, one that asks takes a grant, which gives
-- ticks anew, and every other leaves all as it was
abbrev pub Leaves : Instr → Left → Left → Type 0
Leaves instr.Tick before after = TakesTick before after
Leaves i before after = LeavesIf (renews i) before after

abbrev pub CountsIf : Bool → ℕ → ℕ → Type 0
CountsIf true before after = after ≡ 0
CountsIf false before after = after ≡ before + 1

-- where an instruction goes on: what it leaves of the grants and ticks; and how many instructions came since the last of
-- either, which are never more than the most
abbrev pub Spends : Instr → State → Stepped → Type 0
Spends i s (Goes t) = Leaves i s.left t.left × CountsIf (renews i) s.count t.count × (t.count ≤ most_steps)
Spends i s (Stops r) = Unit {0}
