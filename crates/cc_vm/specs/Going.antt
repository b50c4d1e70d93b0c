-- What a process asks that stands before an instruction, and how it goes on with the grant that answers.
use Rattle.std.specs.Prelude.{◌≡◌, ℕ, ◌<◌, List, [], ◌∷◌, ◌++◌, slice_get, ◌⊎◌, Option, Some, None}
use Rattle.cc_base.specs.declared.alternatives.Alt.{Alt}
use Rattle.cc_base.specs.declared.names.FaultKind.{FaultKind}
use Rattle.cc_base.specs.declared.names.FaultKind.TheVariants.{NoAlternative}
use Rattle.cc_base.specs.declared.request.Grant.{Grant}
use Rattle.cc_base.specs.declared.request.Request.{Request}
use Rattle.cc_base.specs.declared.request.Request.TheVariants as request
use Rattle.cc_code.specs.Standing.{IsFault}
use Rattle.cc_code.specs.Steps.{Asks, Ran}
use Rattle.cc_code.specs.declared.code.RawCode.{RawCode}
use Rattle.cc_code.specs.declared.instr.Instr.{Instr}
use Rattle.cc_code.specs.declared.instr.Instr.TheVariants as instr
use Rattle.cc_vm.specs.Asking.{Requested}
use Rattle.cc_vm.specs.Granting.{Granted}
use Rattle.cc_vm.specs.Lists.{IsReady, kept_state, ticked_again}
use Rattle.cc_vm.specs.Offering.{AllFollow}
use Rattle.cc_vm.specs.Running.{Follows, work}
use Rattle.cc_vm.specs.Selecting.{Selected}
use Rattle.cc_vm.specs.declared.lists.Lists.{Lists}

-- a select of these alternatives
abbrev pub selecting : List (ℕ × Alt) → Request
selecting [] = request.Fault NoAlternative
selecting (a ∷ alts) = request.Select (a ∷ alts)

-- the instruction asks this; the alternatives that are open are those that are kept, or those of the select, which keeps none
abbrev pub Awaits : RawCode → Lists → List (ℕ × Alt) → List (ℕ × Alt) → Instr → Request → Type 0
Awaits k l alts offers instr.Tick q = (l.registers.ticks ≡ 0) × (q ≡ request.Pause) × (alts ≡ offers)
Awaits k l alts offers (instr.SelWait j) q = (q ≡ selecting offers) × (alts ≡ [])
Awaits k l alts offers i q = Requested k i l.stack.items l.registers.top (Some q) × (alts ≡ offers)

-- it asks by what stands on the stack, or ends
abbrev pub IsAsking : Instr → Type 0
IsAsking (instr.Create kind) = Unit {0}
IsAsking (instr.Ask t) = Unit {0}
IsAsking (instr.AskWithin t a) = Unit {0}
IsAsking (instr.Send t) = Unit {0}
IsAsking instr.Wait = Unit {0}
IsAsking (instr.Reply n) = Unit {0}
IsAsking instr.PutByte = Unit {0}
IsAsking instr.GetByte = Unit {0}
IsAsking (instr.Format f) = Unit {0}
IsAsking instr.End = Unit {0}
IsAsking i = ⊥

-- the process stands before an instruction that asks this
pub record Pends (k : RawCode) (room : ℕ) (l : Lists) (alts offers : List (ℕ × Alt)) (i : Instr) (q : Request) : Type 0 where
  pub ready : IsReady k room l
  pub here : slice_get k.instrs l.registers.at ≡ Some i
  pub awaits : Awaits k l alts offers i q

-- what comes of all processes of which this is so, that ask the same: nothing more, or what the lists keep
abbrev pub Comes : RawCode → ℕ → ((List Grant → Ran) → List Grant → Type 0) → Lists → List (ℕ × Alt) → Request → Type 0
Comes k room So l alts q =
    ((process : List Grant → Ran) (fed : List Grant) → So process fed → process fed ≡ Asks q)
    × (IsFault q
    ⊎ ((offers : List (ℕ × Alt)) × (i : Instr) × Pends k room l alts offers i q
    × ((process : List Grant → Ran) (fed : List Grant) → So process fed → Follows k process fed (kept_state l offers))))

-- the process followed a state that is kept before this grant
abbrev pub IsAfter : RawCode → Lists → List (ℕ × Alt) → Grant → (List Grant → Ran) → List Grant → Type 0
IsAfter k a offers g process fed = (before : List Grant) × (fed ≡ before ++ g ∷ []) × Follows k process before (kept_state a offers)

abbrev pub GoesOn : RawCode → ℕ → Lists → List (ℕ × Alt) → Grant → Lists → List (ℕ × Alt) → Request → Type 0
GoesOn k room a offers g b alts q = Comes k room (IsAfter k a offers g) b alts q

-- up to what is asked, or past one more instruction, after which less may come than before
abbrev pub Advances : RawCode → ℕ → Lists → List (ℕ × Alt) → Lists → List (ℕ × Alt) → Option Request → Type 0
Advances k room a xs b ys None = IsReady k room b × AllFollow k a xs b ys × (work b.registers < work a.registers)
Advances k room a xs b ys (Some q) = Comes k room (λ process fed. Follows k process fed (kept_state a xs)) b ys q

-- the first of the ticks that a grant gives is spent
pub record TicksAgain (a b : Lists) : Type 0 where
  pub stack : b.stack.items ≡ a.stack.items
  pub cells : b.cells.items ≡ a.cells.items
  pub frames : b.frames.items ≡ a.frames.items
  pub registers : b.registers ≡ ticked_again a.registers

-- what the grant that answers the instruction makes of the lists
abbrev pub Answered : RawCode → Instr → Grant → Lists → Lists → Option FaultKind → Type 0
Answered k instr.Tick g a b o = (o ≡ None) × TicksAgain a b
Answered k (instr.SelWait j) g a b o = Selected k j g a b o
Answered k i g a b o = Granted k i g a b o

-- it goes on with the alternatives that are kept, or is at fault
abbrev pub Resumed : RawCode → ℕ → Lists → List (ℕ × Alt) → Grant → Lists → List (ℕ × Alt) → Option FaultKind → Type 0
Resumed k room a offers g b alts None =
    IsReady k room b × ((process : List Grant → Ran) (fed : List Grant) → IsAfter k a offers g process fed → Follows k process fed (kept_state b alts))
Resumed k room a offers g b alts (Some kind) =
    (process : List Grant → Ran) (fed : List Grant) → IsAfter k a offers g process fed → process fed ≡ Asks (request.Fault kind)
