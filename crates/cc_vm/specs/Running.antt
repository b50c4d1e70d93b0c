-- When the machine is ready for its next instruction, and what comes of it.
use Rattle.std.specs.Prelude.{◌≡◌, ℕ, ◌+◌, ◌-◌, ◌*◌, ◌<◌, ◌≤◌, ℤ, List, [], ◌++◌, length, take, slice_get, Option, Some, None}
use Rattle.cc_base.specs.Limits.{most_cells, most_steps}
use Rattle.cc_base.specs.declared.alternatives.Alt.{Alt}
use Rattle.cc_base.specs.declared.request.Grant.{Grant}
use Rattle.cc_base.specs.declared.request.Request.TheVariants as request
use Rattle.cc_code.specs.Operands.{gives, takes}
use Rattle.cc_code.specs.Rules.{height_at}
use Rattle.cc_code.specs.Standing.{Kind, Stands}
use Rattle.cc_code.specs.Steps.{Asks, Goes, Ran, State, Stops, goes_on, step, with_grants, within_bound}
use Rattle.cc_code.specs.declared.code.Part.{Part}
use Rattle.cc_code.specs.declared.code.RawCode.{RawCode}
use Rattle.cc_code.specs.declared.instr.Instr.{Instr}
use Rattle.cc_code.specs.declared.instr.Instr.TheVariants as instr
use Rattle.cc_vm.specs.Machine.{AreCallers, state_of}
use Rattle.cc_vm.specs.declared.registers.Frame.{Frame}
use Rattle.cc_vm.specs.declared.registers.Registers.{Registers}
use Rattle.cc_vm.specs.declared.registers.Stop.{Stop}
use Rattle.cc_vm.specs.declared.registers.Stop.TheVariants.{Fault, Other, Room}

-- so many cells are enough for the operands of a part before and after each instruction
abbrev pub IsRoom : RawCode → ℕ → Type 0
IsRoom k room = (at : ℕ) (i : Instr) → slice_get k.instrs at ≡ Some i → (height_at k at ≤ room) × (height_at k at - takes k i + gives k i ≤ room)

-- the parts lie one above the other in the lists, and the one that runs has room for its operands
pub record Lies (room : ℕ) (S C : List ℤ) (F : List Frame) (r : Registers) : Type 0 where
  pub callers : AreCallers F r.calls (take r.bottom S) (take r.first C)
  pub operands : r.bottom + room ≤ length S
  pub bottom : r.bottom ≤ r.top
  pub top : r.top ≤ length S
  pub first : r.first ≤ r.end
  pub end : r.end ≤ length C
  pub most : r.end ≤ most_cells
  pub calls : r.calls ≤ length F

-- so, and verified code says that the instruction finds its operands
pub record Ready (k : RawCode) (room : ℕ) (S C : List ℤ) (F : List Frame) (r : Registers) : Type 0 where
  pub stands : Stands k Kind (state_of r S C F [])
  pub lies : Lies room S C F r
  pub few : r.count ≤ most_steps

-- what the instruction that is next finds besides its operands
abbrev pub Finds : RawCode → Registers → List Frame → Instr → Type 0
Finds k r F (instr.Call f) = (f < length k.functions) × ((p : Part) → slice_get k.functions f ≡ Some p → p.args ≤ r.top)
Finds k r F (instr.Ret n) = (0 < r.calls) × (r.calls ≤ length F)
Finds k r F i = Unit {0}

-- one instruction, but for the bound: it goes on as the code does, stops with the code's fault, or has changed nothing
abbrev pub Moves : RawCode → ℕ → List ℤ → List ℤ → List Frame → Registers → List ℤ → List ℤ → List Frame → Registers → Option Stop → Type 0
Moves k room S C F r S' C' F' r' None =
    ((offers : List (ℕ × Alt)) (rest : List Grant)
    → step k (with_grants (state_of r S C F offers) rest) ≡ within_bound (Goes (with_grants (state_of r' S' C' F' offers) rest)))
    × Lies room S' C' F' r'
Moves k room S C F r S' C' F' r' (Some (Fault kind)) =
    (offers : List (ℕ × Alt)) (rest : List Grant) → step k (with_grants (state_of r S C F offers) rest) ≡ Stops (Asks (request.Fault kind))
Moves k room S C F r S' C' F' r' (Some stop) = (S' ≡ S) × (C' ≡ C) × (F' ≡ F) × (r' ≡ r)

-- what a process of code asks after these grants and more is what the code comes to from the state with those that are more
abbrev pub Follows : RawCode → (List Grant → Ran) → List Grant → State → Type 0
Follows k process fed s = (rest : List Grant) → process (fed ++ rest) ≡ goes_on k (with_grants s rest)

-- whatever process followed the state before follows that after
abbrev pub GoesOn : RawCode → List ℤ → List ℤ → List Frame → Registers → List ℤ → List ℤ → List Frame → Registers → Type 0
GoesOn k S C F r S' C' F' r' =
    (process : List Grant → Ran) (fed : List Grant) (offers : List (ℕ × Alt))
    → Follows k process fed (state_of r S C F offers) → Follows k process fed (state_of r' S' C' F' offers)

-- what comes of instructions up to a stop
abbrev pub RunsTo : RawCode → ℕ → List ℤ → List ℤ → List Frame → Registers → List ℤ → List ℤ → List Frame → Registers → Stop → Type 0
RunsTo k room S C F r S' C' F' r' (Fault kind) =
    (process : List Grant → Ran) (fed : List Grant) (offers : List (ℕ × Alt))
    → Follows k process fed (state_of r S C F offers) → process fed ≡ Asks (request.Fault kind)
RunsTo k room S C F r S' C' F' r' stop = Ready k room S' C' F' r' × GoesOn k S C F r S' C' F' r'

-- how many instructions may still come before the next grant
abbrev pub work : Registers → ℕ
work r = r.ticks * 131073 + (most_steps - r.count)

-- the loop does not perform it: it asks, opens an alternative or ends, or it is a `Tick` and no tick is left
abbrev pub IsLeft : Instr → ℕ → Type 0
IsLeft instr.Tick ticks = ticks ≡ 0
IsLeft (instr.Create kind) ticks = Unit {0}
IsLeft (instr.Ask t) ticks = Unit {0}
IsLeft (instr.AskWithin t a) ticks = Unit {0}
IsLeft (instr.Send t) ticks = Unit {0}
IsLeft instr.SelBegin ticks = Unit {0}
IsLeft (instr.OfferAccept i s) ticks = Unit {0}
IsLeft (instr.OfferAfter i) ticks = Unit {0}
IsLeft (instr.OfferNow i) ticks = Unit {0}
IsLeft (instr.OfferEnd i) ticks = Unit {0}
IsLeft (instr.SelWait j) ticks = Unit {0}
IsLeft instr.Wait ticks = Unit {0}
IsLeft (instr.Reply n) ticks = Unit {0}
IsLeft instr.PutByte ticks = Unit {0}
IsLeft instr.GetByte ticks = Unit {0}
IsLeft (instr.Format f) ticks = Unit {0}
IsLeft instr.Yield ticks = Unit {0}
IsLeft instr.End ticks = Unit {0}
IsLeft i ticks = ⊥

abbrev pub IsLeftAt : RawCode → Registers → Type 0
IsLeftAt k r = (i : Instr) → slice_get k.instrs r.at ≡ Some i → IsLeft i r.ticks

-- where an instruction stops the loop, it is one that the loop does not perform
abbrev pub StopsLeft : RawCode → Registers → Option Stop → Type 0
StopsLeft k r (Some Other) = IsLeftAt k r
StopsLeft k r stop = Unit {0}

-- where it stops before an instruction, no more may come than before
abbrev pub FallsTo : RawCode → Registers → Registers → Stop → Type 0
FallsTo k r r' (Fault kind) = Unit {0}
FallsTo k r r' Other = (work r' ≤ work r) × IsLeftAt k r'
FallsTo k r r' Room = work r' ≤ work r
