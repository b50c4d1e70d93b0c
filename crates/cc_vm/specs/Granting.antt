-- What comes of an instruction that asked, and of the grant that answers it.
use Rattle.std.specs.Prelude.{◌≡◌, ℕ, ◌+◌, ◌-◌, ◌≤◌, ℤ, pos, List, [], ◌∷◌, ◌++◌, length, slice_get, Option, Some, None, Result, Ok, Err}
use Rattle.cc_base.specs.Formats.{conversions, formatted}
use Rattle.cc_base.specs.Granted.{byte_got, process_made}
use Rattle.cc_base.specs.Limits.{ticks_granted}
use Rattle.cc_base.specs.Numbers.{byte_of, callee}
use Rattle.cc_base.specs.declared.names.Pid.{Pid}
use Rattle.cc_base.specs.declared.alternatives.Alt.{Alt}
use Rattle.cc_base.specs.declared.names.FaultKind.{FaultKind}
use Rattle.cc_base.specs.declared.names.FaultKind.TheVariants.{CalleeGone}
use Rattle.cc_base.specs.declared.request.Grant.{Grant}
use Rattle.cc_base.specs.declared.request.Grant.TheVariants as grant
use Rattle.cc_base.specs.declared.request.Request.TheVariants as request
use Rattle.cc_code.specs.Operands.{format_at, gives, shape_at, takes}
use Rattle.cc_code.specs.Steps.{Asks, Ran}
use Rattle.cc_code.specs.Works.{with_cells}
use Rattle.cc_code.specs.declared.code.RawCode.{RawCode}
use Rattle.cc_code.specs.declared.instr.Instr.{Instr}
use Rattle.cc_code.specs.declared.instr.Instr.TheVariants as instr
use Rattle.cc_vm.specs.Lists.{IsReady, kept_state}
use Rattle.cc_vm.specs.Machine.{between, cell_of}
use Rattle.cc_vm.specs.Running.{Follows}
use Rattle.cc_vm.specs.declared.lists.Lists.{Lists}
use Rattle.cc_vm.specs.declared.registers.Registers.{Registers}

-- on at an address with the operands up to a place, and with ticks anew
abbrev pub granted : Registers → ℕ → ℕ → Registers
granted r at top = record r { at = at; top = top; ticks = ticks_granted; count = 0 }

-- these cells take the place of the operands, and it goes on at an address
pub record Gives (given : List ℤ) (taken at : ℕ) (a b : Lists) : Type 0 where
  pub stack : b.stack.items ≡ with_cells (a.registers.top - taken) given a.stack.items
  pub cells : b.cells.items ≡ a.cells.items
  pub frames : b.frames.items ≡ a.frames.items
  pub registers : b.registers ≡ granted a.registers at (a.registers.top - taken + length given)

-- the value that answers a call finds room in the place of the operands
abbrev pub HasRoomToAnswer : Lists → ℕ → Grant → Type 0
HasRoomToAnswer a taken (grant.Value cells) = a.registers.top - taken + length cells ≤ length a.stack.items
HasRoomToAnswer a taken g = Unit {0}

-- what a call makes of the grant that answers it
abbrev pub Answered : ℕ → ℕ → Grant → Lists → Lists → Option FaultKind → Type 0
Answered taken at (grant.Value cells) a b o = (o ≡ None) × Gives cells taken at a b
Answered taken at grant.Gone a b o = o ≡ Some CalleeGone
Answered taken at g a b o = Unit {0}

abbrev pub AnsweredInTime : ℕ → ℕ → ℕ → Grant → Lists → Lists → Option FaultKind → Type 0
AnsweredInTime taken at late grant.Late a b o = (o ≡ None) × Gives [] taken late a b
AnsweredInTime taken at late g a b o = Answered taken at g a b o

-- so, without a fault
abbrev pub GoesWith : RawCode → Instr → List ℤ → ℕ → Lists → Lists → Option FaultKind → Type 0
GoesWith k i given at a b o = (o ≡ None) × Gives given (takes k i) at a b

-- what each instruction makes of a grant that may answer it; of others nothing is said
abbrev pub Granted : RawCode → Instr → Grant → Lists → Lists → Option FaultKind → Type 0
Granted k (instr.Create kind) g a b o = GoesWith k (instr.Create kind) (process_made g ∷ []) (a.registers.at + 1) a b o
Granted k (instr.Ask t) g a b o = Answered (takes k (instr.Ask t)) (a.registers.at + 1) g a b o
Granted k (instr.AskWithin t late) g a b o = AnsweredInTime (takes k (instr.AskWithin t late)) (a.registers.at + 1) late g a b o
Granted k (instr.Send t) g a b o = GoesWith k (instr.Send t) [] (a.registers.at + 1) a b o
Granted k instr.Wait g a b o = GoesWith k instr.Wait [] (a.registers.at + 1) a b o
Granted k (instr.Reply n) g a b o = GoesWith k (instr.Reply n) [] (a.registers.at + 1) a b o
Granted k instr.PutByte g a b o = GoesWith k instr.PutByte (pos (byte_of (cell_of a.stack.items (a.registers.top - 1))) ∷ []) (a.registers.at + 1) a b o
Granted k instr.GetByte g a b o = GoesWith k instr.GetByte (byte_got g ∷ []) (a.registers.at + 1) a b o
Granted k (instr.Format f) g a b o =
    GoesWith k (instr.Format f)
    (pos (length (formatted (format_at k f) (between (a.registers.top - conversions (format_at k f)) a.registers.top a.stack.items))) ∷ [])
    (a.registers.at + 1) a b o
Granted k i g a b o = Unit {0}

-- the value that answers a call has its cells
abbrev pub IsFull : RawCode → Instr → Grant → Type 0
IsFull k (instr.Ask t) (grant.Value cells) = length cells ≡ gives k (instr.Ask t)
IsFull k (instr.AskWithin t late) (grant.Value cells) = length cells ≡ gives k (instr.AskWithin t late)
IsFull k i g = Unit {0}

-- whatever process asked in the first state goes on from the second after this grant, or is at fault
abbrev pub Resumes : RawCode → ℕ → Grant → Lists → Lists → Option FaultKind → Type 0
Resumes k room g a b None =
    IsReady k room b
    × ((process : List Grant → Ran) (fed : List Grant) (offers : List (ℕ × Alt))
    → Follows k process fed (kept_state a offers) → Follows k process (fed ++ g ∷ []) (kept_state b offers))
Resumes k room g a b (Some kind) =
    (process : List Grant → Ran) (fed : List Grant) (offers : List (ℕ × Alt))
    → Follows k process fed (kept_state a offers) → process (fed ++ g ∷ []) ≡ Asks (request.Fault kind)

-- there is a process of the number that stands below the arguments of a call
abbrev pub IsCalled : RawCode → Lists → ℕ → Type 0
IsCalled k a t = (target : Pid) × (callee (cell_of a.stack.items (a.registers.top - (shape_at k t).args - 1)) ≡ Ok target)

-- the grant may answer what the instruction asks, which is no fault
abbrev pub MayAnswer : RawCode → Lists → Instr → Grant → Type 0
MayAnswer k a (instr.Ask t) (grant.Value cells) = IsCalled k a t
MayAnswer k a (instr.Ask t) grant.Gone = IsCalled k a t
MayAnswer k a (instr.Ask t) g = ⊥
MayAnswer k a (instr.AskWithin t late) (grant.Value cells) = IsCalled k a t
MayAnswer k a (instr.AskWithin t late) grant.Gone = IsCalled k a t
MayAnswer k a (instr.AskWithin t late) grant.Late = IsCalled k a t
MayAnswer k a (instr.AskWithin t late) g = ⊥
MayAnswer k a (instr.Send t) g = IsCalled k a t
MayAnswer k a (instr.Create kind) g = Unit {0}
MayAnswer k a instr.Wait g = Unit {0}
MayAnswer k a (instr.Reply n) g = Unit {0}
MayAnswer k a instr.PutByte g = Unit {0}
MayAnswer k a instr.GetByte g = Unit {0}
MayAnswer k a (instr.Format f) g = Unit {0}
MayAnswer k a i g = ⊥
