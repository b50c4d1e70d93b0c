-- What the machine keeps of a process, and what comes of it.
use Rattle.std.specs.Prelude.{◌≡◌, ℕ, ◌+◌, ◌-◌, ◌≤◌, ℤ, List, [], ◌++◌, length, Option, Some, None}
use Rattle.cc_base.specs.Limits.{ticks_granted}
use Rattle.cc_base.specs.declared.alternatives.Alt.{Alt}
use Rattle.cc_base.specs.declared.names.FaultKind.{FaultKind}
use Rattle.cc_code.specs.Steps.{State, cells_at_start}
use Rattle.cc_code.specs.declared.code.Part.{Part}
use Rattle.cc_code.specs.declared.code.RawCode.{RawCode}
use Rattle.cc_vm.specs.Machine.{state_of}
use Rattle.cc_vm.specs.Running.{GoesOn, IsLeftAt, Ready, RunsTo, work}
use Rattle.cc_vm.specs.declared.lists.Lists.{Lists}
use Rattle.cc_vm.specs.declared.registers.Registers.{Registers}
use Rattle.cc_vm.specs.declared.registers.Stop.{Stop}
use Rattle.cc_vm.specs.declared.registers.Stop.TheVariants.{Fault, Other}

-- the state that is kept, with these open alternatives
abbrev pub kept_state : Lists → List (ℕ × Alt) → State
kept_state l offers = state_of l.registers l.stack.items l.cells.items l.frames.items offers

abbrev pub IsReady : RawCode → ℕ → Lists → Type 0
IsReady k room l = Ready k room l.stack.items l.cells.items l.frames.items l.registers

-- whatever process followed the state before follows that after
abbrev pub GoOn : RawCode → Lists → Lists → Type 0
GoOn k a b = GoesOn k a.stack.items a.cells.items a.frames.items a.registers b.stack.items b.cells.items b.frames.items b.registers

abbrev pub RunsOn : RawCode → ℕ → Lists → Lists → Stop → Type 0
RunsOn k room a b stop =
    RunsTo k room a.stack.items a.cells.items a.frames.items a.registers b.stack.items b.cells.items b.frames.items b.registers stop

-- it runs up to a fault, or to an instruction that is none of the loop's
abbrev pub ComesTo : RawCode → ℕ → Lists → Lists → Option FaultKind → Type 0
ComesTo k room a b (Some kind) = RunsOn k room a b (Fault kind)
ComesTo k room a b None = RunsOn k room a b Other

-- where it comes to an instruction that the loop does not perform, no more may come than before
abbrev pub FallsIf : RawCode → Lists → Lists → Option FaultKind → Type 0
FallsIf k a b (Some kind) = Unit {0}
FallsIf k a b None = (work b.registers ≤ work a.registers) × IsLeftAt k b.registers

-- how long the lists are together
abbrev pub size : Lists → ℕ
size l = length l.stack.items + length l.cells.items + length l.frames.items

-- the same list with more at its end
abbrev pub Extends : {A : Type 0} → List A → List A → Type 0
Extends {A} old new = (more : List A) × (new ≡ old ++ more)

pub record Grows (old new : Lists) : Type 0 where
  pub stack : Extends old.stack.items new.stack.items
  pub cells : Extends old.cells.items new.cells.items
  pub frames : Extends old.frames.items new.frames.items
  pub registers : new.registers ≡ old.registers

-- where the registers stand as a part begins
abbrev pub first_registers : Part → Registers
first_registers p = record { at = p.entry; bottom = 0; top = 0; first = 0; end = p.cells; calls = 0; ticks = ticks_granted; count = 0 }

-- the part begins with these arguments, and with room for so many operands
pub record StartsWith (p : Part) (args : List ℤ) (room : ℕ) (l : Lists) : Type 0 where
  pub stack : length l.stack.items ≡ room
  pub cells : l.cells.items ≡ cells_at_start p args
  pub frames : l.frames.items ≡ []
  pub registers : l.registers ≡ first_registers p

-- the registers after the first of the ticks that a grant gives
abbrev pub ticked_again : Registers → Registers
ticked_again r = record r { at = r.at + 1; ticks = ticks_granted - 1; count = 0 }
