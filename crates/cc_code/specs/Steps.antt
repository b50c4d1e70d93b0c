-- What a process does step by step.
use Rattle.std.specs.Prelude.{ℕ, zero, suc, ◌+◌, ◌-◌, ◌*◌, ℤ, pos, List, [], ◌∷◌, ◌++◌, length, take, drop, replicate, slice_get, Option, Some, None, nat_le, nat_lt, Bool, true, false, if◌then◌else◌}
use Rattle.cc_base.specs.Limits.{most_calls, most_cells, most_steps}
use Rattle.cc_base.specs.Outcome.{Left, Outcome, Through, Asked}
use Rattle.cc_base.specs.declared.names.FaultKind.TheVariants.{Cells, Depth, Index}
use Rattle.cc_base.specs.declared.request.Grant.{Grant}
use Rattle.cc_base.specs.declared.request.Request.{Request}
use Rattle.cc_base.specs.declared.request.Request.TheVariants.{Pause, Done, Fault}
use Rattle.cc_code.specs.Operands.{takes}
use Rattle.cc_code.specs.Works.{Next, Store, first, works}
use Rattle.cc_code.specs.declared.code.Part.{Part}
use Rattle.cc_code.specs.declared.code.RawCode.{RawCode}
use Rattle.cc_code.specs.declared.instr.Instr.{Instr}
use Rattle.cc_code.specs.declared.instr.Instr.TheVariants as instr

-- where it goes on, the instruction spent a tick or got a grant
abbrev pub renews : Instr → Bool
renews instr.Tick = true
renews (instr.Create kind) = true
renews (instr.Ask t) = true
renews (instr.AskWithin t a) = true
renews (instr.Send t) = true
renews (instr.SelWait j) = true
renews instr.Wait = true
renews (instr.Reply n) = true
renews instr.PutByte = true
renews instr.GetByte = true
renews (instr.Format f) = true
renews i = false

-- a call that is active: where it goes back, and the caller's operand stack and variable cells
pub record Frame : Type 0 where
  pub back : ℕ
  pub stack : List ℤ
  pub cells : List ℤ

pub record State : Type 0 where
  -- the address of the instruction that is next
  pub address : ℕ
  -- the operand stack of the part that runs, its top last
  pub stack : List ℤ
  pub store : Store
  pub left : Left
  -- the instructions since the last grant or tick
  pub count : ℕ
  -- the active calls, the latest first
  pub frames : List Frame

-- what comes of code: a request, the value at the end of a pure fragment, or that an instruction or an operand is missing,
-- which verified code never meets
pub data Ran : Type 0 where
  Asks : Request → Ran
  Yields : ℤ → Ran
  Strays : Ran

pub data Stepped : Type 0 where
  Goes : State → Stepped
  Stops : Ran → Stepped

abbrev pub popped_if : Bool → ℕ → List ℤ → (List ℤ → List ℤ → Stepped) → Stepped
popped_if true n stack go = go (drop (length stack - n) stack) (take (length stack - n) stack)
popped_if false n stack go = Stops Strays

-- goes on with the n cells on the top, in order, and the stack below them
unfoldable pub popped : ℕ → List ℤ → (List ℤ → List ℤ → Stepped) → Stepped
popped n stack go = popped_if (nat_le n (length stack)) n stack go

abbrev pub counted : Bool → ℕ → ℕ
counted true n = 0
counted false n = suc n

-- after an instruction that took its cells off this stack and worked
abbrev pub after : Bool → State → List ℤ → Outcome Store Next → Stepped
after renewed s below (Through next store left) =
    Goes (record { address = next.address; stack = below ++ next.given; store = store; left = left; count = counted renewed s.count; frames = s.frames })
after renewed s below (Asked request) = Stops (Asks request)

abbrev pub worked_on : RawCode → Instr → State → List ℤ → List ℤ → Stepped
worked_on k i s vs below = after (renews i) s below (works k (s.address + 1) i vs s.store s.left)

abbrev pub worked : RawCode → Instr → State → Stepped
worked k i s = popped (takes k i) s.stack (worked_on k i s)

-- the variable cells of the active calls' callers
abbrev pub cells_below : List Frame → ℕ
cells_below [] = 0
cells_below (f ∷ frames) = length f.cells + cells_below frames

-- the variable cells of a part as it begins
abbrev pub cells_at_start : Part → List ℤ → List ℤ
cells_at_start p args = args ++ replicate (p.cells - p.args) (pos 0)

abbrev pub called_with : Part → State → List ℤ → List ℤ → Stepped
called_with p s args below =
    Goes (record { address = p.entry; stack = []; store = record { cells = cells_at_start p args; offers = s.store.offers }; left = s.left; count = suc s.count; frames = record { back = s.address + 1; stack = below; cells = s.store.cells } ∷ s.frames })

-- a call, unless too many calls are active, or too many variable cells would be, or the part lacks cells for its arguments
abbrev pub called_if : Bool → Bool → Bool → Part → State → Stepped
called_if true many lacks p s = Stops (Asks (Fault Depth))
called_if false true lacks p s = Stops (Asks (Fault Cells))
called_if false false true p s = Stops (Asks (Fault Index))
called_if false false false p s = popped p.args s.stack (called_with p s)

abbrev pub called : Option Part → State → Stepped
called None s = Stops Strays
called (Some p) s =
    called_if (nat_le most_calls (length s.frames)) (nat_lt most_cells (length s.store.cells + cells_below s.frames + p.cells)) (nat_lt p.cells p.args) p s

-- back behind the call, with these cells
abbrev pub returned_to : List Frame → State → List ℤ → Stepped
returned_to [] s vs = Stops Strays
returned_to (f ∷ frames) s vs =
    Goes (record { address = f.back; stack = f.stack ++ vs; store = record { cells = f.cells; offers = s.store.offers }; left = s.left; count = suc s.count; frames = frames })

abbrev pub performed : RawCode → Instr → State → Stepped
performed k (instr.Call f) s = called (slice_get k.functions f) s
performed k (instr.Ret n) s = popped n s.stack (λ vs below. returned_to s.frames s vs)
performed k instr.Yield s = popped 1 s.stack (λ vs below. Stops (Yields (first vs)))
performed k instr.End s = Stops (Asks Done)
performed k i s = worked k i s

-- code that would go on after more instructions than the most since the last grant or tick is at fault
abbrev pub within_bound : Stepped → Stepped
within_bound (Goes s) = if nat_le s.count most_steps then Goes s else Stops (Asks (Fault Depth))
within_bound (Stops r) = Stops r

abbrev pub stepped : RawCode → Option Instr → State → Stepped
stepped k None s = Stops Strays
stepped k (Some i) s = within_bound (performed k i s)

-- one instruction
abbrev pub step : RawCode → State → Stepped
step k s = stepped k (slice_get k.instrs s.address) s

-- what comes of one instruction, and then of what goes on from there
abbrev pub and_on : (State → Ran) → Stepped → Ran
and_on go (Goes s) = go s
and_on go (Stops r) = r

-- at most n instructions; where n is enough, the bound is never reached
unfoldable pub run : RawCode → ℕ → State → Ran
run k zero s = Asks Pause
run k (suc n) s = and_on (run k n) (step k s)

-- the ticks and grants that are left, where a grant counts for more than the ticks that it gives
abbrev pub weight : Left → ℕ
weight left = left.ticks + 1001 * length left.grants

-- more instructions than can follow
abbrev pub enough : State → ℕ
enough s = suc ((most_steps - s.count) + (most_steps + 1) * weight s.left)

-- what comes of code from a state on
unfoldable pub goes_on : RawCode → State → Ran
goes_on k s = run k (enough s) s

-- the state with these grants left
abbrev pub with_grants : State → List Grant → State
with_grants s grants =
    record { address = s.address; stack = s.stack; store = s.store; left = record { grants = grants; ticks = s.left.ticks }; count = s.count; frames = s.frames }
