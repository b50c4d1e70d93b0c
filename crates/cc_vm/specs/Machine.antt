-- How the machine keeps a state of code: in lists of cells, and numbers that say where its parts stand in them.
use Rattle.std.specs.Prelude.{◌≡◌, ℕ, zero, suc, ◌+◌, ◌-◌, ◌*◌, ◌<◌, ◌≤◌, ℤ, pos, negsuc, Bool, true, false, ◌⊎◌, List, [], ◌∷◌, length, take, drop, replicate, get_or, slice_set, nat_le, nat_lt, Option, Some, None, Result, Ok, Err}
use Rattle.cc_base.specs.Limits.{most_calls, most_cells}
use Rattle.cc_base.specs.Numbers.{at_zero, compared, converted, indexed, logical_not, operated, opposite, truth, updated}
use Rattle.cc_base.specs.declared.alternatives.Alt.{Alt}
use Rattle.cc_base.specs.declared.names.FaultKind.{FaultKind}
use Rattle.cc_base.specs.declared.names.FaultKind.TheVariants.{Cells, Depth, Index}
use Rattle.cc_base.specs.declared.numbers.Comparison.TheVariants.{Less, AtMost, Greater, AtLeast, Equal, Different}
use Rattle.cc_base.specs.declared.numbers.NumberType.{NumberType}
use Rattle.cc_base.specs.declared.numbers.NumberType.TheVariants.{Int, Long}
use Rattle.cc_base.specs.declared.numbers.Operator.TheVariants.{Add, Subtract, Multiply, Divide, Remainder}
use Rattle.cc_code.specs.Steps as steps
use Rattle.cc_code.specs.Steps.{State}
use Rattle.cc_code.specs.Works.{further, is_within, with_cells}
use Rattle.cc_code.specs.declared.code.Part.{Part}
use Rattle.cc_code.specs.declared.instr.Instr.{Instr}
use Rattle.cc_code.specs.declared.instr.Instr.TheVariants as instr
use Rattle.cc_vm.specs.Fragments.{element_at}
use Rattle.cc_vm.specs.declared.registers.Frame.{Frame}
use Rattle.cc_vm.specs.declared.registers.Registers.{Registers}
use Rattle.cc_vm.specs.declared.registers.Stop.{Stop}
use Rattle.cc_vm.specs.declared.registers.Stop.TheVariants.{Fault, Other, Room}

-- the cells from one place up to before another
abbrev pub between : ℕ → ℕ → List ℤ → List ℤ
between from to cells = drop from (take to cells)

abbrev pub no_frame : Frame
no_frame = record { back = 0; bottom = 0; first = 0 }

-- the active calls, the latest first, over the operands and the variable cells below those of the part that runs
abbrev pub callers : List Frame → ℕ → List ℤ → List ℤ → List steps.Frame
callers frames zero stack cells = []
callers frames (suc n) stack cells =
    record { back = (get_or frames n no_frame).back; stack = drop (get_or frames n no_frame).bottom stack; cells = drop (get_or frames n no_frame).first cells }
    ∷ callers frames n (take (get_or frames n no_frame).bottom stack) (take (get_or frames n no_frame).first cells)

-- the frames stand one above the other
abbrev pub AreCallers : List Frame → ℕ → List ℤ → List ℤ → Type 0
AreCallers frames zero stack cells = (length stack ≡ 0) × (length cells ≡ 0)
AreCallers frames (suc n) stack cells =
    ((get_or frames n no_frame).bottom ≤ length stack) × ((get_or frames n no_frame).first ≤ length cells)
    × AreCallers frames n (take (get_or frames n no_frame).bottom stack) (take (get_or frames n no_frame).first cells)

-- the state that the machine keeps
abbrev pub state_of : Registers → List ℤ → List ℤ → List Frame → List (ℕ × Alt) → State
state_of r stack cells frames offers =
    record {
      address = r.at;
      stack = between r.bottom r.top stack;
      store = record { cells = between r.first r.end cells; offers = offers };
      left = record { grants = []; ticks = r.ticks };
      count = r.count;
      frames = callers frames r.calls (take r.bottom stack) (take r.first cells);
    }

-- the cell at a place of the stack
abbrev pub cell_of : List ℤ → ℕ → ℤ
cell_of stack place = get_or stack place (pos 0)

-- on at an address, with the operands up to a place
abbrev pub moved : Registers → ℕ → ℕ → Registers
moved r at top = record r { at = at; top = top; count = r.count + 1 }

-- these cells stand on the operands below a place, in place of what was there
abbrev pub Puts : List ℤ → ℕ → List ℤ → Registers → List ℤ → Registers → Option Stop → Type 0
Puts given place S r S' r' stop = (stop ≡ None) × (S' ≡ with_cells place given S) × (r' ≡ moved r (r.at + 1) (place + length given))

-- so does a number, unless it is a fault
abbrev pub Replaces : Result ℤ FaultKind → ℕ → List ℤ → Registers → List ℤ → Registers → Option Stop → Type 0
Replaces (Ok z) place S r S' r' stop = (stop ≡ None) × (S' ≡ slice_set S place z) × (r' ≡ moved r (r.at + 1) (place + 1))
Replaces (Err kind) place S r S' r' stop = stop ≡ Some (Fault kind)

-- these cells are put there, where a test holds
abbrev pub PutsIf : Bool → List ℤ → ℕ → List ℤ → Registers → List ℤ → Registers → Option Stop → Type 0
PutsIf true given place S r S' r' stop = Puts given place S r S' r' stop
PutsIf false given place S r S' r' stop = stop ≡ Some (Fault Index)

-- where so many variable cells from an offset on stand among the variables, if all are there
abbrev pub located_if : Bool → ℕ → Option ℕ
located_if true o = Some o
located_if false o = None

abbrev pub located : ℤ → ℕ → List ℤ → Option ℕ
located (pos o) n V = located_if (is_within o n V) o
located (negsuc m) n V = None

-- so many variable cells from there on are put on the operands
abbrev pub Fetches : Option ℕ → ℕ → List ℤ → ℕ → List ℤ → Registers → List ℤ → Registers → Option Stop → Type 0
Fetches (Some o) n V place S r S' r' stop = Puts (take n (drop o V)) place S r S' r' stop
Fetches None n V place S r S' r' stop = stop ≡ Some (Fault Index)

-- these variable cells are stored there, and put on the operands
abbrev pub Stores : Option ℕ → List ℤ → ℕ → List ℤ → List ℤ → Registers → List ℤ → List ℤ → Registers → Option Stop → Type 0
Stores (Some o) new place S C r S' C' r' stop = Puts new place S r S' r' stop × (C' ≡ with_cells (r.first + o) new C)
Stores None new place S C r S' C' r' stop = stop ≡ Some (Fault Index)

-- the old cell is put on the operands, and the new one stored
abbrev pub Updates : Result ℤ FaultKind → ℕ → ℕ → List ℤ → List ℤ → Registers → List ℤ → List ℤ → Registers → Option Stop → Type 0
Updates (Ok new) o place S C r S' C' r' stop = Replaces (Ok (get_or C (r.first + o) (pos 0))) place S r S' r' stop × (C' ≡ slice_set C (r.first + o) new)
Updates (Err kind) o place S C r S' C' r' stop = stop ≡ Some (Fault kind)

abbrev pub Bumps : NumberType → ℤ → Option ℕ → ℕ → List ℤ → List ℤ → Registers → List ℤ → List ℤ → Registers → Option Stop → Type 0
Bumps t d (Some o) place S C r S' C' r' stop = Updates (updated Add t Int (get_or C (r.first + o) (pos 0)) d) o place S C r S' C' r' stop
Bumps t d None place S C r S' C' r' stop = stop ≡ Some (Fault Index)

-- variable cells become 0
abbrev pub Clears : Option ℕ → ℕ → List ℤ → Registers → List ℤ → Registers → Option Stop → Type 0
Clears (Some o) n C r C' r' stop = (stop ≡ None) × (C' ≡ with_cells (r.first + o) (replicate n (pos 0)) C) × (r' ≡ moved r (r.at + 1) r.top)
Clears None n C r C' r' stop = stop ≡ Some (Fault Index)

-- the element of an index is put in the place of the array
abbrev pub PicksAt : Result ℕ FaultKind → ℕ → List ℤ → ℕ → List ℤ → Registers → List ℤ → Registers → Option Stop → Type 0
PicksAt (Ok i) s array place S r S' r' stop = Puts (take s (drop (i * s) array)) place S r S' r' stop
PicksAt (Err kind) s array place S r S' r' stop = stop ≡ Some (Fault kind)

-- a tick is spent, where one is left
abbrev pub Ticks : ℕ → Registers → Registers → Option Stop → Type 0
Ticks (suc n) r r' stop = (stop ≡ None) × (r' ≡ record r { at = r.at + 1; ticks = n; count = 0 })
Ticks zero r r' stop = (stop ≡ Some Other) × (r' ≡ r)

-- the operands of an instruction are there, and room for what it gives, where the operands end at a place of a stack of this size
abbrev pub HasPlace : Instr → ℕ → ℕ → Type 0
HasPlace (instr.Const v) top size = top < size
HasPlace (instr.Zeros n) top size = top + n ≤ size
HasPlace (instr.Drop n) top size = n ≤ top
HasPlace instr.Dup top size = (0 < top) × (top < size)
HasPlace (instr.Field n) top size = 0 < top
HasPlace (instr.Index l s) top size = 1 < top
HasPlace (instr.Fetch n) top size = (0 < top) × (top - 1 + n ≤ size)
HasPlace (instr.Put n) top size = n < top
HasPlace (instr.Bump t d) top size = 0 < top
HasPlace (instr.Part p n m) top size = n ≤ top
HasPlace (instr.Pick l s) top size = l * s < top
HasPlace (instr.Add t) top size = 1 < top
HasPlace (instr.Sub t) top size = 1 < top
HasPlace (instr.Mul t) top size = 1 < top
HasPlace (instr.Div t) top size = 1 < top
HasPlace (instr.Rem t) top size = 1 < top
HasPlace (instr.Neg t) top size = 0 < top
HasPlace instr.Lt top size = 1 < top
HasPlace instr.Le top size = 1 < top
HasPlace instr.Gt top size = 1 < top
HasPlace instr.Ge top size = 1 < top
HasPlace instr.Eq top size = 1 < top
HasPlace instr.Ne top size = 1 < top
HasPlace instr.Not top size = 0 < top
HasPlace (instr.Narrow t) top size = 0 < top
HasPlace (instr.JumpZero a) top size = 0 < top
HasPlace i top size = Unit {0}

-- the numbers of the registers are those of lists of these sizes
pub record AreWithin (r : Registers) (size cells : ℕ) : Type 0 where
  pub low : r.at < 65535
  pub few : r.count ≤ 131072
  pub top : r.top ≤ size
  pub first : r.first ≤ r.end
  pub end : r.end ≤ cells

-- what an instruction of the loop does with the operands, the variable cells and the registers; with the others it stops, and changes
-- nothing
abbrev pub Acts : Instr → List ℤ → List ℤ → Registers → List ℤ → List ℤ → Registers → Option Stop → Type 0
Acts (instr.Const v) S C r S' C' r' o = Replaces (Ok v) r.top S r S' r' o × (C' ≡ C)
Acts (instr.Zeros n) S C r S' C' r' o = Puts (replicate n (pos 0)) r.top S r S' r' o × (C' ≡ C)
Acts (instr.Drop n) S C r S' C' r' o = (o ≡ None) × (S' ≡ S) × (C' ≡ C) × (r' ≡ moved r (r.at + 1) (r.top - n))
Acts instr.Dup S C r S' C' r' o = Replaces (Ok (cell_of S (r.top - 1))) r.top S r S' r' o × (C' ≡ C)
Acts (instr.Field n) S C r S' C' r' o = Replaces (further (cell_of S (r.top - 1)) n) (r.top - 1) S r S' r' o × (C' ≡ C)
Acts (instr.Index l s) S C r S' C' r' o = Replaces (element_at l s (cell_of S (r.top - 2)) (cell_of S (r.top - 1))) (r.top - 2) S r S' r' o × (C' ≡ C)
Acts (instr.Fetch n) S C r S' C' r' o =
    Fetches (located (cell_of S (r.top - 1)) n (between r.first r.end C)) n (between r.first r.end C) (r.top - 1) S r S' r' o × (C' ≡ C)
Acts (instr.Put n) S C r S' C' r' o =
    Stores (located (cell_of S (r.top - n - 1)) n (between r.first r.end C)) (between (r.top - n) r.top S) (r.top - n - 1) S C r S' C' r' o
Acts (instr.Bump t d) S C r S' C' r' o = Bumps t d (located (cell_of S (r.top - 1)) 1 (between r.first r.end C)) (r.top - 1) S C r S' C' r' o
Acts (instr.Zero z n) S C r S' C' r' o = Clears (located (pos z) n (between r.first r.end C)) n C r C' r' o × (S' ≡ S)
Acts (instr.Part p n m) S C r S' C' r' o = PutsIf (nat_le (p + m) n) (take m (drop p (between (r.top - n) r.top S))) (r.top - n) S r S' r' o × (C' ≡ C)
Acts (instr.Pick l s) S C r S' C' r' o =
    PicksAt (indexed l (cell_of S (r.top - 1))) s (between (r.top - (l * s + 1)) r.top S) (r.top - (l * s + 1)) S r S' r' o × (C' ≡ C)
Acts (instr.Add t) S C r S' C' r' o = Replaces (operated Add t (cell_of S (r.top - 2)) (cell_of S (r.top - 1))) (r.top - 2) S r S' r' o × (C' ≡ C)
Acts (instr.Sub t) S C r S' C' r' o = Replaces (operated Subtract t (cell_of S (r.top - 2)) (cell_of S (r.top - 1))) (r.top - 2) S r S' r' o × (C' ≡ C)
Acts (instr.Mul t) S C r S' C' r' o = Replaces (operated Multiply t (cell_of S (r.top - 2)) (cell_of S (r.top - 1))) (r.top - 2) S r S' r' o × (C' ≡ C)
Acts (instr.Div t) S C r S' C' r' o = Replaces (operated Divide t (cell_of S (r.top - 2)) (cell_of S (r.top - 1))) (r.top - 2) S r S' r' o × (C' ≡ C)
Acts (instr.Rem t) S C r S' C' r' o = Replaces (operated Remainder t (cell_of S (r.top - 2)) (cell_of S (r.top - 1))) (r.top - 2) S r S' r' o × (C' ≡ C)
Acts (instr.Neg t) S C r S' C' r' o = Replaces (opposite t (cell_of S (r.top - 1))) (r.top - 1) S r S' r' o × (C' ≡ C)
Acts instr.Lt S C r S' C' r' o = Replaces (Ok (truth (compared Less (cell_of S (r.top - 2)) (cell_of S (r.top - 1))))) (r.top - 2) S r S' r' o × (C' ≡ C)
Acts instr.Le S C r S' C' r' o = Replaces (Ok (truth (compared AtMost (cell_of S (r.top - 2)) (cell_of S (r.top - 1))))) (r.top - 2) S r S' r' o × (C' ≡ C)
Acts instr.Gt S C r S' C' r' o = Replaces (Ok (truth (compared Greater (cell_of S (r.top - 2)) (cell_of S (r.top - 1))))) (r.top - 2) S r S' r' o × (C' ≡ C)
Acts instr.Ge S C r S' C' r' o = Replaces (Ok (truth (compared AtLeast (cell_of S (r.top - 2)) (cell_of S (r.top - 1))))) (r.top - 2) S r S' r' o × (C' ≡ C)
Acts instr.Eq S C r S' C' r' o = Replaces (Ok (truth (compared Equal (cell_of S (r.top - 2)) (cell_of S (r.top - 1))))) (r.top - 2) S r S' r' o × (C' ≡ C)
Acts instr.Ne S C r S' C' r' o = Replaces (Ok (truth (compared Different (cell_of S (r.top - 2)) (cell_of S (r.top - 1))))) (r.top - 2) S r S' r' o × (C' ≡ C)
Acts instr.Not S C r S' C' r' o = Replaces (Ok (logical_not (cell_of S (r.top - 1)))) (r.top - 1) S r S' r' o × (C' ≡ C)
Acts (instr.Narrow t) S C r S' C' r' o = Replaces (converted Long t (cell_of S (r.top - 1))) (r.top - 1) S r S' r' o × (C' ≡ C)
Acts (instr.Jump a) S C r S' C' r' o = (o ≡ None) × (S' ≡ S) × (C' ≡ C) × (r' ≡ moved r a r.top)
Acts (instr.JumpZero a) S C r S' C' r' o = (o ≡ None) × (S' ≡ S) × (C' ≡ C) × (r' ≡ moved r (at_zero (cell_of S (r.top - 1)) a (r.at + 1)) (r.top - 1))
Acts instr.Tick S C r S' C' r' o = Ticks r.ticks r r' o × (S' ≡ S) × (C' ≡ C)
Acts i S C r S' C' r' o = (o ≡ Some Other) × (S' ≡ S) × (C' ≡ C) × (r' ≡ r)

-- the frame of a call that is made now
abbrev pub frame_of : Registers → Frame
frame_of r = record { back = r.at + 1; bottom = r.bottom; first = r.first }

-- a function begins: its arguments and zeros are its variables, and it has no operands
abbrev pub Enters : Part → List ℤ → List ℤ → List Frame → Registers → List ℤ → List Frame → Registers → Type 0
Enters p S C F r C' F' r' =
    (C' ≡ with_cells r.end (steps.cells_at_start p (between (r.top - p.args) r.top S)) C)
    × (F' ≡ slice_set F r.calls (frame_of r))
    × (r' ≡ record r {
      at =
          p.entry;
      bottom = r.top - p.args;
      top = r.top - p.args;
      first = r.end;
      end = r.end + p.cells;
      calls = r.calls + 1;
      count = r.count + 1;
    })

-- there is room for a call, and for so many operands of its function
pub record HasRoomFor (p : Part) (room : ℕ) (S C : List ℤ) (F : List Frame) (r : Registers) : Type 0 where
  pub stack : r.top - p.args + room ≤ length S
  pub cells : r.end + p.cells ≤ length C
  pub frames : r.calls < length F

-- a call: too many are active, too many cells would be, the arguments are not among its cells, or the function begins, if there is room
abbrev pub CallsIf : Bool → Bool → Bool → Part → ℕ → List ℤ → List ℤ → List Frame → Registers → List ℤ → List Frame → Registers → Option Stop → Type 0
CallsIf true many lacks p room S C F r C' F' r' o = o ≡ Some (Fault Depth)
CallsIf false true lacks p room S C F r C' F' r' o = o ≡ Some (Fault Cells)
CallsIf false false true p room S C F r C' F' r' o = o ≡ Some (Fault Index)
CallsIf false false false p room S C F r C' F' r' o =
    ((o ≡ None) × HasRoomFor p room S C F r × Enters p S C F r C' F' r') ⊎ ((o ≡ Some Room) × (C' ≡ C) × (F' ≡ F) × (r' ≡ r))

abbrev pub Calls : Part → ℕ → List ℤ → List ℤ → List Frame → Registers → List ℤ → List Frame → Registers → Option Stop → Type 0
Calls p room S C F r C' F' r' o =
    CallsIf (nat_le most_calls r.calls) (nat_lt most_cells (r.end + p.cells)) (nat_lt p.cells p.args) p room S C F r C' F' r' o

-- back to the latest caller, whose operands end with those of the function
abbrev pub back_to : Frame → Registers → Registers
back_to f r = record r { at = f.back; bottom = f.bottom; first = f.first; end = r.first; calls = r.calls - 1; count = r.count + 1 }
