-- A pure fragment, step by step.
use Rattle.std.specs.Prelude.{◌≡◌, ℕ, suc, ◌+◌, ◌*◌, ◌<◌, ◌≤◌, ℤ, pos, negsuc, List, [], ◌∷◌, ◌++◌, slice_get, Option, Some, None, Result, Ok, Err}
use Rattle.cc_base.specs.Limits.{most_steps}
use Rattle.cc_base.specs.Numbers.{and_with, at_zero, compared, converted, indexed, logical_not, operated, opposite, truth}
use Rattle.cc_base.specs.declared.names.FaultKind.{FaultKind}
use Rattle.cc_base.specs.declared.names.FaultKind.TheVariants.{Index}
use Rattle.cc_base.specs.declared.numbers.Comparison.TheVariants.{Less, AtMost, Greater, AtLeast, Equal, Different}
use Rattle.cc_base.specs.declared.numbers.NumberType.TheVariants.{Long}
use Rattle.cc_base.specs.declared.numbers.Operator.TheVariants.{Add, Subtract, Multiply, Divide, Remainder}
use Rattle.cc_code.specs.Meaning.{nothing_left, value_of}
use Rattle.cc_code.specs.Standing.{Fragment, Stands}
use Rattle.cc_code.specs.Steps.{Ran, State, Goes, Stops, step}
use Rattle.cc_code.specs.Works.{further}
use Rattle.cc_code.specs.declared.code.RawCode.{RawCode}
use Rattle.cc_code.specs.declared.instr.Instr.{Instr}
use Rattle.cc_code.specs.declared.instr.Instr.TheVariants as instr
use Rattle.cc_vm.specs.declared.fragment.Next.{Next}
use Rattle.cc_vm.specs.declared.fragment.Next.TheVariants.{To, Ended}

-- where a fragment stands: its variable cells, the next address, its operands, and how many instructions came
abbrev pub fragment_at : List ℤ → ℕ → List ℤ → ℕ → State
fragment_at cells at stack count =
    record { address = at; stack = stack; store = record { cells = cells; offers = [] }; left = nothing_left; count = count; frames = [] }

-- its instruction is there, and its operands too
abbrev pub IsReady : RawCode → List ℤ → ℕ → List ℤ → Type 0
IsReady k cells at stack = Stands k Fragment (fragment_at cells at stack 0)

-- an instruction of a fragment finds what it takes below the greatest height, and jumps forwards
abbrev pub HasRoom : ℕ → ℕ → Instr → Type 0
HasRoom at h (instr.Const v) = h < 64
HasRoom at h (instr.Field o) = (0 < h) × (h ≤ 64)
HasRoom at h (instr.Index l s) = (1 < h) × (h ≤ 65)
HasRoom at h (instr.Fetch n) = (n ≡ 1) × (0 < h) × (h ≤ 64)
HasRoom at h (instr.Add t) = (1 < h) × (h ≤ 65)
HasRoom at h (instr.Sub t) = (1 < h) × (h ≤ 65)
HasRoom at h (instr.Mul t) = (1 < h) × (h ≤ 65)
HasRoom at h (instr.Div t) = (1 < h) × (h ≤ 65)
HasRoom at h (instr.Rem t) = (1 < h) × (h ≤ 65)
HasRoom at h (instr.Neg t) = (0 < h) × (h ≤ 64)
HasRoom at h instr.Lt = (1 < h) × (h ≤ 65)
HasRoom at h instr.Le = (1 < h) × (h ≤ 65)
HasRoom at h instr.Gt = (1 < h) × (h ≤ 65)
HasRoom at h instr.Ge = (1 < h) × (h ≤ 65)
HasRoom at h instr.Eq = (1 < h) × (h ≤ 65)
HasRoom at h instr.Ne = (1 < h) × (h ≤ 65)
HasRoom at h instr.Not = (0 < h) × (h ≤ 64)
HasRoom at h (instr.Narrow t) = (0 < h) × (h ≤ 64)
HasRoom at h (instr.Jump a) = at < a
HasRoom at h (instr.JumpZero a) = (at < a) × (0 < h)
HasRoom at h instr.Yield = 0 < h
HasRoom at h i = ⊥

-- the variable cell at an offset
abbrev pub or_outside : Option ℤ → Result ℤ FaultKind
or_outside None = Err Index
or_outside (Some cell) = Ok cell

abbrev pub cell_at : List ℤ → ℤ → Result ℤ FaultKind
cell_at cells (pos offset) = or_outside (slice_get cells offset)
cell_at cells (negsuc n) = Err Index

-- the offset of an element of so many cells
abbrev pub element_at : ℕ → ℕ → ℤ → ℤ → Result ℤ FaultKind
element_at l s offset index = and_with (indexed l index) (λ i. further offset (i * s))

-- what an outcome leaves on the operands below it, and where the fragment goes on
abbrev pub Comes : Result ℤ FaultKind → ℕ → List ℤ → List ℤ → Next → Type 0
Comes (Ok z) at below new next = (new ≡ below ++ z ∷ []) × (next ≡ To (at + 1))
Comes (Err kind) at below new next = next ≡ Ended None

-- one operand gives way to an outcome
abbrev pub Comes1 : (ℤ → Result ℤ FaultKind) → ℕ → List ℤ → List ℤ → Next → Type 0
Comes1 f at old new next = (below : List ℤ) × (a : ℤ) × (old ≡ below ++ a ∷ []) × Comes (f a) at below new next

-- two do
abbrev pub Comes2 : (ℤ → ℤ → Result ℤ FaultKind) → ℕ → List ℤ → List ℤ → Next → Type 0
Comes2 f at old new next = (below : List ℤ) × (a : ℤ) × (b : ℤ) × (old ≡ below ++ a ∷ b ∷ []) × Comes (f a b) at below new next

-- the top operand, which is gone
abbrev pub Taken : (ℤ → Type 0) → List ℤ → List ℤ → Type 0
Taken P old new = (a : ℤ) × (old ≡ new ++ a ∷ []) × P a

-- what an instruction of a fragment does with the operands, and where it goes on
abbrev pub Does : List ℤ → ℕ → Instr → List ℤ → List ℤ → Next → Type 0
Does cells at (instr.Const v) old new next = Comes (Ok v) at old new next
Does cells at (instr.Field n) old new next = Comes1 (λ o. further o n) at old new next
Does cells at (instr.Index l s) old new next = Comes2 (element_at l s) at old new next
Does cells at (instr.Fetch n) old new next = Comes1 (cell_at cells) at old new next
Does cells at (instr.Add t) old new next = Comes2 (operated Add t) at old new next
Does cells at (instr.Sub t) old new next = Comes2 (operated Subtract t) at old new next
Does cells at (instr.Mul t) old new next = Comes2 (operated Multiply t) at old new next
Does cells at (instr.Div t) old new next = Comes2 (operated Divide t) at old new next
Does cells at (instr.Rem t) old new next = Comes2 (operated Remainder t) at old new next
Does cells at (instr.Neg t) old new next = Comes1 (opposite t) at old new next
Does cells at instr.Lt old new next = Comes2 (λ a b. Ok (truth (compared Less a b))) at old new next
Does cells at instr.Le old new next = Comes2 (λ a b. Ok (truth (compared AtMost a b))) at old new next
Does cells at instr.Gt old new next = Comes2 (λ a b. Ok (truth (compared Greater a b))) at old new next
Does cells at instr.Ge old new next = Comes2 (λ a b. Ok (truth (compared AtLeast a b))) at old new next
Does cells at instr.Eq old new next = Comes2 (λ a b. Ok (truth (compared Equal a b))) at old new next
Does cells at instr.Ne old new next = Comes2 (λ a b. Ok (truth (compared Different a b))) at old new next
Does cells at instr.Not old new next = Comes1 (λ a. Ok (logical_not a)) at old new next
Does cells at (instr.Narrow t) old new next = Comes1 (converted Long t) at old new next
Does cells at (instr.Jump to) old new next = (new ≡ old) × (next ≡ To to)
Does cells at (instr.JumpZero to) old new next = Taken (λ a. next ≡ To (at_zero a to (at + 1))) old new
Does cells at instr.Yield old new next = Taken (λ a. next ≡ Ended (Some a)) old new
Does cells at i old new next = ⊥

-- it goes on at a later address, or ends with a value or with none
abbrev pub StepsTo : RawCode → List ℤ → ℕ → List ℤ → List ℤ → Next → Type 0
StepsTo k cells at old new (To a) =
    (at < a) × ((count : ℕ) → count < most_steps → step k (fragment_at cells at old count) ≡ Goes (fragment_at cells a new (suc count)))
StepsTo k cells at old new (Ended value) =
    (count : ℕ) → (r : Ran) × (step k (fragment_at cells at old count) ≡ Stops r) × (value_of r ≡ value)
