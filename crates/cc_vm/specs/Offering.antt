-- What an instruction that opens an alternative makes of the lists and of the open alternatives.
use Rattle.std.specs.Prelude.{◌≡◌, ℕ, ◌+◌, ◌-◌, ◌<◌, ℤ, Bool, true, false, List, [], ◌∷◌, ◌++◌, slice_get, Option, Some, None}
use Rattle.cc_base.specs.declared.alternatives.Alt.{Alt}
use Rattle.cc_base.specs.declared.alternatives.Alt.TheVariants as alt
use Rattle.cc_base.specs.declared.names.FaultKind.{FaultKind}
use Rattle.cc_base.specs.declared.names.FaultKind.TheVariants.{Index}
use Rattle.cc_base.specs.declared.request.Grant.{Grant}
use Rattle.cc_base.specs.declared.request.Request.TheVariants as request
use Rattle.cc_code.specs.Steps.{Asks, Ran}
use Rattle.cc_code.specs.Works.{cells_from, environment, is_above, is_within}
use Rattle.cc_code.specs.declared.code.EnvironmentPart.{EnvironmentPart}
use Rattle.cc_code.specs.declared.code.RawCode.{RawCode}
use Rattle.cc_code.specs.declared.code.Site.{Site}
use Rattle.cc_code.specs.declared.instr.Instr.{Instr}
use Rattle.cc_code.specs.declared.instr.Instr.TheVariants as instr
use Rattle.cc_vm.specs.Lists.{IsReady, kept_state}
use Rattle.cc_vm.specs.Machine.{between, cell_of, moved}
use Rattle.cc_vm.specs.Running.{Follows, work}
use Rattle.cc_vm.specs.declared.lists.Lists.{Lists}

-- it begins a select or opens an alternative
abbrev pub IsOffer : Instr → Type 0
IsOffer instr.SelBegin = Unit {0}
IsOffer (instr.OfferAccept i s) = Unit {0}
IsOffer (instr.OfferAfter i) = Unit {0}
IsOffer (instr.OfferNow i) = Unit {0}
IsOffer (instr.OfferEnd i) = Unit {0}
IsOffer i = ⊥

-- so many operands are gone, and it goes on at the next address
pub record Passes (taken : ℕ) (a b : Lists) : Type 0 where
  pub stack : b.stack.items ≡ a.stack.items
  pub cells : b.cells.items ≡ a.cells.items
  pub frames : b.frames.items ≡ a.frames.items
  pub registers : b.registers ≡ moved a.registers (a.registers.at + 1) (a.registers.top - taken)

-- cells of a part of an environment are put at the end, where all are variable cells
abbrev pub PartIf : Bool → EnvironmentPart → List ℤ → List ℤ → List ℤ → Bool → Type 0
PartIf true p V old new o = (o ≡ true) × (new ≡ old ++ cells_from p.offset p.cells V)
PartIf false p V old new o = o ≡ false

-- an alternative is opened, where it is above those that are open
abbrev pub OpensIf : Bool → ℕ → Alt → ℕ → Lists → List (ℕ × Alt) → Lists → List (ℕ × Alt) → Option FaultKind → Type 0
OpensIf true i x taken a xs b ys o = (o ≡ None) × (ys ≡ xs ++ (i, x) ∷ []) × Passes taken a b
OpensIf false i x taken a xs b ys o = o ≡ Some Index

abbrev pub OpensAlt : ℕ → Alt → ℕ → Lists → List (ℕ × Alt) → Lists → List (ℕ × Alt) → Option FaultKind → Type 0
OpensAlt i x taken a xs b ys o = OpensIf (is_above i xs) i x taken a xs b ys o

-- an accept in an environment, where its cells are there
abbrev pub OpensIn : ℕ → ℕ → ℕ → Option (List ℤ) → Lists → List (ℕ × Alt) → Lists → List (ℕ × Alt) → Option FaultKind → Type 0
OpensIn i number trans None a xs b ys o = o ≡ Some Index
OpensIn i number trans (Some env) a xs b ys o = OpensAlt i (alt.Accept trans number env) 0 a xs b ys o

abbrev pub OpensAt : ℕ → ℕ → Option Site → Lists → List (ℕ × Alt) → Lists → List (ℕ × Alt) → Option FaultKind → Type 0
OpensAt i number None a xs b ys o = o ≡ Some Index
OpensAt i number (Some s) a xs b ys o = OpensIn i number s.trans (environment s.env (between a.registers.first a.registers.end a.cells.items)) a xs b ys o

-- what each such instruction does; of others nothing is said
abbrev pub Opens : RawCode → Instr → Lists → List (ℕ × Alt) → Lists → List (ℕ × Alt) → Option FaultKind → Type 0
Opens k instr.SelBegin a xs b ys o = (o ≡ None) × (ys ≡ []) × Passes 0 a b
Opens k (instr.OfferAccept i s) a xs b ys o = OpensAt i s (slice_get k.sites s) a xs b ys o
Opens k (instr.OfferAfter i) a xs b ys o = OpensAlt i (alt.After (cell_of a.stack.items (a.registers.top - 1))) 1 a xs b ys o
Opens k (instr.OfferNow i) a xs b ys o = OpensAlt i alt.Now 0 a xs b ys o
Opens k (instr.OfferEnd i) a xs b ys o = OpensAlt i alt.Terminate 0 a xs b ys o
Opens k i a xs b ys o = Unit {0}

-- whatever process follows a state that is kept asks this
abbrev pub AllAsk : RawCode → Lists → List (ℕ × Alt) → Ran → Type 0
AllAsk k a xs r = (process : List Grant → Ran) (fed : List Grant) → Follows k process fed (kept_state a xs) → process fed ≡ r

-- whatever process follows one state that is kept follows another
abbrev pub AllFollow : RawCode → Lists → List (ℕ × Alt) → Lists → List (ℕ × Alt) → Type 0
AllFollow k a xs b ys = (process : List Grant → Ran) (fed : List Grant) → Follows k process fed (kept_state a xs) → Follows k process fed (kept_state b ys)

-- an alternative was opened, and less may come than before; or the process is at fault
abbrev pub Opened : RawCode → ℕ → Lists → List (ℕ × Alt) → Lists → List (ℕ × Alt) → Option FaultKind → Type 0
Opened k room a xs b ys None = IsReady k room b × AllFollow k a xs b ys × (work b.registers < work a.registers)
Opened k room a xs b ys (Some kind) = AllAsk k a xs (Asks (request.Fault kind))
