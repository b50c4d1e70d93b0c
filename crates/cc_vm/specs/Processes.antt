-- Where a process of code stands.
use Rattle.std.specs.Prelude.{◌≡◌, ℕ, ℤ, List, [], ◌∷◌, ◌⊎◌, slice_get}
use Rattle.cc_base.specs.declared.alternatives.Alt.{Alt}
use Rattle.cc_base.specs.declared.request.Grant.{Grant}
use Rattle.cc_base.specs.declared.request.Grant.TheVariants.{Go}
use Rattle.cc_base.specs.declared.request.Request.{Request}
use Rattle.cc_base.specs.declared.request.Request.TheVariants as request
use Rattle.cc_code.specs.Meaning.{process}
use Rattle.cc_code.specs.Standing.{IsFault}
use Rattle.cc_code.specs.Steps.{Asks, Ran}
use Rattle.cc_code.specs.declared.code.RawCode.{RawCode}
use Rattle.cc_code.specs.declared.instr.Instr.{Instr}
use Rattle.cc_vm.specs.Going.{Pends}
use Rattle.cc_vm.specs.Lists.{IsReady, kept_state}
use Rattle.cc_vm.specs.Running.{Follows, IsRoom}
use Rattle.cc_vm.specs.declared.lists.Lists.{Lists}
use Rattle.cc_vm.specs.declared.phase.Phase.{Phase}
use Rattle.cc_vm.specs.declared.phase.Phase.TheVariants as phase

-- no grant came so far: with the first it goes on from what is kept, or is at fault
abbrev pub Begins : RawCode → ℕ → Lists → List (ℕ × Alt) → Phase → (List Grant → Ran) → Type 0
Begins k room l alts phase.Begins process = IsReady k room l × Follows k process (Go ∷ []) (kept_state l alts)
Begins k room l alts (phase.Faulty kind) process = process (Go ∷ []) ≡ Asks (request.Fault kind)
Begins k room l alts phase.Waits process = ⊥

-- after these grants it is at fault, or asked what the instruction asks before which it stands
abbrev pub Waits : RawCode → ℕ → Lists → List (ℕ × Alt) → Phase → (List Grant → Ran) → List Grant → Type 0
Waits k room l alts phase.Waits process grants =
    (q : Request) × (process grants ≡ Asks q)
    × (IsFault q ⊎ ((offers : List (ℕ × Alt)) × (i : Instr) × Pends k room l alts offers i q × Follows k process grants (kept_state l offers)))
Waits k room l alts p process grants = ⊥

abbrev pub StandsAt : RawCode → ℕ → Lists → List (ℕ × Alt) → Phase → (List Grant → Ran) → List Grant → Type 0
StandsAt k room l alts p process [] = Begins k room l alts p process
StandsAt k room l alts p process (g ∷ grants) = Waits k room l alts p process (g ∷ grants)

-- a process of this kind with these arguments was granted these
abbrev pub IsAt : RawCode → ℕ → Lists → List (ℕ × Alt) → Phase → ℕ → List ℤ → List Grant → Type 0
IsAt k room l alts p kind args grants = IsRoom k room × StandsAt k room l alts p (process k (slice_get k.kinds kind) args) grants
