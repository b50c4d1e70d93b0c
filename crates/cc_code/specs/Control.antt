-- Where control goes, and what the entries of parts and fragments reach.
use Rattle.std.specs.Prelude.{ℕ, ◌+◌, List, [], ◌∷◌, ◌++◌, map, Option, Some, None, slice_get, Contains}
use Rattle.cc_code.specs.Works.{table_at}
use Rattle.cc_code.specs.declared.code.Part.{Part}
use Rattle.cc_code.specs.declared.code.RawCode.{RawCode}
use Rattle.cc_code.specs.declared.code.Site.{Site}
use Rattle.cc_code.specs.declared.code.TableEntry.{TableEntry}
use Rattle.cc_code.specs.declared.instr.Instr.{Instr}
use Rattle.cc_code.specs.declared.instr.Instr.TheVariants as instr

-- what is reached: the places to begin with, and what a place leads to that is reached
pub data Reaches (leads : ℕ → ℕ → Type 0) (starts : List ℕ) : ℕ → Type 0 where
  start : {x : ℕ} → Contains starts x → Reaches leads starts x
  onward : {x y : ℕ} → Reaches leads starts x → leads x y → Reaches leads starts y

abbrev pub addresses : List TableEntry → List ℕ
addresses entries = map (λ (e : TableEntry). e.address) entries

-- the addresses at which control may go on after the instruction at an address; a call goes on after it has come back
abbrev pub successors : RawCode → ℕ → Instr → List ℕ
successors k at (instr.Jump a) = a ∷ []
successors k at (instr.JumpZero a) = a ∷ (at + 1) ∷ []
successors k at (instr.Ret n) = []
successors k at (instr.AskWithin t a) = a ∷ (at + 1) ∷ []
successors k at (instr.SelWait j) = addresses (table_at k j)
successors k at instr.Yield = []
successors k at instr.End = []
successors k at i = (at + 1) ∷ []

abbrev pub successors_if : RawCode → ℕ → Option Instr → List ℕ
successors_if k at None = []
successors_if k at (Some i) = successors k at i

-- control may go from one address to another
abbrev pub GoesTo : RawCode → ℕ → ℕ → Type 0
GoesTo k x y = Contains (successors_if k x (slice_get k.instrs x)) y

abbrev pub entries : List Part → List ℕ
entries parts = map (λ (p : Part). p.entry) parts

abbrev pub optional : Option ℕ → List ℕ
optional None = []
optional (Some a) = a ∷ []

-- the entries of a site's fragments
abbrev pub fragments_of : Site → List ℕ
fragments_of s = optional s.such ++ optional s.by

abbrev pub fragments : List Site → List ℕ
fragments [] = []
fragments (s ∷ sites) = fragments_of s ++ fragments sites

-- the address is in a function, in the body of a kind of process, in a pure fragment
abbrev pub InFunction : RawCode → ℕ → Type 0
InFunction k at = Reaches (GoesTo k) (entries k.functions) at

abbrev pub InKind : RawCode → ℕ → Type 0
InKind k at = Reaches (GoesTo k) (entries k.kinds) at

abbrev pub InFragment : RawCode → ℕ → Type 0
InFragment k at = Reaches (GoesTo k) (fragments k.sites) at

-- the address is in the part that begins at an entry
abbrev pub InPart : RawCode → ℕ → ℕ → Type 0
InPart k entry at = Reaches (GoesTo k) (entry ∷ []) at

-- the same, where control stays within one select: none after its begin and none after it has waited
abbrev pub successors_within : RawCode → ℕ → Option Instr → List ℕ
successors_within k at None = []
successors_within k at (Some instr.SelBegin) = []
successors_within k at (Some (instr.SelWait j)) = []
successors_within k at (Some i) = successors k at i

-- control may go from one address to another within one select
abbrev pub GoesWithin : RawCode → ℕ → ℕ → Type 0
GoesWithin k x y = Contains (successors_within k x (slice_get k.instrs x)) y

-- control may come from the successors of an address to another address within one select
abbrev pub ComesTo : RawCode → ℕ → ℕ → Type 0
ComesTo k at wait = Reaches (GoesWithin k) (successors_within k at (slice_get k.instrs at)) wait
