-- The rules of verification, each at an address: what holds where it is not broken.
use Rattle.std.specs.List.{AllByRecursion}
use Rattle.std.specs.Prelude.{◌≡◌, ℕ, ◌+◌, ◌-◌, ◌<◌, ◌≤◌, List, [], ◌∷◌, ◌++◌, length, get_or, slice_get, Option, Some, None, Bool, true, false, Contains}
use Rattle.cc_base.specs.Limits.{most_instructions, most_pure_depth}
use Rattle.cc_code.specs.Control.{InFragment, InFunction, InKind, InPart, ComesTo, addresses, entries, fragments, fragments_of, successors}
use Rattle.cc_code.specs.Operands.{gives, shape_at, takes}
use Rattle.cc_code.specs.Works.{entry_of, table_at}
use Rattle.cc_code.specs.declared.code.Part.{Part}
use Rattle.cc_code.specs.declared.code.RawCode.{RawCode}
use Rattle.cc_code.specs.declared.code.Site.{Site}
use Rattle.cc_code.specs.declared.code.TableEntry.{TableEntry}
use Rattle.cc_code.specs.declared.instr.Instr.{Instr}
use Rattle.cc_code.specs.declared.instr.Instr.TheVariants as instr
use Rattle.cc_code.specs.declared.rule.Rule.{Rule}
use Rattle.cc_code.specs.declared.rule.Rule.TheVariants as rule
use Rattle.cc_code.specs.declared.rule.VerifyError.{VerifyError}
use Rattle.cc_code.specs.declared.rule.VerifyError.TheVariants as error

abbrev pub number : Rule → ℕ
number rule.Size = 1
number rule.Target = 2
number rule.Table = 3
number rule.Height = 4
number rule.Fall = 5
number rule.Pure = 6
number rule.Reach = 7

-- an instruction stands at the address
abbrev pub IsAddress : RawCode → ℕ → Type 0
IsAddress k a = a < length k.instrs

abbrev pub AreAddresses : RawCode → List ℕ → Type 0
AreAddresses k list = AllByRecursion (IsAddress k) list

abbrev pub IfThere : {A : Type 0} → Option A → (A → Type 0) → Type 0
IfThere None P = Unit {0}
IfThere (Some a) P = P a

abbrev pub HasEntries : RawCode → Site → Type 0
HasEntries k s = AreAddresses k (fragments_of s)

-- Target: where it jumps, and the entry, the table or the fragments of the site that it names, are instructions
abbrev pub HasTargets : RawCode → Instr → Type 0
HasTargets k (instr.Jump a) = IsAddress k a
HasTargets k (instr.JumpZero a) = IsAddress k a
HasTargets k (instr.Call f) = IfThere (slice_get k.functions f) (λ p. IsAddress k p.entry)
HasTargets k (instr.Create kind) = IfThere (slice_get k.kinds kind) (λ p. IsAddress k p.entry)
HasTargets k (instr.AskWithin t a) = IsAddress k a
HasTargets k (instr.OfferAccept i s) = IfThere (slice_get k.sites s) (HasEntries k)
HasTargets k (instr.SelWait j) = AreAddresses k (addresses (table_at k j))
HasTargets k i = Unit {0}

-- the function, the kind or the site that an instruction names
abbrev pub NamesFunction : ℕ → Instr → Type 0
NamesFunction f (instr.Call g) = f ≡ g
NamesFunction f i = ⊥

abbrev pub NamesKind : ℕ → Instr → Type 0
NamesKind kind (instr.Create other) = kind ≡ other
NamesKind kind i = ⊥

abbrev pub NamesSite : ℕ → Instr → Type 0
NamesSite s (instr.OfferAccept i t) = s ≡ t
NamesSite s i = ⊥

-- an instruction of the code is so
abbrev pub IsNamed : RawCode → (Instr → Type 0) → Type 0
IsNamed k Names = (at : ℕ) × (i : Instr) × (slice_get k.instrs at ≡ Some i) × Names i

-- Target, for what no instruction names
pub record UnnamedEntries (k : RawCode) : Type 0 where
  pub functions : (f : ℕ) (p : Part) → slice_get k.functions f ≡ Some p → (IsNamed k (NamesFunction f) → ⊥) → IsAddress k p.entry
  pub kinds : (kind : ℕ) (p : Part) → slice_get k.kinds kind ≡ Some p → (IsNamed k (NamesKind kind) → ⊥) → IsAddress k p.entry
  pub sites : (n : ℕ) (s : Site) → slice_get k.sites n ≡ Some s → (IsNamed k (NamesSite n) → ⊥) → HasEntries k s

-- the transaction is there, and its calls are asynchronous or not
abbrev pub HasShape : RawCode → ℕ → Bool → Type 0
HasShape k t is_async = (t < length k.transactions) × ((shape_at k t).is_async ≡ is_async)

abbrev pub HasSite : RawCode → Option Site → Type 0
HasSite k None = ⊥
HasSite k (Some s) = s.trans < length k.transactions

-- Table: the kind, function, transaction, site, table or format that it names is there, and the transaction is of its kind
abbrev pub NamesWhatIsThere : RawCode → Instr → Type 0
NamesWhatIsThere k (instr.Call f) = f < length k.functions
NamesWhatIsThere k (instr.Create kind) = kind < length k.kinds
NamesWhatIsThere k (instr.Ask t) = HasShape k t false
NamesWhatIsThere k (instr.AskWithin t a) = HasShape k t false
NamesWhatIsThere k (instr.Send t) = HasShape k t true
NamesWhatIsThere k (instr.OfferAccept i s) = HasSite k (slice_get k.sites s)
NamesWhatIsThere k (instr.SelWait j) = j < length k.tables
NamesWhatIsThere k (instr.Format f) = f < length k.formats
NamesWhatIsThere k i = Unit {0}

-- the first entry of the alternative in a table has this site
abbrev pub AgreesIn : ℕ → Option ℕ → Option TableEntry → Type 0
AgreesIn i site None = Unit {0}
AgreesIn i site (Some e) = e.site ≡ site

-- where a select waits, its table agrees
abbrev pub AgreesThere : RawCode → ℕ → Option ℕ → Option Instr → Type 0
AgreesThere k i site (Some (instr.SelWait j)) = AgreesIn i site (entry_of i (table_at k j))
AgreesThere k i site other = Unit {0}

-- the tables of the selects at which the alternative may be waited for agree with the offer
abbrev pub Agrees : RawCode → ℕ → ℕ → Option ℕ → Type 0
Agrees k at i site = (wait : ℕ) → ComesTo k at wait → AgreesThere k i site (slice_get k.instrs wait)

abbrev pub OffersAgree : RawCode → ℕ → Instr → Type 0
OffersAgree k at (instr.OfferAccept i s) = Agrees k at i (Some s)
OffersAgree k at (instr.OfferAfter i) = Agrees k at i None
OffersAgree k at (instr.OfferNow i) = Agrees k at i None
OffersAgree k at (instr.OfferEnd i) = Agrees k at i None
OffersAgree k at i = Unit {0}

-- `main` is there and takes no arguments
abbrev pub HasMain : List Part → Type 0
HasMain [] = ⊥
HasMain (p ∷ ps) = p.args ≡ 0

abbrev pub height_at : RawCode → ℕ → ℕ
height_at k at = get_or k.heights at 0

-- the instruction there, if there is one, has this height
abbrev pub HasHeight : RawCode → ℕ → ℕ → Type 0
HasHeight k h at = IsAddress k at → height_at k at ≡ h

-- what is left of the height once an instruction took its cells; 0 where the height is too small, which breaks an earlier rule than
-- the one that looks at this
abbrev pub rest_at : RawCode → ℕ → Instr → ℕ
rest_at k at i = height_at k at - takes k i

-- the heights of the successors; a timed call that is late gives nothing
abbrev pub GivesHeights : RawCode → ℕ → Instr → Type 0
GivesHeights k at (instr.AskWithin t a) = HasHeight k (rest_at k at (instr.AskWithin t a)) a × HasHeight k (rest_at k at (instr.AskWithin t a) + gives k (instr.AskWithin t a)) (at + 1)
GivesHeights k at i = AllByRecursion (HasHeight k (rest_at k at i + gives k i)) (successors k at i)

-- an entry of a function, a kind or a fragment
abbrev pub all_entries : RawCode → List ℕ
all_entries k = entries k.functions ++ entries k.kinds ++ fragments k.sites

-- the height of a `Ret` is its number of cells, which each function that it ends has for its value; that of an `End` is 0, and that
-- of a `SelWait`, after which it is 0
abbrev pub HasOwnHeight : RawCode → ℕ → Instr → Type 0
HasOwnHeight k at (instr.Ret n) = (height_at k at ≡ n) × ((f : ℕ) (p : Part) → slice_get k.functions f ≡ Some p → InPart k p.entry at → p.value ≡ n)
HasOwnHeight k at (instr.SelWait j) = height_at k at ≡ 0
HasOwnHeight k at instr.End = height_at k at ≡ 0
HasOwnHeight k at i = Unit {0}

-- Height
pub record KeepsHeights (k : RawCode) (at : ℕ) (i : Instr) : Type 0 where
  pub takes : takes k i ≤ height_at k at
  pub gives : GivesHeights k at i
  pub entry : Contains (all_entries k) at → height_at k at ≡ 0
  pub own : HasOwnHeight k at i

-- nothing falls through it
abbrev pub IsFinal : Instr → Type 0
IsFinal (instr.Jump a) = Unit {0}
IsFinal (instr.Ret n) = Unit {0}
IsFinal instr.Yield = Unit {0}
IsFinal instr.End = Unit {0}
IsFinal i = ⊥

-- the instruction at an address may stand in a pure fragment
abbrev pub IsPure : ℕ → Instr → Type 0
IsPure at (instr.Const v) = Unit {0}
IsPure at (instr.Field o) = Unit {0}
IsPure at (instr.Index l s) = Unit {0}
IsPure at (instr.Fetch n) = n ≡ 1
IsPure at (instr.Add t) = Unit {0}
IsPure at (instr.Sub t) = Unit {0}
IsPure at (instr.Mul t) = Unit {0}
IsPure at (instr.Div t) = Unit {0}
IsPure at (instr.Rem t) = Unit {0}
IsPure at (instr.Neg t) = Unit {0}
IsPure at instr.Lt = Unit {0}
IsPure at instr.Le = Unit {0}
IsPure at instr.Gt = Unit {0}
IsPure at instr.Ge = Unit {0}
IsPure at instr.Eq = Unit {0}
IsPure at instr.Ne = Unit {0}
IsPure at instr.Not = Unit {0}
IsPure at (instr.Narrow t) = Unit {0}
IsPure at (instr.Jump a) = at < a
IsPure at (instr.JumpZero a) = at < a
IsPure at instr.Yield = Unit {0}
IsPure at i = ⊥

-- only the body of a kind has it: what selects, replies or ends the process
abbrev pub IsOnlyInKinds : Instr → Type 0
IsOnlyInKinds instr.SelBegin = Unit {0}
IsOnlyInKinds (instr.OfferAccept i s) = Unit {0}
IsOnlyInKinds (instr.OfferAfter i) = Unit {0}
IsOnlyInKinds (instr.OfferNow i) = Unit {0}
IsOnlyInKinds (instr.OfferEnd i) = Unit {0}
IsOnlyInKinds (instr.SelWait j) = Unit {0}
IsOnlyInKinds (instr.Reply n) = Unit {0}
IsOnlyInKinds instr.End = Unit {0}
IsOnlyInKinds i = ⊥

abbrev pub IsRet : Instr → Type 0
IsRet (instr.Ret n) = Unit {0}
IsRet i = ⊥

abbrev pub IsYield : Instr → Type 0
IsYield instr.Yield = Unit {0}
IsYield i = ⊥

-- Reach: it stands in no part where it may not
pub record IsPlaced (k : RawCode) (at : ℕ) (i : Instr) : Type 0 where
  pub ret : IsRet i → InKind k at → ⊥
  pub only_in_kinds : IsOnlyInKinds i → InFunction k at → ⊥
  pub yield_in_function : IsYield i → InFunction k at → ⊥
  pub yield_in_kind : IsYield i → InKind k at → ⊥

-- each rule, of the instruction at an address
abbrev pub KeepsAt : RawCode → ℕ → Instr → Rule → Type 0
KeepsAt k at i rule.Size = at < most_instructions
KeepsAt k at i rule.Target = HasTargets k i
KeepsAt k at i rule.Table = NamesWhatIsThere k i × OffersAgree k at i
KeepsAt k at i rule.Height = KeepsHeights k at i
KeepsAt k at i rule.Fall = at + 1 ≡ length k.instrs → IsFinal i
KeepsAt k at i rule.Pure = InFragment k at → IsPure at i × (rest_at k at i + gives k i ≤ most_pure_depth)
KeepsAt k at i rule.Reach = IsPlaced k at i

-- each rule, of the code as a whole, which counts at address 0
abbrev pub KeepsWhole : RawCode → Rule → Type 0
KeepsWhole k rule.Size = length k.heights ≡ length k.instrs
KeepsWhole k rule.Target = UnnamedEntries k
KeepsWhole k rule.Table = HasMain k.kinds
KeepsWhole k r = Unit {0}

-- the rule is not broken at the address
pub record Keeps (k : RawCode) (at : ℕ) (r : Rule) : Type 0 where
  pub whole : at ≡ 0 → KeepsWhole k r
  pub each : (i : Instr) → slice_get k.instrs at ≡ Some i → KeepsAt k at i r

-- no rule is broken
abbrev pub IsVerified : RawCode → Type 0
IsVerified k = (at : ℕ) (r : Rule) → Keeps k at r

-- the rule is broken at the address, and none at an earlier one, nor one with a lower number there
pub record IsFirst (k : RawCode) (at : ℕ) (r : Rule) : Type 0 where
  pub broken : Keeps k at r → ⊥
  pub earlier : (b : ℕ) (q : Rule) → b < at → Keeps k b q
  pub lower : (q : Rule) → number q < number r → Keeps k at q

-- why the code was refused
abbrev pub IsRefusal : RawCode → VerifyError → Type 0
IsRefusal k (error.BadCode at r) = IsFirst k at r
IsRefusal k error.Memory = Unit {0}
