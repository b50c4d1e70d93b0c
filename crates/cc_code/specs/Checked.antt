-- What verification computes once, and how it stands to the code.
use Rattle.std.specs.List.{AllByRecursion}
use Rattle.std.specs.Prelude.{◌≡◌, ◌≢◌, ℕ, zero, suc, ◌<◌, ◌↔◌, ◌⊎◌, Bool, true, false, List, [], ◌++◌, length, get_or, map, slice_get, Option, Some, None, Contains}
use Rattle.cc_base.specs.Formats.{conversions, conversions_after_percent, conversions_after_percent_l}
use Rattle.cc_code.specs.Control.{InFragment, InFunction, InKind, InPart, addresses, fragments}
use Rattle.cc_code.specs.Operands.{format_at}
use Rattle.cc_code.specs.Reach.{HasLabel, IsMarked, begin, labelled, place_of, ways}
use Rattle.cc_code.specs.Rules.{AreAddresses, HasEntries, HasHeight, IsAddress, NamesFunction, NamesKind, NamesSite, UnnamedEntries, all_entries}
use Rattle.cc_code.specs.Waiting.{AreSelects}
use Rattle.cc_code.specs.Works.{table_at}
use Rattle.cc_code.specs.declared.code.Part.{Part}
use Rattle.cc_code.specs.declared.code.RawCode.{RawCode}
use Rattle.cc_code.specs.declared.code.Site.{Site}
use Rattle.cc_code.specs.declared.facts.Facts.{Facts}
use Rattle.cc_code.specs.declared.formats.Reading.{Reading}
use Rattle.cc_code.specs.declared.formats.Reading.TheVariants as reading
use Rattle.cc_code.specs.declared.instr.Instr.{Instr}
use Rattle.cc_code.specs.declared.parts.Starts.{Starts}
use Rattle.cc_code.specs.declared.parts.Values.{Values}
use Rattle.cc_code.specs.declared.reach.Extent.TheVariants.{All}
use Rattle.cc_code.specs.declared.reach.Start.{Start}
use Rattle.cc_code.specs.declared.unnamed.Thing.{Thing}
use Rattle.cc_code.specs.declared.unnamed.Thing.TheVariants as thing

-- how many conversions a format has from where its reading stands
abbrev pub conversions_from : Reading → List ℕ → ℕ
conversions_from reading.Plain rest = conversions rest
conversions_from reading.Percent rest = conversions_after_percent rest
conversions_from reading.Long rest = conversions_after_percent_l rest

-- for each format how many numbers it takes
abbrev pub AreConversions : RawCode → List ℕ → Type 0
AreConversions k counts = (f : ℕ) → get_or counts f 0 ≡ conversions (format_at k f)

abbrev pub IsSet : List Bool → ℕ → Type 0
IsSet bits x = get_or bits x false ≡ true

-- for each table whether a fact holds of the addresses to which it leads
abbrev pub AreJudged : RawCode → (List ℕ → Type 0) → List Bool → Type 0
AreJudged k Holds bits = (j : ℕ) → (get_or bits j true ≡ true) ↔ Holds (addresses (table_at k j))

abbrev pub AreLeading : RawCode → List Bool → Type 0
AreLeading k bits = AreJudged k (AreAddresses k) bits

abbrev pub AreLevel : RawCode → List Bool → Type 0
AreLevel k bits = AreJudged k (AllByRecursion (HasHeight k 0)) bits

-- the starts at the entries of parts, each with the value of its part
abbrev pub part_starts : RawCode → List Part → List Start
part_starts k parts = map (λ (p : Part). begin (place_of k p.entry) p.value) parts

-- the starts at addresses
abbrev pub address_starts : RawCode → List ℕ → List Start
address_starts k list = map (λ (a : ℕ). begin (place_of k a) 0) list

-- the starts at all entries
pub record AreStarts (k : RawCode) (s : Starts) : Type 0 where
  pub functions : s.functions.items ≡ part_starts k k.functions
  pub kinds : s.kinds.items ≡ part_starts k k.kinds
  pub fragments : s.fragments.items ≡ address_starts k (fragments k.sites)

-- which addresses are so, by their places
abbrev pub AreMarks : RawCode → (ℕ → Type 0) → List (Option ℕ) → Type 0
AreMarks k Holds labels = (at : ℕ) → at < length k.instrs → IsMarked labels (place_of k at) ↔ Holds at

-- the bits before and after some of them were set
pub record Noted (list : List ℕ) (old new : List Bool) : Type 0 where
  pub long : length new ≡ length old
  pub exact : (x : ℕ) → x < length old → IsSet new x ↔ (IsSet old x ⊎ Contains list x)

-- for each address whether a part or a fragment begins there, by their places
abbrev pub AreEntries : RawCode → List Bool → Type 0
AreEntries k bits = (at : ℕ) → at < length k.instrs → IsSet bits (place_of k at) ↔ Contains (all_entries k) at

-- each function that holds a `Ret` at an address has this value
abbrev pub AllGive : RawCode → ℕ → ℕ → Type 0
AllGive k at n = (f : ℕ) (p : Part) → slice_get k.functions f ≡ Some p → InPart k p.entry at → p.value ≡ n

-- the value of a function that reaches a place, if one does, is this
abbrev pub GivesOnly : Option ℕ → ℕ → Type 0
GivesOnly None n = Unit {0}
GivesOnly (Some v) n = v ≡ n

-- the starts that were put with others, of these with a place that has another label
pub record Seeded (m : List (Option ℕ)) (given old new : List Start) : Type 0 where
  pub keeps : (s : Start) → Contains old s → Contains new s
  pub fresh : (s : Start) → Contains new s → Contains old s ⊎ (Contains given s × (l : ℕ) × HasLabel m s.place l × (l ≢ s.label))
  pub all : (s : Start) (l : ℕ) → Contains given s → HasLabel m s.place l → (l ≡ s.label) ⊎ Contains new s

-- the places to which one of these leads, with its label
abbrev pub steps_of : RawCode → ℕ → Option ℕ → List Start
steps_of k x None = []
steps_of k x (Some l) = labelled l (ways k All x)

-- the same for each of the first places
abbrev pub steps : RawCode → List (Option ℕ) → ℕ → List Start
steps k m zero = []
steps k m (suc n) = steps k m n ++ steps_of k n (get_or m n None)

-- what functions reach, with the value of one that does, and what functions of two values reach
pub record AreValues (k : RawCode) (v : Values) : Type 0 where
  pub marks : AreMarks k (InFunction k) v.labels.items
  pub met : (at n : ℕ) → at < length k.instrs → IsMarked v.meetings.items (place_of k at) → AllGive k at n → ⊥
  pub unmet : (at n : ℕ) → at < length k.instrs → (IsMarked v.meetings.items (place_of k at) → ⊥)
      → AllGive k at n ↔ GivesOnly (get_or v.labels.items (place_of k at) None) n

-- an instruction names the function, the kind or the site of this number
abbrev pub Names : Thing → ℕ → Instr → Type 0
Names thing.Function n i = NamesFunction n i
Names thing.Kind n i = NamesKind n i
Names thing.Site n i = NamesSite n i

-- one of the instructions does
abbrev pub AreNamed : List Instr → Thing → ℕ → Type 0
AreNamed instrs t n = (at : ℕ) × (i : Instr) × (slice_get instrs at ≡ Some i) × Names t n i

-- the parts without a bit begin at instructions
abbrev pub PartsLead : RawCode → List Part → List Bool → Type 0
PartsLead k parts bits = (f : ℕ) (p : Part) → slice_get parts f ≡ Some p → (IsSet bits f → ⊥) → IsAddress k p.entry

abbrev pub SitesLead : RawCode → List Site → List Bool → Type 0
SitesLead k sites bits = (n : ℕ) (s : Site) → slice_get sites n ≡ Some s → (IsSet bits n → ⊥) → HasEntries k s

-- what verification looks up is so
pub record AreFacts (k : RawCode) (f : Facts) : Type 0 where
  pub conversions : AreConversions k f.conversions.items
  pub leading : AreLeading k f.leading.items
  pub level : AreLevel k f.level.items
  pub entries : AreEntries k f.entries.items
  pub functions : AreValues k f.functions
  pub kinds : AreMarks k (InKind k) f.kinds.items
  pub fragments : AreMarks k (InFragment k) f.fragments.items
  pub selects : AreSelects k f.selects
  pub unnamed : (f.unnamed_lead ≡ true) ↔ UnnamedEntries k
