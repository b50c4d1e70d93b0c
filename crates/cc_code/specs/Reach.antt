-- What is reached in code from given places: its tables and after them its instructions.
use Rattle.std.specs.Option.{is_some}
use Rattle.std.specs.Prelude.{◌≡◌, ℕ, ◌+◌, ◌-◌, ◌*◌, ◌<◌, ◌⊎◌, List, [], ◌∷◌, length, map, get_or, slice_get, Option, Some, None, cond, nat_lt, Contains, sum_by}
use Rattle.cc_code.specs.Control.{Reaches, addresses, successors}
use Rattle.cc_code.specs.declared.code.RawCode.{RawCode}
use Rattle.cc_code.specs.declared.code.TableEntry.{TableEntry}
use Rattle.cc_code.specs.declared.instr.Instr.{Instr}
use Rattle.cc_code.specs.declared.instr.Instr.TheVariants as instr
use Rattle.cc_code.specs.declared.reach.Extent.{Extent}
use Rattle.cc_code.specs.declared.reach.Extent.TheVariants.{All, Select}
use Rattle.cc_code.specs.declared.reach.Start.{Start}
use Rattle.cc_code.specs.declared.reach.Ways.{Ways}
use Rattle.cc_code.specs.declared.reach.Ways.TheVariants as way

-- few enough that places are numbers of the machine
pub record IsSmall (k : RawCode) : Type 0 where
  pub instrs : length k.instrs < 4294967296
  pub tables : length k.tables < 4294967296

abbrev pub place_of : RawCode → ℕ → ℕ
place_of k address = length k.tables + address

abbrev pub places_of : RawCode → List ℕ → List ℕ
places_of k list = map (place_of k) list

-- the places to which a table leads, and an instruction
abbrev pub table_ways : RawCode → List TableEntry → List ℕ
table_ways k table = places_of k (addresses table)

abbrev pub table_place : RawCode → ℕ → List ℕ
table_place k j = cond (nat_lt j (length k.tables)) (j ∷ []) []

abbrev pub instr_ways : RawCode → Extent → ℕ → Instr → List ℕ
instr_ways k All at (instr.SelWait j) = table_place k j
instr_ways k Select at (instr.SelWait j) = []
instr_ways k Select at instr.SelBegin = []
instr_ways k extent at i = places_of k (successors k at i)

abbrev pub ways_after : RawCode → Extent → ℕ → Option Instr → List ℕ
ways_after k extent at None = []
ways_after k extent at (Some i) = instr_ways k extent at i

abbrev pub ways_from : RawCode → Extent → ℕ → Option (List TableEntry) → List ℕ
ways_from k extent x (Some table) = table_ways k table
ways_from k extent x None = ways_after k extent (x - length k.tables) (slice_get k.instrs (x - length k.tables))

abbrev pub way_list : RawCode → Ways → List ℕ
way_list k way.None = []
way_list k (way.One x) = x ∷ []
way_list k (way.Two x y) = x ∷ y ∷ []
way_list k (way.Table t) = table_ways k t.now

-- the places to which a place leads
unfoldable pub ways : RawCode → Extent → ℕ → List ℕ
ways k extent x = ways_from k extent x (slice_get k.tables x)

abbrev pub begin : ℕ → ℕ → Start
begin place label = record { place = place; label = label }

-- these places, with one label
abbrev pub labelled : ℕ → List ℕ → List Start
labelled label places = map (λ (x : ℕ). begin x label) places

abbrev pub HasLabel : List (Option ℕ) → ℕ → ℕ → Type 0
HasLabel m x l = get_or m x None ≡ Some l

abbrev pub IsMarked : List (Option ℕ) → ℕ → Type 0
IsMarked m x = (l : ℕ) × HasLabel m x l

-- one place leads to another
abbrev pub Leads : (ℕ → List ℕ) → ℕ → ℕ → Type 0
Leads ways x y = Contains (ways x) y

-- a place reaches another
abbrev pub From : (ℕ → List ℕ) → ℕ → ℕ → Type 0
From ways x y = Reaches (Leads ways) (x ∷ []) y

-- the labels and the work before and after some places were visited
pub record Grown (starts : List Start) (m : List (Option ℕ)) (w : List Start) (m' : List (Option ℕ)) (w' : List Start) : Type 0 where
  pub long : length m' ≡ length m
  pub keeps : (x l : ℕ) → HasLabel m x l → HasLabel m' x l
  pub work : (s : Start) → Contains w s → Contains w' s
  pub fresh : (x l : ℕ) → HasLabel m' x l → HasLabel m x l ⊎ (Contains w' (begin x l) × Contains starts (begin x l))
  pub queued : (s : Start) → Contains w' s → Contains w s ⊎ HasLabel m' s.place s.label
  pub all : (s : Start) → Contains starts s → s.place < length m → IsMarked m' s.place

-- what was labelled so far, and what is still to be followed
pub record Marking (ways : ℕ → List ℕ) (starts : List Start) (m : List (Option ℕ)) (w : List Start) : Type 0 where
  pub sound : (x l : ℕ) → HasLabel m x l → (s : Start) × Contains starts s × (s.label ≡ l) × From ways s.place x
  pub queued : (s : Start) → Contains w s → HasLabel m s.place s.label
  pub begun : (s : Start) → Contains starts s → s.place < length m → IsMarked m s.place
  pub closed : (x l : ℕ) → HasLabel m x l → Contains w (begin x l) ⊎ ((y : ℕ) → Leads ways x y → y < length m → IsMarked m y)

-- the places without a label
abbrev pub unmarked : List (Option ℕ) → ℕ
unmarked m = sum_by (λ (o : Option ℕ). cond (is_some o) 0 1) m

-- what a place that is labelled and put with the work makes smaller
abbrev pub left : List (Option ℕ) → List Start → ℕ
left m w = 2 * unmarked m + length w
