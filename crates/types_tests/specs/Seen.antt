-- Texts as plain trees, and the first fault of each.
use Rattle.std.specs.Prelude.{◌≡◌, ℕ, List, [], ◌∷◌, Option}
use Rattle.cc_base.specs.declared.names.Place.{Place}
use Rattle.cc_faults.specs.Judged.{faults}
use Rattle.cc_faults.specs.Programs.{program}
use Rattle.cc_faults.specs.Sorted.{first, sorted}
use Rattle.cc_faults.specs.declared.fault.FaultAt.{FaultAt}
use Rattle.cc_faults.specs.declared.fault.TypeKind.{TypeKind}
use Rattle.cc_faults.specs.declared.plain.Identifier.{Identifier}
use Rattle.cc_faults.specs.declared.plain.Plain.{Plain}

abbrev pub at : ℕ → ℕ → Place
at line column = record { line = line; column = column }

-- the name of this number at a place
abbrev pub x : ℕ → ℕ → ℕ → Identifier
x line column name = record { place = at line column; name = name }

abbrev pub fault_at : ℕ → ℕ → TypeKind → FaultAt
fault_at line column k = record { place = at line column; kind = k }

abbrev pub Row : Type 0
Row = Plain × Option FaultAt

-- each text has the fault that is written beside it as its first
abbrev pub Hold : List Row → Type 0
Hold [] = Unit {0}
Hold (row ∷ rows) = (first (sorted (faults (program row.0))) ≡ row.1) × Hold rows
