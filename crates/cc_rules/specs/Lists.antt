-- What contracts see of the lists of this crate.
use Rattle.std.specs.Prelude.{◌<◌, ℕ, List, [], ◌∷◌, AllPairs, nat_lt, if◌then◌else◌}
use Rattle.cc_base.specs.declared.names.FaultKind.{FaultKind}
use Rattle.cc_base.specs.declared.names.Pid.{Pid}
use Rattle.cc_rules.specs.declared.event.Event.{Event}

-- the events of a journal, and for how many more it has room
pub record EventList : Type 0 where
  pub items : List Event
  pub spare : ℕ

-- processes with their faults, and for how many more there is room
pub record FaultList : Type 0 where
  pub items : List (Pid × FaultKind)
  pub spare : ℕ

-- each process has a smaller number than those after it
abbrev pub PidsRise : List (Pid × FaultKind) → Type 0
PidsRise faults = AllPairs (λ a b. a.0.0 < b.0.0) faults

-- the list with this process at its place by number
abbrev pub with_fault : List (Pid × FaultKind) → Pid × FaultKind → List (Pid × FaultKind)
with_fault [] item = item ∷ []
with_fault (f ∷ fs) item = if nat_lt f.0.0 item.0.0 then f ∷ with_fault fs item else item ∷ f ∷ fs
