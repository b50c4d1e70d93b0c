-- The list of a text's faults: by place and then by number, each once.
use Rattle.std.specs.Prelude.{◌≡◌, ◌⊎◌, ◌↔◌, Result, Ok, Err, true, if◌then◌else◌, List, [], ◌∷◌, Option, Some, None}
use Rattle.cc_faults.specs.Faults.{before}
use Rattle.cc_faults.specs.Judged.{Judged, faults, found}
use Rattle.cc_faults.specs.declared.fault.FaultAt.{FaultAt}

abbrev pub insert : FaultAt → List FaultAt → List FaultAt
insert f [] = f ∷ []
insert f (g ∷ gs) = if before f g then f ∷ g ∷ gs else if before g f then g ∷ insert f gs else g ∷ gs

unfoldable pub sorted : List FaultAt → List FaultAt
sorted [] = []
sorted (f ∷ fs) = insert f (sorted fs)

unfoldable pub first : List FaultAt → Option FaultAt
first [] = None
first (f ∷ fs) = Some f

-- what is answered: where the list of faults is empty, what was found, and else the first of the list in order
abbrev pub IsVerdict : {A : Type 0} → Judged A → Result A FaultAt → Type 0
IsVerdict j (Ok v) = (sorted (faults j) ≡ []) × (found j ≡ Some v)
IsVerdict j (Err f) = first (sorted (faults j)) ≡ Some f

-- ---- what a list in order is

-- the fault is one of these
abbrev pub IsAmong : FaultAt → List FaultAt → Type 0
IsAmong f [] = ⊥
IsAmong f (g ∷ gs) = (g ≡ f) ⊎ IsAmong f gs

abbrev pub RisesFrom : FaultAt → List FaultAt → Type 0
RisesFrom f [] = Unit {0}
RisesFrom f (g ∷ gs) = (before f g ≡ true) × RisesFrom g gs

-- each stands before the next one, so none is there twice
abbrev pub Rises : List FaultAt → Type 0
Rises [] = Unit {0}
Rises (f ∷ fs) = RisesFrom f fs

-- the list in order rises, and has these faults and no others
abbrev pub IsInOrder : List FaultAt → Type 0
IsInOrder fs = Rises (sorted fs) × ((f : FaultAt) → IsAmong f (sorted fs) ↔ IsAmong f fs)

-- a text means a program, or its list has a fault
abbrev pub MeansOrFails : {A : Type 0} → Judged A → Type 0
MeansOrFails {A} j = ((v : A) × (found j ≡ Some v) × (sorted (faults j) ≡ [])) ⊎ ((f : FaultAt) × (found j ≡ None) × (first (sorted (faults j)) ≡ Some f))
