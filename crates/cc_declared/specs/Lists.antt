-- Lists that are made one by one, up to the first fault.
use Rattle.std.specs.Prelude.{ℕ, Bool, true, false, List, [], ◌∷◌, ◌++◌, if◌then◌else◌, Result, Ok, Err}
use Rattle.cc_faults.specs.Judged.{Judged, faults}
use Rattle.cc_faults.specs.Scopes.{is_among}
use Rattle.cc_faults.specs.declared.fault.FaultAt.{FaultAt}
use Rattle.cc_faults.specs.declared.fault.TypeKind.TheVariants as kind
use Rattle.cc_faults.specs.declared.plain.Identifier.{Identifier}

-- a name at the end, unless it is there
unfoldable pub and_once : List ℕ → ℕ → List ℕ
and_once names x = if is_among names x then names else names ++ x ∷ []

-- one more at the end, or the first fault
unfoldable pub and_put : {A : Type 0} → Result (List A) FaultAt → Result A FaultAt → Result (List A) FaultAt
and_put (Err f) one = Err f
and_put (Ok all) (Ok v) = Ok (all ++ v ∷ [])
and_put (Ok all) (Err f) = Err f

-- what was found first, unless the second has a fault
unfoldable pub and_keep : {A B : Type 0} → Result A FaultAt → Result B FaultAt → Result A FaultAt
and_keep (Err f) one = Err f
and_keep (Ok v) (Ok w) = Ok v
and_keep (Ok v) (Err f) = Err f

-- what is made of what was found
unfoldable pub made_of : {A B : Type 0} → (A → B) → Result A FaultAt → Result B FaultAt
made_of f (Ok v) = Ok (f v)
made_of f (Err g) = Err g

-- a rule of what was found
unfoldable pub ruled : {A B : Type 0} → Result A FaultAt → (A → Result B FaultAt) → Result B FaultAt
ruled (Ok v) rule = rule v
ruled (Err f) rule = Err f

-- its faults
unfoldable pub faults_ruled : {A B : Type 0} → Result A FaultAt → (A → Judged B) → List FaultAt
faults_ruled (Ok v) rule = faults (rule v)
faults_ruled (Err f) rule = []

-- both, or the first fault
unfoldable pub paired : {A B : Type 0} → Result A FaultAt → Result B FaultAt → Result (A × B) FaultAt
paired (Err f) b = Err f
paired (Ok v) (Ok w) = Ok (v, w)
paired (Ok v) (Err f) = Err f

-- a name that is taken has that fault first
unfoldable pub unless_taken : {A : Type 0} → Bool → Identifier → Result A FaultAt → Result A FaultAt
unless_taken true x found = Err (record { place = x.place; kind = kind.Duplicate })
unless_taken false x found = found
