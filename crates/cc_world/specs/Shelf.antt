-- Files by name, and the calls that failed.
use Rattle.std.specs.Prelude.{◌≡◌, ◌<◌, ◌&&◌, ℕ, Bool, true, false, List, [], ◌∷◌, ◌++◌, take, count_by, Option, Some, IfSome, Result, option_map}
use Rattle.std.specs.Ordering.{nat_cmp}
use Rattle.std.specs.Cmp.Lexicographic.{slice_cmp}
use Rattle.std.specs.FinMap as map
use Rattle.std.specs.Str.{bytes_eq}
use Rattle.cc_world.specs.declared.fault.IoFault.{IoFault}
use Rattle.cc_world.specs.declared.fault.IoFault.TheVariants.{Failed, Memory}
use Rattle.cc_world.specs.declared.fault.ShelfCall.{ShelfCall}
use Rattle.cc_world.specs.declared.fault.ShelfCall.TheVariants.{Read, Write}

-- what each file holds, by the bytes of its name
abbrev pub Files : Type 0
Files = map.FinMap (slice_cmp nat_cmp) (List ℕ)

-- the bytes are the first of a file, so many at most, where the files are told; the file is there
abbrev pub IsStartOf : Option Files → List ℕ → ℕ → List ℕ → Type 0
IsStartOf files name most bytes = IfSome files (λ m. option_map (λ whole. take most whole) (map.get m name) ≡ Some bytes)

-- the files after this one was set
abbrev pub Written : Option Files → List ℕ → List ℕ → Option Files
Written old name bytes = option_map (λ m. map.insert m name bytes) old

-- a call that failed: the name, and which call
abbrev pub Missed : Type 0
Missed = List ℕ × ShelfCall

-- the failed calls after a call of this name with this answer
abbrev pub missed_after : {T : Type 0} → Result T IoFault → List Missed → List ℕ → ShelfCall → List Missed
missed_after (Result.Ok _) before name call = before
missed_after (Result.Err Failed) before name call = before ++ (name, call) ∷ []
missed_after (Result.Err Memory) before name call = before

-- the same call
abbrev pub same_call : ShelfCall → ShelfCall → Bool
same_call Read Read = true
same_call Write Write = true
same_call _ _ = false

-- a failed call is this call of this name
abbrev pub is_of : ShelfCall → List ℕ → Missed → Bool
is_of call name missed = same_call call missed.1 && bytes_eq name missed.0

-- how often this call of this name failed
abbrev pub count_of : ShelfCall → List ℕ → List Missed → ℕ
count_of call name missed = count_by (is_of call name) missed

-- this call of this name failed more often
abbrev pub FailedMore : ShelfCall → List ℕ → List Missed → List Missed → Type 0
FailedMore call name before now = count_of call name before < count_of call name now
