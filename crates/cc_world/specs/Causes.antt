-- When a call of an outside object may fail.
use Rattle.std.specs.Prelude.{◌≡◌, ◌≤◌, ◌+◌, ◌-◌, ◌^◌, ◌⊎◌, ℕ, min, Result, IsErrOf}
use Rattle.cc_world.specs.declared.fault.IoFault.{IoFault}
use Rattle.cc_world.specs.declared.fault.IoFault.TheVariants.{Failed, Memory}

-- a count rose, or stands at the last number of a u64
abbrev pub Rose : ℕ → ℕ → Type 0
Rose before now = min (before + 1) (2 ^ 64 - 1) ≤ now

-- a count of faults never falls, and rose where the answer is Failed
pub record HasCause {T : Type 0} (before now : ℕ) (result : Result T IoFault) : Type 0 where
  pub later : before ≤ now
  pub failed : IsErrOf result Failed → Rose before now

-- a count of refused growths never falls, and rose where the answer is Memory
pub record HasWant {T : Type 0} (before now : ℕ) (result : Result T IoFault) : Type 0 where
  pub later : before ≤ now
  pub memory : IsErrOf result Memory → Rose before now

-- the answer is Failed, or the count of faults is as it was
abbrev pub StaysUnlessFailed : {T : Type 0} → ℕ → ℕ → Result T IoFault → Type 0
StaysUnlessFailed before now result = IsErrOf result Failed ⊎ (now ≡ before)

-- a u64's count of faults after a call with this answer, where each fault is counted and nothing else
abbrev pub faults_after : {T : Type 0} → Result T IoFault → ℕ → ℕ
faults_after (Result.Ok _) count = count
faults_after (Result.Err Failed) count = min (count + 1) (2 ^ 64 - 1)
faults_after (Result.Err Memory) count = count

-- the same of a count of refused growths
abbrev pub wants_after : {T : Type 0} → Result T IoFault → ℕ → ℕ
wants_after (Result.Ok _) count = count
wants_after (Result.Err Failed) count = count
wants_after (Result.Err Memory) count = min (count + 1) (2 ^ 64 - 1)
