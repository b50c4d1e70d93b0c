-- The statuses of the command.
use Rattle.std.specs.Prelude.{◌≡◌, ℕ, true, false, List, [], Result, Option, Some, None}
use Rattle.cc_base.specs.declared.names.FaultKind.{FaultKind}
use Rattle.cc_base.specs.declared.names.Pid.{Pid}
use Rattle.cc_base.specs.declared.names.Place.{Place}
use Rattle.cc_rules.specs.declared.event.Standing.{Standing}
use Rattle.cc_rules.specs.declared.event.Standing.TheVariants as standing
use Rattle.cc_command.specs.Reports.{fault_line, line_of, process_lines}
use Rattle.cc_command.specs.declared.cause.Cause.{Cause}
use Rattle.cc_command.specs.declared.cause.Cause.TheVariants.{Usage, Text, Shelf, Write, Memory}
use Rattle.cc_command.specs.declared.cause.Ending.{Ending}
use Rattle.cc_command.specs.declared.cause.Ending.TheVariants.{Well, Faulted, Stuck, Spent}
use Rattle.cc_command.specs.declared.text_fault.TextFaultKind.{TextFaultKind}

-- the status that tells how a run stands; none where the run goes on
abbrev pub status_at : Standing → Option ℕ
status_at (standing.Ended false) = Some 0
status_at (standing.Ended true) = Some 3
status_at standing.Stuck = Some 4
status_at standing.Spent = Some 5
status_at standing.Going = None
status_at (standing.Idle until) = None

-- the run stands so, with these faults
abbrev pub EndsSo : Ending → Standing → List (Pid × FaultKind) → Type 0
EndsSo Well stands faults = stands ≡ standing.Ended false
EndsSo (Faulted faulted) stands faults = (stands ≡ standing.Ended true) × (faulted.items ≡ faults)
EndsSo Stuck stands faults = stands ≡ standing.Stuck
EndsSo Spent stands faults = stands ≡ standing.Spent

-- the status of each ending
abbrev pub status_in : Ending → ℕ
status_in Well = 0
status_in (Faulted faults) = 3
status_in Stuck = 4
status_in Spent = 5

-- the status of each cause
abbrev pub status_for : Cause → ℕ
status_for Usage = 1
status_for (Text fault) = 2
status_for Shelf = 6
status_for Write = 8
status_for Memory = 9

abbrev pub status_of : Result Ending Cause → ℕ
status_of (Result.Ok ending) = status_in ending
status_of (Result.Err cause) = status_for cause

-- the fault of a text for which something was refused, if it was
abbrev pub IfText : {T : Type 0} → Result T Cause → (Place → TextFaultKind → Type 0) → Type 0
IfText (Result.Ok x) Is = Unit {0}
IfText (Result.Err (Text fault)) Is = Is fault.place fault.kind
IfText (Result.Err Usage) Is = Unit {0}
IfText (Result.Err Shelf) Is = Unit {0}
IfText (Result.Err Write) Is = Unit {0}
IfText (Result.Err Memory) Is = Unit {0}

-- the command was refused before a run
abbrev pub IsRefused : Result Ending Cause → Type 0
IsRefused (Result.Ok ending) = ⊥
IsRefused (Result.Err Usage) = Unit {0}
IsRefused (Result.Err (Text fault)) = Unit {0}
IsRefused (Result.Err Shelf) = Unit {0}
IsRefused (Result.Err Write) = ⊥
IsRefused (Result.Err Memory) = ⊥

-- what is reported, the lines each with a newline at its end
abbrev pub report_in : Ending → List ℕ
report_in Well = []
report_in (Faulted faults) = process_lines faults.items
report_in Stuck = line_of 4
report_in Spent = line_of 5

abbrev pub report_for : Cause → List ℕ
report_for Usage = line_of 1
report_for (Text fault) = fault_line fault.place fault.kind
report_for Shelf = line_of 6
report_for Write = line_of 8
report_for Memory = line_of 9

abbrev pub report_of : Result Ending Cause → List ℕ
report_of (Result.Ok ending) = report_in ending
report_of (Result.Err cause) = report_for cause
