-- What the command leaves, for each way in which it ends.
use Rattle.std.specs.Prelude.{◌≡◌, ◌≤◌, ◌⊎◌, ℕ, false, List, [], Option, Some, None, IfSome, option_map}
use Rattle.std.specs.FinMap as map
use Rattle.cc_base.specs.declared.names.FaultKind.{FaultKind}
use Rattle.cc_base.specs.declared.names.Pid.{Pid}
use Rattle.cc_base.specs.declared.names.Place.{Place}
use Rattle.cc_command.specs.Reports.{fault_line, run_report}
use Rattle.cc_command.specs.Statuses.{report_in, status_at, status_in}
use Rattle.cc_command.specs.Texts.{HasFault, MeansProgram}
use Rattle.cc_command.specs.declared.cause.Ending.{Ending}
use Rattle.cc_command.specs.declared.running.TheConstants.{MOST_TURNS}
use Rattle.cc_command.specs.declared.text_fault.TextFaultKind.{TextFaultKind}
use Rattle.cc_rules.specs.Ends.{is_complete}
use Rattle.cc_rules.specs.Faulted.{faults_from}
use Rattle.cc_rules.specs.Runs.{IsRun, IsSettledRun, printed, state_after, turns}
use Rattle.cc_rules.specs.Standing.{standing_of}
use Rattle.cc_rules.specs.Stops.{EndsWell, StopsInPrint}
use Rattle.cc_rules.specs.declared.event.Event.{Event}
use Rattle.cc_source.specs.Programs.{meaning}
use Rattle.cc_typed.specs.Parts.{Parts}
use Rattle.cc_world.specs.Shelf.{Files}
use Rattle.cc_world.specs.Told.{GrewBy}

-- the file holds this text, where the shelf tells what it holds
abbrev pub HoldsText : Option Files → List ℕ → List ℕ → Type 0
HoldsText files file text = IfSome files (λ contents. map.get contents file ≡ Some text)

-- the shelf tells that the file holds this text
abbrev pub TellsText : Option Files → List ℕ → List ℕ → Type 0
TellsText files file text = option_map (λ contents. map.get contents file) files ≡ Some (Some text)

-- the shelf tells that there is no such file
abbrev pub TellsNone : Option Files → List ℕ → Type 0
TellsNone files file = option_map (λ contents. map.get contents file) files ≡ Some None

-- the file holds a text with this first fault, its own text where the shelf tells it
pub record FileHasFault (files : Option Files) (file : List ℕ) (place : Place) (kind : TextFaultKind) : Type 0 where
  pub text : List ℕ
  pub held : HoldsText files file text
  pub fault : HasFault text place kind

-- the file holds a text with a first fault, and the line of that fault is reported
pub record ReportsFault (files : Option Files) (file : List ℕ) (Reports : List ℕ → Type 0) : Type 0 where
  pub place : Place
  pub kind : TextFaultKind
  pub has : FileHasFault files file place kind
  pub reported : Reports (fault_line place kind)

-- the file holds a text that means this program, its own text where the shelf tells it
pub record FileMeans (files : Option Files) (file : List ℕ) (program : Parts) : Type 0 where
  pub text : List ℕ
  pub held : HoldsText files file text
  pub means : MeansProgram text program

-- the file holds the text of a program, and of that program this is true
pub record HoldsProgram (files : Option Files) (file : List ℕ) (Then : Parts → Type 0) : Type 0 where
  pub program : Parts
  pub means : FileMeans files file program
  pub follows : Then program

-- the processes that a run of the program has stopped by a fault, by number
abbrev pub faults_of : Parts → List Event → List (Pid × FaultKind)
faults_of program journal = faults_from 0 (state_after (meaning program) [] journal).processes

-- the journal is a settled run of the program, of at most the allowed turns
pub record IsAllowedRun (program : Parts) (journal : List Event) : Type 0 where
  pub legal : IsRun (meaning program) [] journal
  pub settled : IsSettledRun (meaning program) [] journal
  pub within : turns journal ≤ MOST_TURNS

-- the run went as far as it goes, which the status tells, and the sink grew by exactly what the run prints; with status 0
-- every process has ended, none by a fault
pub record RunsAsFarAsItGoes (program : Parts) (journal : List Event) (status : ℕ) (held held_after : Option (List ℕ)) : Type 0 where
  pub run : IsAllowedRun program journal
  pub stands : status_at (standing_of (meaning program) [] journal MOST_TURNS) ≡ Some status
  pub prints : GrewBy held held_after (printed (meaning program) [] journal)
  pub ends : status ≡ 0 → EndsWell (meaning program) [] journal

-- the run ended so, and its report is that of its status and of the processes that it has stopped
pub record RunsTo (program : Parts) (journal : List Event) (ending : Ending) (held held_after : Option (List ℕ)) : Type 0 where
  pub goes : RunsAsFarAsItGoes program journal (status_in ending) held held_after
  pub reports : report_in ending ≡ run_report (status_in ending) (faults_of program journal)

-- the last turn of the run is the Ask of a Print; the sink grew by what all Prints before it print and by a proper first
-- part of its own bytes
pub record RunsUntilThePrintFails (program : Parts) (journal : List Event) (held held_after : Option (List ℕ)) : Type 0 where
  pub run : IsAllowedRun program journal
  pub part : List ℕ
  pub prints : GrewBy held held_after part
  pub stops : StopsInPrint (meaning program) [] journal part
  pub incomplete : is_complete (state_after (meaning program) [] journal) ≡ false

-- the run isn't complete, and the sink grew by exactly what it prints; or the last turn of the run is the Ask of a Print, and
-- the sink grew by what all Prints before it print and by a proper first part of its own bytes
pub record RunsUntilOutOfMemory (program : Parts) (journal : List Event) (held held_after : Option (List ℕ)) : Type 0 where
  pub run : IsAllowedRun program journal
  pub part : List ℕ
  pub prints : GrewBy held held_after part
  pub stops : (part ≡ printed (meaning program) [] journal) ⊎ StopsInPrint (meaning program) [] journal part
  pub incomplete : is_complete (state_after (meaning program) [] journal) ≡ false
