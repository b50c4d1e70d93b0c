-- What a run leaves that was driven as far as it went.
use Rattle.std.specs.Prelude.{◌≡◌, ◌≢◌, ◌≤◌, ◌⊎◌, ℕ, Bool, false, not, List, ◌∷◌, ◌++◌, Option}
use Rattle.std.specs.List.{AllPass}
use Rattle.cc_base.specs.Meaning.{Meaning}
use Rattle.cc_base.specs.declared.names.FaultKind.{FaultKind}
use Rattle.cc_base.specs.declared.names.Pid.{Pid}
use Rattle.cc_rules.specs.Faulted.{faults_from}
use Rattle.cc_rules.specs.Standing.{IsOver, standing_of}
use Rattle.cc_kernel.specs.Contract.{is_out_in}
use Rattle.cc_rules.specs.Ends.{is_complete}
use Rattle.cc_rules.specs.Events.{is_time, request_at, word_of}
use Rattle.cc_rules.specs.Runs.{IsRun, IsSettledRun, bytes_of, is_settling, printed, state_after, turns}
use Rattle.cc_rules.specs.Stops.{StopsInPrint}
use Rattle.cc_rules.specs.declared.event.Event.{Event}
use Rattle.cc_rules.specs.declared.event.Event.TheVariants.{Ask}
use Rattle.cc_rules.specs.declared.event.Standing.{Standing}
use Rattle.cc_world.specs.Told.{GrewBy}

-- the journal is a settled run of at most the allowed turns, the standing is that of the run, and the faults are those of
-- the processes that it stopped by one, by number
pub record IsRunOf (m : Meaning) (input : List ℕ) (allowed : ℕ) (journal : List Event) (faults : List (Pid × FaultKind)) (standing : Standing) : Type 0 where
  pub legal : IsRun m input journal
  pub settled : IsSettledRun m input journal
  pub within : turns journal ≤ allowed
  pub stands : standing ≡ standing_of m input journal allowed
  pub lists : faults ≡ faults_from 0 (state_after m input journal).processes

-- the run went as far as it goes, and the sink grew by exactly what it prints
pub record GoesToItsEnd (m : Meaning) (input : List ℕ) (journal : List Event) (standing : Standing) (held held_after : Option (List ℕ)) : Type 0 where
  pub over : IsOver standing
  pub prints : GrewBy held held_after (printed m input journal)

-- the last turn of the run is the Ask of a Print; the sink grew by what all Prints before it print and by a proper first
-- part of its own bytes
pub record StopsAtTheSink (m : Meaning) (input : List ℕ) (journal : List Event) (held held_after : Option (List ℕ)) : Type 0 where
  pub part : List ℕ
  pub stops : StopsInPrint m input journal part
  pub prints : GrewBy held held_after part

-- the run isn't complete, and this is exactly what it prints
pub record IsBetweenTurns (m : Meaning) (input : List ℕ) (journal : List Event) (part : List ℕ) : Type 0 where
  pub incomplete : is_complete (state_after m input journal) ≡ false
  pub all : part ≡ printed m input journal

-- it was out of memory between two turns, or in the Print of its last turn, of which the sink took a proper first part
pub record StopsForMemory (m : Meaning) (input : List ℕ) (journal : List Event) (held held_after : Option (List ℕ)) : Type 0 where
  pub part : List ℕ
  pub stops : IsBetweenTurns m input journal part ⊎ StopsInPrint m input journal part
  pub prints : GrewBy held held_after part

-- the event is no Time
abbrev pub is_untimed : Event → Bool
is_untimed event = not (is_time event)

-- no process is out
abbrev pub NoneOut : List Bool → Type 0
NoneOut outs = (p : ℕ) → is_out_in outs p ≡ false

-- the run went on with the request of one process, which prints these bytes, and then with events by which the machine settles
pub record GoesOn (m : Meaning) (input : List ℕ) (before journal : List Event) (bytes : List ℕ) : Type 0 where
  pub pid : Pid
  pub settling : List Event
  pub events : journal ≡ before ++ Ask pid (word_of (request_at m (state_after m input before) pid)) ∷ settling
  pub settles : AllPass is_settling settling
  pub prints : bytes ≡ bytes_of (request_at m (state_after m input before) pid)

-- no other process is out
abbrev pub OnlyOut : List Bool → ℕ → Type 0
OnlyOut outs p = (q : ℕ) → q ≢ p → is_out_in outs q ≡ false
