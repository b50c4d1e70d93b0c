-- How a run ended, and where one was cut short.
use Rattle.std.specs.Prelude.{◌≡◌, ◌<◌, ℕ, true, false, List, ◌∷◌, ◌++◌, length, take}
use Rattle.std.specs.List.{AllPass}
use Rattle.cc_base.specs.Meaning.{Meaning}
use Rattle.cc_base.specs.declared.names.Pid.{Pid}
use Rattle.cc_rules.specs.Ends.{is_complete, has_faulted}
use Rattle.cc_rules.specs.Events.{request_at}
use Rattle.cc_rules.specs.Runs.{bytes_of, is_settling, printed, state_after}
use Rattle.cc_rules.specs.declared.event.Event.{Event}
use Rattle.cc_rules.specs.declared.event.Event.TheVariants.{Ask}
use Rattle.cc_rules.specs.declared.event.Word.TheVariants as word

-- every process has ended, none by a fault
pub record EndsWell (m : Meaning) (input : List ℕ) (events : List Event) : Type 0 where
  pub complete : is_complete (state_after m input events) ≡ true
  pub no_fault : has_faulted (state_after m input events) ≡ false

-- the bytes of what the process asks that has its turn after these events
abbrev pub asked_bytes : Meaning → List ℕ → List Event → Pid → List ℕ
asked_bytes m input events p = bytes_of (request_at m (state_after m input events) p)

-- the last turn of the run is the Ask of a Print, after which the machine settled; `bytes` are those of all Prints before
-- it and a proper first part of its own
pub record StopsInPrint (m : Meaning) (input : List ℕ) (events : List Event) (bytes : List ℕ) : Type 0 where
  pub before : List Event
  pub pid : Pid
  pub settling : List Event
  pub last_turn : events ≡ before ++ Ask pid word.Print ∷ settling
  pub settles : AllPass is_settling settling
  pub count : ℕ
  pub proper : count < length (asked_bytes m input before pid)
  pub parts : bytes ≡ printed m input before ++ take count (asked_bytes m input before pid)
