-- What callers see of a stepper, and what it keeps.
use Rattle.std.specs.Prelude.{◌≡◌, ◌≤◌, ℕ, Bool, List, length}
use Rattle.cc_base.specs.Meaning.{Meaning}
use Rattle.cc_rules.specs.Runs.{IsRun, printed, state_after, turns}
use Rattle.cc_rules.specs.State.{State}
use Rattle.cc_rules.specs.declared.event.Event.{Event}

-- its program and input, and the events that it took; the state of the machine is that after them. One that was out of
-- memory has stopped.
pub record PlainView (B : Type 0) : Type 0 where
  pub code : B
  pub input : List ℕ
  pub events : List Event
  pub stopped : Bool

-- the events are a run, with so many turns; this is the state after them, and these bytes are what they print
pub record IsAfter (m : Meaning) (input : List ℕ) (events : List Event) (spent : ℕ) (state : State) (bytes : List ℕ) : Type 0 where
  pub runs : IsRun m input events
  pub state_is : state ≡ state_after m input events
  pub bytes_are : bytes ≡ printed m input events
  pub spent_turns : spent ≡ turns events
  -- no more calls than events
  pub low : state.drawn ≤ length events
