-- What settling does.
use Rattle.std.specs.Prelude.{◌≡◌, ℕ, ℤ, false, true, List, ◌++◌}
use Rattle.std.specs.List.{AllPass, list_any}
use Rattle.cc_base.specs.Meaning.{Meaning}
use Rattle.cc_base.specs.declared.request.Grant.{Grant}
use Rattle.cc_kernel.specs.Store.{IsState, Contents}
use Rattle.cc_rules.specs.Choice.{is_acceptable, takes_at_once}
use Rattle.cc_rules.specs.Events.{is_legal, next}
use Rattle.cc_rules.specs.Ends.{is_unsettled}
use Rattle.cc_rules.specs.Runs.{IsRunFrom, after, is_settling}
use Rattle.cc_rules.specs.State.{State}
use Rattle.cc_rules.specs.declared.event.Event.{Event}

-- from this state the journal went on with legal events by which the machine settles, and the state after them is kept
pub record GoesOn {P : Type 0} (m : Meaning) (located : P → ℕ → List ℤ → List Grant → Type 0) (first : State) (before events : List Event) (x : Contents P) : Type 0 where
  pub more : List Event
  pub journal : events ≡ before ++ more
  pub settles : AllPass is_settling more
  pub runs : IsRunFrom m first more
  pub state : IsState located (after m first more) x

-- no call can be taken, and no immediate alternative
pub record IsCalm (m : Meaning) (s : State) : Type 0 where
  pub no_call : list_any (is_acceptable m s) s.pending ≡ false
  pub none_at_once : (p i : ℕ) → takes_at_once m s p i ≡ false

-- this event is legal, the machine settles by it, and the state after it is kept
pub record TakesOne {P : Type 0} (m : Meaning) (located : P → ℕ → List ℤ → List Grant → Type 0) (s : State) (e : Event) (x : Contents P) : Type 0 where
  pub legal : is_legal m s e ≡ true
  pub settling : is_settling e ≡ true
  pub state : IsState located (next m s e) x

-- and no event is legal by which the machine would settle
pub record Settles {P : Type 0} (m : Meaning) (located : P → ℕ → List ℤ → List Grant → Type 0) (first : State) (before events : List Event) (x : Contents P) : Type 0 where
  pub goes_on : GoesOn m located first before events x
  pub settled : is_unsettled m (after m first goes_on.more) ≡ false
