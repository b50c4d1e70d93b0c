-- Small programs that are written out by hand, and what is shown of them. A script follows its text on the grants of the
-- run that is shown, and on no others; so do its ranks.
use Rattle.std.specs.Prelude.{◌≡◌, ℕ, ◌+◌, ◌-◌, ℤ, pos, negsuc, true, false, List, [], ◌∷◌, length, get_or, Option, Some}
use Rattle.cc_base.specs.Meaning.{Meaning}
use Rattle.cc_base.specs.declared.names.CallId.{CallId}
use Rattle.cc_base.specs.declared.names.Pid.{Pid}
use Rattle.cc_base.specs.declared.names.Shape.{Shape}
use Rattle.cc_base.specs.declared.request.Grant.{Grant}
use Rattle.cc_base.specs.declared.request.Grant.TheVariants.{Go, Value}
use Rattle.cc_base.specs.declared.request.Request.{Request}
use Rattle.cc_base.specs.declared.request.Request.TheVariants as request
use Rattle.cc_rules.specs.Events.{is_legal}
use Rattle.cc_rules.specs.Ends.{has_faulted, is_complete, is_stuck}
use Rattle.cc_base.specs.Requests.{WellFormed}
use Rattle.cc_rules.specs.Runs.{IsRun, IsSettledRun, printed, state_after}
use Rattle.cc_rules.specs.declared.event.Event.{Event}
use Rattle.cc_rules.specs.declared.event.Event.TheVariants.{Ask, Accept, Instant, Expire, Withdraw}
use Rattle.cc_rules.specs.declared.event.Word.{Word}

-- what a process asks next, by the grant that it has just got
abbrev pub Step : Type 0
Step = Grant → Request

-- it asks this, whatever it was granted
abbrev pub then_ask : Request → Step
then_ask request grant = request

-- the step of each kind of process after its first grant, its second and so on, and Done after the last
abbrev pub scripted_act : List (List Step) → ℕ → List ℤ → List Grant → Request
scripted_act scripts kind args grants =
    get_or (get_or scripts kind []) (length grants - 1) (then_ask request.Done) (get_or grants (length grants - 1) Go)

-- the program with these kinds, transactions, scripts and ranks
abbrev pub scripted : List ℕ → List Shape → List (List Step) → (ℕ → List ℤ → List ℤ → Option ℤ) → Meaning
scripted kinds shapes scripts fit = record { kinds = kinds; shapes = shapes; act = scripted_act scripts; fit = fit }

-- each call fits, and none goes before another but by its number
abbrev pub fits_all : ℕ → List ℤ → List ℤ → Option ℤ
fits_all site env args = Some (pos 0)

-- a synchronous transaction with these numbers of cells, and an asynchronous one
abbrev pub waited : ℕ → ℕ → Shape
waited args value = record { is_async = false; args = args; value = value }

abbrev pub unwaited : ℕ → Shape
unwaited args = record { is_async = true; args = args; value = 0 }

abbrev pub pid : ℕ → Pid
pid p = record { 0 = p }

abbrev pub call_id : ℕ → CallId
call_id c = record { 0 = c }

-- the digit of a number from 0 to 9
abbrev pub digit : ℤ → ℕ
digit (pos n) = 48 + n
digit (negsuc n) = 48

abbrev pub first_cell : List ℤ → ℤ
first_cell [] = pos 0
first_cell (cell ∷ cells) = cell

-- the value of the call that was answered, or 7 where it was late
abbrev pub value_or_seven : Grant → ℤ
value_or_seven (Value cells) = first_cell cells
value_or_seven _ = pos 7

-- the events
abbrev pub asks : ℕ → Word → Event
asks p word = Ask (pid p) word

abbrev pub accepts : ℕ → ℕ → ℕ → Event
accepts p alt call = Accept (pid p) alt (call_id call)

abbrev pub at_once : ℕ → ℕ → Event
at_once p alt = Instant (pid p) alt

abbrev pub expires : ℕ → ℕ → Event
expires p alt = Expire (pid p) alt

abbrev pub withdraws : ℕ → Event
withdraws call = Withdraw (call_id call)

-- the events are a settled run of the program, which is well formed, on no input, and print these bytes
pub record IsWorked (m : Meaning) (events : List Event) (bytes : List ℕ) : Type 0 where
  pub well_formed : WellFormed m
  pub run : IsRun m [] events
  pub settled : IsSettledRun m [] events
  pub prints : printed m [] events ≡ bytes

-- after these events the event isn't legal
abbrev pub IsRefused : Meaning → List Event → Event → Type 0
IsRefused m events event = is_legal m (state_after m [] events) event ≡ false

-- the run is over, and some process was stopped by a fault
pub record EndsFaulted (m : Meaning) (events : List Event) : Type 0 where
  pub complete : is_complete (state_after m [] events) ≡ true
  pub fault : has_faulted (state_after m [] events) ≡ true

-- nothing can go on
abbrev pub EndsStuck : Meaning → List Event → Type 0
EndsStuck m events = is_stuck m (state_after m [] events) ≡ true
