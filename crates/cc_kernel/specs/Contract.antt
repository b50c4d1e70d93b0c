-- What a kernel is to its callers. Nothing here speaks of what it keeps inside.
use Rattle.std.specs.Prelude.{◌≡◌, ◌≢◌, ℕ, ℤ, pos, Bool, true, false, List, [], ◌∷◌, ◌++◌, get_or, length, replicate, Option, None, Some}
use Rattle.std.specs.List.{AllPass}
use Rattle.cc_base.specs.Grants.{HasKind, IsNext, IsProper}
use Rattle.cc_base.specs.Meaning.{Meaning}
use Rattle.cc_base.specs.declared.names.Pid.{Pid}
use Rattle.cc_base.specs.declared.request.Grant.{Grant}
use Rattle.cc_base.specs.declared.request.Request.{Request}
use Rattle.cc_base.specs.declared.request.Request.TheVariants.{Pause, Create, Call, TimedCall, Send, Select, Delay, Reply, Print, Get, Done, Fault}
use Rattle.cc_rules.specs.Events.{request_at, word_of}
use Rattle.cc_rules.specs.Runs.{is_settling, state_after}
use Rattle.cc_rules.specs.Standing.{least}
use Rattle.cc_rules.specs.State.{is_running, process_at}
use Rattle.cc_rules.specs.declared.event.Event.{Event}
use Rattle.cc_rules.specs.declared.event.Event.TheVariants.{Ask, Time}

-- for what a kernel is prepared
pub data Prepared : Type 0 where
  -- nothing
  Nothing : Prepared
  -- a request that neither makes a process nor answers a call
  Step : Prepared
  -- a Create of this kind with these arguments
  Making : ℕ → List ℤ → Prepared
  -- a Reply of this value, with so many zeros at its end
  Answering : List ℤ → ℕ → Prepared
  -- a Time
  Moment : Prepared

-- what its calls see of a kernel; the state of the machine is that after the journal
pub record KernelView (B : Type 0) : Type 0 where
  pub code : B
  pub input : List ℕ
  -- how many turns are allowed
  pub turns : ℕ
  pub journal : List Event
  -- which processes are out, by number
  pub outs : List Bool
  pub prepared : Prepared

-- what is prepared is enough for this request
abbrev pub IsEnoughFor : Prepared → Request → Type 0
IsEnoughFor prepared Pause = prepared ≡ Step
IsEnoughFor prepared (Create kind args) = prepared ≡ Making kind args
IsEnoughFor prepared (Call target trans args) = prepared ≡ Step
IsEnoughFor prepared (TimedCall target trans args wait) = prepared ≡ Step
IsEnoughFor prepared (Send target trans args) = prepared ≡ Step
IsEnoughFor prepared (Select alts) = prepared ≡ Step
IsEnoughFor prepared (Delay wait) = prepared ≡ Step
IsEnoughFor prepared (Reply value) = (zeros : ℕ) × (prepared ≡ Answering (value ++ replicate zeros (pos 0)) zeros)
IsEnoughFor prepared (Print bytes) = prepared ≡ Step
IsEnoughFor prepared Get = prepared ≡ Step
IsEnoughFor prepared Done = prepared ≡ Step
IsEnoughFor prepared (Fault kind) = prepared ≡ Step

-- the kernel is prepared for this request
abbrev pub IsPreparedFor : {B : Type 0} → KernelView B → Request → Type 0
IsPreparedFor view r = IsEnoughFor view.prepared r

-- the process of this number is out
abbrev pub is_out_in : List Bool → ℕ → Bool
is_out_in outs p = get_or outs p false

-- the same processes are out
abbrev pub SameOuts : List Bool → List Bool → Type 0
SameOuts outs outs' = (p : ℕ) → is_out_in outs p ≡ is_out_in outs' p

-- the process of this number is out, and the program left it there
abbrev pub IsOutWith : {P : Type 0} → Meaning → (P → ℕ → List ℤ → List Grant → Type 0) → List ℕ → List Event → List Bool → ℕ → P → Type 0
IsOutWith m located input events outs p process =
    (is_out_in outs p ≡ true)
    × located process (process_at (state_after m input events).processes p).kind (process_at (state_after m input events).processes p).args (process_at (state_after m input events).processes p).grants

-- the process is running, its kind exists and its grants are proper; the last of them is this grant, which it is still to
-- be given after the others
pub record IsReadyWith {P : Type 0} (m : Meaning) (located : P → ℕ → List ℤ → List Grant → Type 0) (input : List ℕ) (events : List Event) (p : ℕ) (process : P) (grant : Grant) : Type 0 where
  pub running : is_running (process_at (state_after m input events).processes p).standing ≡ true
  pub kind : HasKind m (process_at (state_after m input events).processes p).kind (length (process_at (state_after m input events).processes p).args)
  pub proper : IsProper m (process_at (state_after m input events).processes p).kind (process_at (state_after m input events).processes p).args (process_at (state_after m input events).processes p).grants
  pub front : List Grant
  pub grants : (process_at (state_after m input events).processes p).grants ≡ front ++ grant ∷ []
  pub there : located process (process_at (state_after m input events).processes p).kind (process_at (state_after m input events).processes p).args front
  pub is_next : IsNext m (process_at (state_after m input events).processes p).kind (process_at (state_after m input events).processes p).args front grant

-- each process that is running is out
abbrev pub AllOut : Meaning → List ℕ → List Event → List Bool → Type 0
AllOut m input events outs =
    (p : ℕ) → is_running (process_at (state_after m input events).processes p).standing ≡ true → is_out_in outs p ≡ true

-- some process is running
abbrev pub SomeRunning : Meaning → List ℕ → List Event → Type 0
SomeRunning m input events = (p : ℕ) × (is_running (process_at (state_after m input events).processes p).standing ≡ true)

-- each process that is out is running
abbrev pub OutsRun : Meaning → List ℕ → List Event → List Bool → Type 0
OutsRun m input events outs =
    (p : ℕ) → is_out_in outs p ≡ true → is_running (process_at (state_after m input events).processes p).standing ≡ true

-- whoever is out, but for this process, is after the later events as it was after the earlier ones
abbrev pub OthersStay : Meaning → List ℕ → List Event → List Event → List Bool → Pid → Type 0
OthersStay m input before events outs p =
    (q : Pid)
    → q.0 ≢ p.0
    → is_out_in outs q.0 ≡ true
    → process_at (state_after m input events).processes q.0 ≡ process_at (state_after m input before).processes q.0

-- whoever is out is after the later events as it was after the earlier ones
abbrev pub AllStay : Meaning → List ℕ → List Event → List Event → List Bool → Type 0
AllStay m input before events outs =
    (p : Pid) → is_out_in outs p.0 ≡ true → process_at (state_after m input events).processes p.0 ≡ process_at (state_after m input before).processes p.0

-- a process that is out asks this
abbrev pub AsksNow : Meaning → List ℕ → List Event → List Bool → Request → Type 0
AsksNow m input events outs r =
    (p : Pid) × (is_out_in outs p.0 ≡ true) × (r ≡ request_at m (state_after m input events) p)

-- the journal went on with what this process asked, and then with events by which the machine settles
pub record StepsOn (before events : List Event) (p : Pid) (r : Request) : Type 0 where
  pub settling : List Event
  pub journal : events ≡ before ++ Ask p (word_of r) ∷ settling
  pub settles : AllPass is_settling settling

-- the journal went on with a Time of this moment, and then with events by which the machine settles
pub record MovesOn (before events : List Event) (moment : ℕ) : Type 0 where
  pub settling : List Event
  pub journal : events ≡ before ++ Time moment ∷ settling
  pub settles : AllPass is_settling settling

-- the least of these numbers; none where there is none
abbrev pub least_of : List ℕ → Option ℕ
least_of [] = None
least_of (n ∷ ns) = Some (least (n ∷ ns))
