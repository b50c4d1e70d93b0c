-- What holds of every state of a run.
use Rattle.std.specs.Prelude.{◌≡◌, ◌<◌, ◌≤◌, ◌+◌, ◌⊎◌, ℕ, ℤ, Bool, true, false, List, [], length, slice_get, Some, All, AllPairs, count_by, sum_by, nat_eq}
use Rattle.std.specs.List.{Contains}
use Rattle.cc_base.specs.Meaning.{Meaning}
use Rattle.cc_base.specs.declared.names.CallId.{CallId}
use Rattle.cc_base.specs.declared.names.Pid.{Pid}
use Rattle.cc_base.specs.declared.request.Request.{Request}
use Rattle.cc_base.specs.declared.request.Request.TheVariants.{Pause, Create, Call, TimedCall, Send, Select, Delay, Reply, Print, Get, Done, Fault}
use Rattle.cc_rules.specs.Effects.{caller_of}
use Rattle.cc_base.specs.Grants.{argument_cells, IsProper}
use Rattle.cc_rules.specs.State.{Process, State, process_at, is_over}
use Rattle.cc_rules.specs.declared.process.TransactionCall.{TransactionCall}
use Rattle.cc_rules.specs.declared.process.ProcessStanding.{ProcessStanding}
use Rattle.cc_rules.specs.declared.process.ProcessStanding.TheVariants.{Running, AtSelect, AtDelay, AtCall, Ended, Faulted}
use Rattle.cc_rules.specs.declared.process.Waiting.{Waiting}
use Rattle.cc_rules.specs.declared.process.Waiting.TheVariants.{Nobody, Caller, Until}

-- what the process asks after the grants that it has
abbrev pub asks : Meaning → Process → Request
asks m q = m.act q.kind q.args q.grants

-- a synchronous call, with or without a deadline
abbrev pub is_call : Request → Bool
is_call Pause = false
is_call (Create kind args) = false
is_call (Call target trans args) = true
is_call (TimedCall target trans args wait) = true
is_call (Send target trans args) = false
is_call (Select alts) = false
is_call (Delay wait) = false
is_call (Reply value) = false
is_call (Print bytes) = false
is_call Get = false
is_call Done = false
is_call (Fault kind) = false

-- the standing belongs to the last request, where the process is at what it asked for
abbrev pub BelongsTo : ProcessStanding → Request → Type 0
BelongsTo Running request = Unit {0}
BelongsTo (AtSelect alts asked) request = request ≡ Select alts
BelongsTo (AtDelay deadline) request = (wait : ℤ) × (request ≡ Delay wait)
BelongsTo (AtCall call) request = is_call request ≡ true
BelongsTo Ended request = Unit {0}
BelongsTo (Faulted kind) request = Unit {0}

-- the process has a kind that exists, as many arguments, and grants that are proper; it stands by its last request, and
-- serves no call when it is over
pub record SoundProcess (m : Meaning) (q : Process) : Type 0 where
  pub kind_exists : slice_get m.kinds q.kind ≡ Some (length q.args)
  pub proper : IsProper m q.kind q.args q.grants
  pub stands : BelongsTo q.standing (asks m q)
  pub free : is_over q.standing ≡ true → q.serving ≡ []

-- the call is pending, or a process serves it
abbrev pub Stands : List Process → List TransactionCall → TransactionCall → Type 0
Stands processes pending call = Contains pending call ⊎ ((p : ℕ) × Contains (process_at processes p).serving call)

-- how many of the calls have this number
abbrev pub count_numbered : ℕ → List TransactionCall → ℕ
count_numbered n calls = count_by (λ call. nat_eq call.number.0 n) calls

-- how many calls of this number are pending or served
abbrev pub count_standing : List Process → List TransactionCall → ℕ → ℕ
count_standing processes pending n = count_numbered n pending + sum_by (λ q. count_numbered n q.serving) processes

-- the call's number was drawn, its transaction exists and has as many argument cells, and whoever waits for the answer
-- is at this call
pub record SoundCall (m : Meaning) (processes : List Process) (drawn : ℕ) (call : TransactionCall) : Type 0 where
  pub number_drawn : call.number.0 < drawn
  pub arguments : argument_cells m call.trans ≡ Some (length call.args)
  pub waits : (p : Pid) → caller_of call.waiting ≡ Some p → (process_at processes p.0).standing ≡ AtCall call.number

-- process p waits for the call, since it asked for it by this request: by a TimedCall exactly where the call is timed
abbrev pub IsAskedBy : Waiting → ℕ → TransactionCall → Request → Type 0
IsAskedBy Nobody p call request = ⊥
IsAskedBy (Caller q) p call request = (q.0 ≡ p) × (request ≡ Call call.target call.trans call.args)
IsAskedBy (Until q deadline) p call request =
    (q.0 ≡ p) × ((wait : ℤ) × (request ≡ TimedCall call.target call.trans call.args wait))

-- a call of this number is pending or served, and process p waits for it and asked for it last
pub record IsAwaited (m : Meaning) (processes : List Process) (pending : List TransactionCall) (p : ℕ) (number : CallId) : Type 0 where
  pub call : TransactionCall
  pub there : Stands processes pending call
  pub same_number : call.number ≡ number
  pub asked : IsAskedBy call.waiting p call (asks m (process_at processes p))

-- the state is sound
pub record Sound (m : Meaning) (s : State) : Type 0 where
  pub each_process : All (SoundProcess m) s.processes
  -- the pending calls stand in rising number
  pub rising : AllPairs (λ a b. a.number.0 < b.number.0) s.pending
  -- no call is pending or served twice
  pub once : (n : ℕ) → count_standing s.processes s.pending n ≤ 1
  pub each_call : (call : TransactionCall) → Stands s.processes s.pending call → SoundCall m s.processes s.drawn call
  -- whoever is at a call waits for one that is pending or served
  pub awaited : (p : ℕ) (number : CallId) → (process_at s.processes p).standing ≡ AtCall number → IsAwaited m s.processes s.pending p number
  -- the target of a pending call isn't over
  pub targets : All (λ call. is_over (process_at s.processes call.target.0).standing ≡ false) s.pending
