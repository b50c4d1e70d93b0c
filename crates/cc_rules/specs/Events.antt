-- When an event is legal, and what it does.
use Rattle.std.specs.Prelude.{ℕ, Bool, true, false, ◌&&◌, not, if◌then◌else◌, List, [], ◌∷◌, ◌++◌, map, set, filter, nat_eq, nat_lt, nat_le}
use Rattle.std.specs.List.{enumerate_from}
use Rattle.std.specs.Option.{option_map_or}
use Rattle.cc_base.specs.Meaning.{Meaning}
use Rattle.cc_base.specs.declared.names.Pid.{Pid}
use Rattle.cc_base.specs.declared.request.Grant.{Grant}
use Rattle.cc_base.specs.declared.request.Grant.TheVariants.{Go, Late, Took, Chose}
use Rattle.cc_base.specs.declared.request.Request.{Request}
use Rattle.cc_base.specs.declared.request.Request.TheVariants as request
use Rattle.cc_rules.specs.Choice.{accepts, call_numbered, expires, may_withdraw, takes_at_once}
use Rattle.cc_rules.specs.Effects.{answered, effect, grant_to, granted}
use Rattle.cc_rules.specs.Ends.{has_deadline, has_running, is_complete, is_due, is_stuck, is_unsettled, waits_at_terminate}
use Rattle.cc_rules.specs.State.{State, process_at, is_running}
use Rattle.cc_rules.specs.declared.event.Event.{Event}
use Rattle.cc_rules.specs.declared.event.Event.TheVariants.{Ask, Accept, Instant, Expire, Withdraw, Time, End}
use Rattle.cc_rules.specs.declared.event.Word.{Word}
use Rattle.cc_rules.specs.declared.event.Word.TheVariants as word
use Rattle.cc_rules.specs.declared.process.TransactionCall.{TransactionCall}
use Rattle.cc_rules.specs.declared.process.ProcessStanding.{ProcessStanding}
use Rattle.cc_rules.specs.declared.process.ProcessStanding.TheVariants.{Running, AtSelect, AtDelay, AtCall, Ended, Faulted}

-- the word that names a request
abbrev pub word_of : Request → Word
word_of request.Pause = word.Pause
word_of (request.Create kind args) = word.Create
word_of (request.Call target trans args) = word.Call
word_of (request.TimedCall target trans args wait) = word.TimedCall
word_of (request.Send target trans args) = word.Send
word_of (request.Select alts) = word.Select
word_of (request.Delay wait) = word.Delay
word_of (request.Reply value) = word.Reply
word_of (request.Print bytes) = word.Print
word_of request.Get = word.Get
word_of request.Done = word.Done
word_of (request.Fault kind) = word.Fault

abbrev pub same_word : Word → Word → Bool
same_word word.Pause word.Pause = true
same_word word.Create word.Create = true
same_word word.Call word.Call = true
same_word word.TimedCall word.TimedCall = true
same_word word.Send word.Send = true
same_word word.Select word.Select = true
same_word word.Delay word.Delay = true
same_word word.Reply word.Reply = true
same_word word.Print word.Print = true
same_word word.Get word.Get = true
same_word word.Done word.Done = true
same_word word.Fault word.Fault = true
same_word _ _ = false

-- what process p asks now
abbrev pub request_at : Meaning → State → Pid → Request
request_at m s p =
    let q = process_at s.processes p.0 in m.act q.kind q.args q.grants

-- when an event other than End is legal, where the collective end isn't due
abbrev pub is_allowed : Meaning → State → Event → Bool
is_allowed m s (Ask p w) = is_running (process_at s.processes p.0).standing && same_word w (word_of (request_at m s p))
is_allowed m s (Accept p i c) = option_map_or (accepts m s p.0 i) (call_numbered s.pending c.0) false
is_allowed m s (Instant p i) = takes_at_once m s p.0 i
is_allowed m s (Expire p i) = expires m s p.0 i
is_allowed m s (Withdraw c) = option_map_or (may_withdraw m s) (call_numbered s.pending c.0) false
is_allowed m s (Time t) =
    nat_le s.moment t
    && not (is_unsettled m s)
    && not (is_complete s)
    && not (is_stuck m s)
    && (if has_running s then nat_lt s.moment t && not s.after_time else has_deadline s)
is_allowed m s End = false

abbrev pub is_end : Event → Bool
is_end (Ask p w) = false
is_end (Accept p i c) = false
is_end (Instant p i) = false
is_end (Expire p i) = false
is_end (Withdraw c) = false
is_end (Time t) = false
is_end End = true

-- the event is legal: where the collective end is due, End alone
abbrev pub is_legal : Meaning → State → Event → Bool
is_legal m s event = if is_due m s then is_end event else is_allowed m s event

abbrev pub without_call : List TransactionCall → TransactionCall → List TransactionCall
without_call pending call = filter (λ other. not (nat_eq other.number.0 call.number.0)) pending

-- p serves the call, which it took by its alternative i
abbrev pub accepted : State → ℕ → ℕ → TransactionCall → State
accepted s p i call =
    let q = process_at s.processes p in
    record s {
      processes = set s.processes p (record (granted q (Took i call.args)) { serving = q.serving ++ call ∷ [] });
      pending = without_call s.pending call;
    }

-- what p is granted as it expires by i: at a select the choice of i, at a delay that it goes on
abbrev pub expiry_grant : ℕ → ProcessStanding → Grant
expiry_grant i Running = Chose i
expiry_grant i (AtSelect alts asked) = Chose i
expiry_grant i (AtDelay deadline) = Go
expiry_grant i (AtCall call) = Chose i
expiry_grant i Ended = Chose i
expiry_grant i (Faulted kind) = Chose i

-- the call is removed, and its caller goes on
abbrev pub withdrawn : State → TransactionCall → State
withdrawn s call = record s { processes = answered s.processes call Late; pending = without_call s.pending call }

-- every process that waits at terminate has ended and serves no call, and no call is pending
abbrev pub all_ended : Meaning → State → State
all_ended m s =
    record s {
      processes =
          map (λ e. if waits_at_terminate m s e.0 then record e.1 { standing = Ended; serving = [] } else e.1) (enumerate_from 0 s.processes);
      pending = [];
      end_taken = true;
    }

-- what the event does, apart from the mark of the last event
abbrev pub outcome : Meaning → State → Event → State
outcome m s (Ask p w) = effect m s p (request_at m s p)
outcome m s (Accept p i c) = option_map_or (accepted s p.0 i) (call_numbered s.pending c.0) s
outcome m s (Instant p i) = record s { processes = grant_to s.processes p.0 (Chose i) }
outcome m s (Expire p i) =
    record s { processes = grant_to s.processes p.0 (expiry_grant i (process_at s.processes p.0).standing) }
outcome m s (Withdraw c) = option_map_or (withdrawn s) (call_numbered s.pending c.0) s
outcome m s (Time t) = record s { moment = t }
outcome m s End = all_ended m s

abbrev pub is_time : Event → Bool
is_time (Ask p w) = false
is_time (Accept p i c) = false
is_time (Instant p i) = false
is_time (Expire p i) = false
is_time (Withdraw c) = false
is_time (Time t) = true
is_time End = false

-- the state after the event
abbrev pub next : Meaning → State → Event → State
next m s event = record (outcome m s event) { after_time = is_time event }
