-- What comes of each request.
use Rattle.std.specs.Prelude.{ℕ, ℤ, pos, negsuc, ◌+◌, ◌-◌, ◌^◌, min, Bool, false, not, if◌then◌else◌, List, [], ◌∷◌, ◌++◌, length, take, set, replicate, slice_get, filter, Option, Some, None, nat_eq, nat_lt}
use Rattle.std.specs.Option.{option_map_or}
use Rattle.cc_base.specs.Grants.{value_cells}
use Rattle.cc_base.specs.Limits.{most_processes}
use Rattle.cc_base.specs.Meaning.{Meaning}
use Rattle.cc_base.specs.declared.names.FaultKind.TheVariants.{TooMany}
use Rattle.cc_base.specs.declared.names.Pid.{Pid}
use Rattle.cc_base.specs.declared.request.Grant.{Grant}
use Rattle.cc_base.specs.declared.request.Grant.TheVariants.{Go, Made, Value, Gone, Byte}
use Rattle.cc_base.specs.declared.request.Request.{Request}
use Rattle.cc_base.specs.declared.request.Request.TheVariants.{Pause, Create, Call, TimedCall, Send, Select, Delay, Reply, Print, Get, Done, Fault}
use Rattle.cc_rules.specs.State.{Process, State, made, process_at, is_over}
use Rattle.cc_rules.specs.declared.process.TransactionCall.{TransactionCall}
use Rattle.cc_rules.specs.declared.process.ProcessStanding.{ProcessStanding}
use Rattle.cc_rules.specs.declared.process.ProcessStanding.TheVariants.{Running, AtSelect, AtDelay, AtCall, Ended, Faulted}
use Rattle.cc_rules.specs.declared.process.Waiting.{Waiting}
use Rattle.cc_rules.specs.declared.process.Waiting.TheVariants.{Nobody, Caller, Until}

-- a process goes on with this grant
abbrev pub granted : Process → Grant → Process
granted q grant = record q { grants = q.grants ++ grant ∷ []; standing = Running }

-- process p goes on with this grant
abbrev pub grant_to : List Process → ℕ → Grant → List Process
grant_to processes p grant = set processes p (granted (process_at processes p) grant)

-- process p with this standing
abbrev pub with_standing : List Process → ℕ → ProcessStanding → List Process
with_standing processes p standing = set processes p (record (process_at processes p) { standing = standing })

-- a wait in milliseconds, of which a negative one counts as 0
abbrev pub milliseconds : ℤ → ℕ
milliseconds (pos n) = n
milliseconds (negsuc n) = 0

-- the deadline of what was asked at this moment, at most the greatest number of 64 bits
abbrev pub deadline_after : ℕ → ℤ → ℕ
deadline_after moment wait = min (moment + milliseconds wait) (2 ^ 64 - 1)

-- the process waits for the call of this number
abbrev pub waits_for : ℕ → ProcessStanding → Bool
waits_for number Running = false
waits_for number (AtSelect alts asked) = false
waits_for number (AtDelay deadline) = false
waits_for number (AtCall call) = nat_eq call.0 number
waits_for number Ended = false
waits_for number (Faulted kind) = false

-- who waits for the answer to a call
abbrev pub caller_of : Waiting → Option Pid
caller_of Nobody = None
caller_of (Caller p) = Some p
caller_of (Until p deadline) = Some p

-- the caller of this call, where one waits, goes on with this grant
abbrev pub answered : List Process → TransactionCall → Grant → List Process
answered processes call grant =
    option_map_or
    (λ caller. if waits_for call.number.0 (process_at processes caller.0).standing then grant_to processes caller.0 grant else processes)
    (caller_of call.waiting)
    processes

-- the caller of each of these calls, where one waits, goes on with Gone
abbrev pub each_gets_gone : List Process → List TransactionCall → List Process
each_gets_gone processes [] = processes
each_gets_gone processes (call ∷ calls) = each_gets_gone (answered processes call Gone) calls

abbrev pub is_for : ℕ → TransactionCall → Bool
is_for p call = nat_eq call.target.0 p

-- process p ends in this standing: it serves no call any more, the calls pending at it are removed, and whoever waits
-- for one of them, or for one that it served, goes on with Gone
abbrev pub ended : State → ℕ → ProcessStanding → State
ended s p standing =
    record s {
      processes =
          each_gets_gone
          (set s.processes p (record (process_at s.processes p) { standing = standing; serving = [] }))
          (filter (is_for p) s.pending ++ (process_at s.processes p).serving);
      pending = filter (λ call. not (is_for p call)) s.pending;
    }

-- a call is pending with the next number, and the processes are these
abbrev pub called : State → List Process → Pid → ℕ → List ℤ → Waiting → State
called s processes target trans args waiting =
    record s {
      processes = processes;
      pending =
          s.pending ++ record { number = record { 0 = s.drawn }; target = target; trans = trans; args = args; waiting = waiting } ∷ [];
      drawn = s.drawn + 1;
    }

-- this process was made, and neither has ended nor was stopped
abbrev pub is_there : State → Pid → Bool
is_there s p = not (is_over (process_at s.processes p.0).standing)

-- a value of n cells: cut, or filled with zeros
abbrev pub of_cells : ℕ → List ℤ → List ℤ
of_cells n value = take n (value ++ replicate n (pos 0))

-- the calls without the innermost
abbrev pub without_innermost : List TransactionCall → List TransactionCall
without_innermost calls = take (length calls - 1) calls

-- p goes on, and answers the innermost call that it serves, where it serves one
abbrev pub replied : Meaning → State → ℕ → List ℤ → State
replied m s p value =
    let q = process_at s.processes p in
    let processes = set s.processes p (record (granted q Go) { serving = without_innermost q.serving }) in
    record s {
      processes =
          option_map_or
          (λ call. answered processes call (Value (of_cells (value_cells m call.trans) value)))
          (slice_get q.serving (length q.serving - 1))
          processes;
    }

-- what p gets of the input, and what is left of it
abbrev pub first_byte : List ℕ → Option ℕ
first_byte [] = None
first_byte (b ∷ bs) = Some b

abbrev pub rest_of : List ℕ → List ℕ
rest_of [] = []
rest_of (b ∷ bs) = bs

-- what comes of a request of p
abbrev pub effect : Meaning → State → Pid → Request → State
effect m s p Pause = record s { processes = grant_to s.processes p.0 Go }
effect m s p (Create kind args) =
    if nat_lt (length s.processes) most_processes
    then record s { processes = grant_to s.processes p.0 (Made (record { 0 = length s.processes })) ++ made kind args ∷ [] }
    else ended s p.0 (Faulted TooMany)
effect m s p (Call target trans args) =
    if is_there s target
    then called s (with_standing s.processes p.0 (AtCall (record { 0 = s.drawn }))) target trans args (Caller p)
    else record s { processes = grant_to s.processes p.0 Gone }
effect m s p (TimedCall target trans args wait) =
    if is_there s target
    then
    called s (with_standing s.processes p.0 (AtCall (record { 0 = s.drawn }))) target trans args
    (Until p (deadline_after s.moment wait))
    else record s { processes = grant_to s.processes p.0 Gone }
effect m s p (Send target trans args) =
    if is_there s target
    then called s (grant_to s.processes p.0 Go) target trans args Nobody
    else record s { processes = grant_to s.processes p.0 Go }
effect m s p (Select alts) = record s { processes = with_standing s.processes p.0 (AtSelect alts s.moment) }
effect m s p (Delay wait) = record s { processes = with_standing s.processes p.0 (AtDelay (deadline_after s.moment wait)) }
effect m s p (Reply value) = replied m s p.0 value
effect m s p (Print bytes) = record s { processes = grant_to s.processes p.0 Go }
effect m s p Get = record s { processes = grant_to s.processes p.0 (Byte (first_byte s.input)); input = rest_of s.input }
effect m s p Done = ended s p.0 Ended
effect m s p (Fault kind) = ended s p.0 (Faulted kind)
