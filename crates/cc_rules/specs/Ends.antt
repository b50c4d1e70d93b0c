-- When a run is over, when it ends as a whole, and when nothing can go on.
use Rattle.std.specs.Prelude.{ℕ, Bool, true, false, ◌&&◌, ◌||◌, not, is_some}
use Rattle.std.specs.List.{list_all, list_any}
use Rattle.cc_base.specs.Meaning.{Meaning}
use Rattle.cc_rules.specs.Choice.{has_eligible, has_immediate, is_acceptable, is_terminate, alternative_deadline, call_deadline, every_process, expires, expiring_numbers, may_withdraw, some_process, takes_at_once}
use Rattle.cc_rules.specs.State.{State, process_at, is_running, is_over, is_faulted, open_alternatives}
use Rattle.cc_rules.specs.declared.process.ProcessStanding.{ProcessStanding}
use Rattle.cc_rules.specs.declared.process.ProcessStanding.TheVariants.{Running, AtSelect, AtDelay, AtCall, Ended, Faulted}

-- some process is running
abbrev pub has_running : State → Bool
has_running s = list_any (λ q. is_running q.standing) s.processes

-- every process has ended, or was stopped by a fault
abbrev pub is_complete : State → Bool
is_complete s = list_all (λ q. is_over q.standing) s.processes

-- some process was stopped by a fault
abbrev pub has_faulted : State → Bool
has_faulted s = list_any (λ q. is_faulted q.standing) s.processes

-- p waits at terminate: the alternative is open, and p can take neither a call nor an immediate alternative
abbrev pub waits_at_terminate : Meaning → State → ℕ → Bool
waits_at_terminate m s p =
    list_any (λ a. is_terminate a.1) (open_alternatives (process_at s.processes p).standing)
    && not (has_eligible m s p)
    && not (has_immediate s p)

-- the collective end is due: every process is over or waits at terminate, so that none is running, and at least one
-- waits there
abbrev pub is_due : Meaning → State → Bool
is_due m s =
    every_process (λ p. is_over (process_at s.processes p).standing || waits_at_terminate m s p) s
    && some_process (waits_at_terminate m s) s

-- some Accept, Instant, Expire, Withdraw or End is legal
abbrev pub is_unsettled : Meaning → State → Bool
is_unsettled m s =
    is_due m s
    || list_any (is_acceptable m s) s.pending
    || some_process (λ p. list_any (λ a. takes_at_once m s p a.0) (open_alternatives (process_at s.processes p).standing)) s
    || some_process (λ p. list_any (expires m s p) (expiring_numbers (process_at s.processes p).standing)) s
    || list_any (may_withdraw m s) s.pending

-- a deadline stands for a process that stands so, since one of its alternatives has one or it is at a delay
abbrev pub is_timed : ProcessStanding → Bool
is_timed Running = false
is_timed (AtSelect alts asked) = list_any (λ a. is_some (alternative_deadline asked a.1)) alts
is_timed (AtDelay deadline) = true
is_timed (AtCall call) = false
is_timed Ended = false
is_timed (Faulted kind) = false

-- a deadline stands: of a process at a select or a delay, or of a pending call
abbrev pub has_deadline : State → Bool
has_deadline s =
    list_any (λ q. is_timed q.standing) s.processes || list_any (λ call. is_some (call_deadline call.waiting)) s.pending

-- nothing can go on, now or later
abbrev pub is_stuck : Meaning → State → Bool
is_stuck m s = not (is_complete s) && not (has_running s) && not (is_unsettled m s) && not (has_deadline s)
