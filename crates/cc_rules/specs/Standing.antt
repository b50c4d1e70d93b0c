-- How a run stands.
use Rattle.std.specs.Prelude.{ℕ, ◌&&◌, not, if◌then◌else◌, List, [], ◌∷◌, ◌++◌, min, nat_eq}
use Rattle.std.specs.List.{filter_map}
use Rattle.cc_base.specs.Meaning.{Meaning}
use Rattle.cc_rules.specs.Choice.{alternative_deadline, call_deadline}
use Rattle.cc_rules.specs.Ends.{has_deadline, has_faulted, has_running, is_complete, is_stuck}
use Rattle.cc_rules.specs.Runs.{state_after, turns}
use Rattle.cc_rules.specs.State.{Process, State}
use Rattle.cc_rules.specs.declared.event.Event.{Event}
use Rattle.cc_rules.specs.declared.event.Standing.{Standing}
use Rattle.cc_rules.specs.declared.event.Standing.TheVariants.{Going, Idle, Ended, Stuck, Spent}
use Rattle.cc_rules.specs.declared.process.ProcessStanding.{ProcessStanding}
use Rattle.cc_rules.specs.declared.process.ProcessStanding.TheVariants as process

-- the deadlines that stand for a process that stands so
abbrev pub deadlines_of : ProcessStanding → List ℕ
deadlines_of process.Running = []
deadlines_of (process.AtSelect alts asked) = filter_map (λ a. alternative_deadline asked a.1) alts
deadlines_of (process.AtDelay deadline) = deadline ∷ []
deadlines_of (process.AtCall call) = []
deadlines_of process.Ended = []
deadlines_of (process.Faulted kind) = []

abbrev pub process_deadlines : List Process → List ℕ
process_deadlines [] = []
process_deadlines (q ∷ qs) = deadlines_of q.standing ++ process_deadlines qs

-- the deadlines that stand, of processes and then of pending calls
abbrev pub deadlines : State → List ℕ
deadlines s = process_deadlines s.processes ++ filter_map (λ call. call_deadline call.waiting) s.pending

-- the least of these numbers
abbrev pub least : List ℕ → ℕ
least [] = 0
least (n ∷ []) = n
least (n ∷ k ∷ ns) = min n (least (k ∷ ns))

-- how a state stands after this many turns, of which so many are allowed
abbrev pub standing_in : Meaning → State → ℕ → ℕ → Standing
standing_in m s spent allowed =
    if is_complete s
    then Ended (has_faulted s)
    else
    (if is_stuck m s
    then Stuck
    else
    (if nat_eq spent allowed
    then Spent
    else (if not (has_running s) && has_deadline s then Idle (least (deadlines s)) else Going)))

-- how a run stands, of which so many turns are allowed
abbrev pub standing_of : Meaning → List ℕ → List Event → ℕ → Standing
standing_of m input events allowed = standing_in m (state_after m input events) (turns events) allowed

-- the run goes no further: it has ended, is stuck, or has no turns left
abbrev pub IsOver : Standing → Type 0
IsOver Going = ⊥
IsOver (Idle until) = ⊥
IsOver (Ended faulted) = Unit {0}
IsOver Stuck = Unit {0}
IsOver Spent = Unit {0}
