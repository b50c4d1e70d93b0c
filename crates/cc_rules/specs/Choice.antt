-- Which call an accept alternative takes, and which alternative a process takes without a call.
use Rattle.std.specs.Prelude.{ℕ, ℤ, Bool, true, false, ◌&&◌, ◌||◌, not, if◌then◌else◌, List, [], ◌∷◌, map, Option, Some, None, is_some, find, nat_eq, nat_lt, nat_le, int_lt, int_le}
use Rattle.std.specs.List.{list_all, list_any, enumerate_from}
use Rattle.std.specs.Option.{option_map_or}
use Rattle.cc_base.specs.Alternatives.{numbered}
use Rattle.cc_base.specs.Meaning.{Meaning}
use Rattle.cc_base.specs.declared.alternatives.Alt.{Alt}
use Rattle.cc_base.specs.declared.alternatives.Alt.TheVariants.{Accept, After, Now, Terminate}
use Rattle.cc_rules.specs.Effects.{deadline_after}
use Rattle.cc_rules.specs.State.{State, process_at, open_alternatives}
use Rattle.cc_rules.specs.declared.process.TransactionCall.{TransactionCall}
use Rattle.cc_rules.specs.declared.process.ProcessStanding.{ProcessStanding}
use Rattle.cc_rules.specs.declared.process.ProcessStanding.TheVariants.{Running, AtSelect, AtDelay, AtCall, Ended, Faulted}
use Rattle.cc_rules.specs.declared.process.Waiting.{Waiting}
use Rattle.cc_rules.specs.declared.process.Waiting.TheVariants.{Nobody, Caller, Until}

-- the rank of a call for an alternative of p: its fit, where it is a call at p of the transaction that the alternative
-- accepts
abbrev pub rank : Meaning → ℕ → Alt → TransactionCall → Option ℤ
rank m p (Accept trans site env) call =
    if nat_eq call.target.0 p && nat_eq call.trans trans then m.fit site env call.args else None
rank m p (After wait) call = None
rank m p Now call = None
rank m p Terminate call = None

-- the call is eligible for the alternative of p
abbrev pub is_eligible : Meaning → ℕ → Alt → TransactionCall → Bool
is_eligible m p alt call = is_some (rank m p alt call)

-- a call of rank k and this number is the other one, or is taken before it: the other is not eligible, has a greater
-- rank, or has the same rank and was asked later
abbrev pub goes_before : ℤ → ℕ → Option ℤ → ℕ → Bool
goes_before k number None other = true
goes_before k number (Some k') other = int_lt k k' || int_le k k' && nat_le number other

-- the call is chosen for the alternative: it is eligible and goes before every other call
abbrev pub is_chosen : Meaning → ℕ → Alt → List TransactionCall → TransactionCall → Bool
is_chosen m p alt pending call =
    option_map_or
    (λ k. list_all (λ other. goes_before k call.number.0 (rank m p alt other) other.number.0) pending)
    (rank m p alt call)
    false

-- some call is eligible for some alternative of p
abbrev pub has_eligible : Meaning → State → ℕ → Bool
has_eligible m s p =
    list_any (λ a. list_any (is_eligible m p a.1) s.pending) (open_alternatives (process_at s.processes p).standing)

abbrev pub is_immediate : Alt → Bool
is_immediate (Accept trans site env) = false
is_immediate (After wait) = false
is_immediate Now = true
is_immediate Terminate = false

abbrev pub is_terminate : Alt → Bool
is_terminate (Accept trans site env) = false
is_terminate (After wait) = false
is_terminate Now = false
is_terminate Terminate = true

-- p has an open immediate alternative
abbrev pub has_immediate : State → ℕ → Bool
has_immediate s p = list_any (λ a. is_immediate a.1) (open_alternatives (process_at s.processes p).standing)

-- the deadline of an alternative of a select that was asked at this moment
abbrev pub alternative_deadline : ℕ → Alt → Option ℕ
alternative_deadline asked (Accept trans site env) = None
alternative_deadline asked (After wait) = Some (deadline_after asked wait)
alternative_deadline asked Now = None
alternative_deadline asked Terminate = None

-- the delay alternative i with this deadline is the other one, or expires before it: the other is no delay, has a later
-- deadline, or has the same deadline and is written later
abbrev pub expires_before : ℕ → ℕ → Option ℕ → ℕ → Bool
expires_before deadline i None j = true
expires_before deadline i (Some deadline') j = nat_lt deadline deadline' || nat_le deadline deadline' && nat_le i j

-- i is the delay alternative of least deadline, the first written on a tie, and its deadline has come
abbrev pub is_first_due : ℕ → ℕ → List (ℕ × Alt) → ℕ → Bool
is_first_due moment asked alts i =
    option_map_or
    (λ alt.
    option_map_or
    (λ deadline.
    nat_le deadline moment
    && list_all (λ b. expires_before deadline i (alternative_deadline asked b.1) b.0) alts)
    (alternative_deadline asked alt)
    false)
    (numbered alts i)
    false

-- the pending call of this number
abbrev pub call_numbered : List TransactionCall → ℕ → Option TransactionCall
call_numbered pending number = find (λ call. nat_eq call.number.0 number) pending

-- p may take this call by its alternative i
abbrev pub accepts : Meaning → State → ℕ → ℕ → TransactionCall → Bool
accepts m s p i call =
    option_map_or
    (λ alt. is_chosen m p alt s.pending call)
    (numbered (open_alternatives (process_at s.processes p).standing) i)
    false

-- some process may take this call: only its target could
abbrev pub is_acceptable : Meaning → State → TransactionCall → Bool
is_acceptable m s call =
    list_any (λ a. accepts m s call.target.0 a.0 call) (open_alternatives (process_at s.processes call.target.0).standing)

-- p may take its immediate alternative i
abbrev pub takes_at_once : Meaning → State → ℕ → ℕ → Bool
takes_at_once m s p i =
    option_map_or is_immediate (numbered (open_alternatives (process_at s.processes p).standing) i) false && not (has_eligible m s p)

-- p has waited long enough: at a select by its delay alternative i, where it can take neither a call nor an immediate
-- alternative; at a delay by 0
abbrev pub expires_at : Meaning → State → ℕ → ℕ → ProcessStanding → Bool
expires_at m s p i Running = false
expires_at m s p i (AtSelect alts asked) = is_first_due s.moment asked alts i && not (has_eligible m s p) && not (has_immediate s p)
expires_at m s p i (AtDelay deadline) = nat_eq i 0 && nat_le deadline s.moment
expires_at m s p i (AtCall call) = false
expires_at m s p i Ended = false
expires_at m s p i (Faulted kind) = false

abbrev pub expires : Meaning → State → ℕ → ℕ → Bool
expires m s p i = expires_at m s p i (process_at s.processes p).standing

-- the deadline of a call
abbrev pub call_deadline : Waiting → Option ℕ
call_deadline Nobody = None
call_deadline (Caller p) = None
call_deadline (Until p deadline) = Some deadline

-- the pending call may be withdrawn: its deadline has come, and no process may take it
abbrev pub may_withdraw : Meaning → State → TransactionCall → Bool
may_withdraw m s call =
    option_map_or (λ deadline. nat_le deadline s.moment) (call_deadline call.waiting) false && not (is_acceptable m s call)

-- the numbers by which a process may expire
abbrev pub expiring_numbers : ProcessStanding → List ℕ
expiring_numbers Running = []
expiring_numbers (AtSelect alts asked) = map (λ a. a.0) alts
expiring_numbers (AtDelay deadline) = 0 ∷ []
expiring_numbers (AtCall call) = []
expiring_numbers Ended = []
expiring_numbers (Faulted kind) = []

-- the test holds of some process, by its number
abbrev pub some_process : (ℕ → Bool) → State → Bool
some_process test s = list_any (λ e. test e.0) (enumerate_from 0 s.processes)

-- the test holds of every process, by its number
abbrev pub every_process : (ℕ → Bool) → State → Bool
every_process test s = list_all (λ e. test e.0) (enumerate_from 0 s.processes)
