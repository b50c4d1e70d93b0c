-- Runs of the machine, from its first state.
use Rattle.std.specs.Prelude.{◌≡◌, ℕ, Bool, true, false, List, [], ◌∷◌, ◌++◌, count_by, nat_eq}
use Rattle.cc_base.specs.Meaning.{Meaning}
use Rattle.cc_base.specs.declared.request.Request.{Request}
use Rattle.cc_base.specs.declared.request.Request.TheVariants as request
use Rattle.cc_rules.specs.Events.{is_legal, next, request_at}
use Rattle.cc_rules.specs.State.{State, first_state}
use Rattle.cc_rules.specs.declared.event.Event.{Event}
use Rattle.cc_rules.specs.declared.event.Event.TheVariants.{Ask, Accept, Instant, Expire, Withdraw, Time, End}

-- the state after these events
abbrev pub after : Meaning → State → List Event → State
after m s [] = s
after m s (event ∷ events) = after m (next m s event) events

-- each event is legal in its turn
abbrev pub IsRunFrom : Meaning → State → List Event → Type 0
IsRunFrom m s [] = Unit {0}
IsRunFrom m s (event ∷ events) = (is_legal m s event ≡ true) × IsRunFrom m (next m s event) events

-- the events are a run on this program and input
abbrev pub IsRun : Meaning → List ℕ → List Event → Type 0
IsRun m input events = IsRunFrom m (first_state input) events

-- the state after a run
abbrev pub state_after : Meaning → List ℕ → List Event → State
state_after m input events = after m (first_state input) events

-- a turn of a run: Ask or Time
abbrev pub is_turn : Event → Bool
is_turn (Ask p w) = true
is_turn (Accept p i c) = false
is_turn (Instant p i) = false
is_turn (Expire p i) = false
is_turn (Withdraw c) = false
is_turn (Time t) = true
is_turn End = false

abbrev pub turns : List Event → ℕ
turns events = count_by is_turn events

-- an event by which the machine settles: Accept, Instant, Expire, Withdraw or End
abbrev pub is_settling : Event → Bool
is_settling (Ask p w) = false
is_settling (Accept p i c) = true
is_settling (Instant p i) = true
is_settling (Expire p i) = true
is_settling (Withdraw c) = true
is_settling (Time t) = false
is_settling End = true

-- the state is settled: no Accept, Instant, Expire, Withdraw or End is legal
abbrev pub IsSettled : Meaning → State → Type 0
IsSettled m s = (event : Event) → is_settling event ≡ true → is_legal m s event ≡ false

-- the state is settled before each event that isn't a settling one, and at the end
abbrev pub IsSettledFrom : Meaning → State → List Event → Type 0
IsSettledFrom m s [] = IsSettled m s
IsSettledFrom m s (event ∷ events) =
    (is_settling event ≡ false → IsSettled m s) × IsSettledFrom m (next m s event) events

-- the run is settled
abbrev pub IsSettledRun : Meaning → List ℕ → List Event → Type 0
IsSettledRun m input events = IsSettledFrom m (first_state input) events

-- the event takes the call of this number out of the pending calls: a process accepts it, or it is withdrawn
abbrev pub takes_call : ℕ → Event → Bool
takes_call n (Ask p w) = false
takes_call n (Accept p i c) = nat_eq c.0 n
takes_call n (Instant p i) = false
takes_call n (Expire p i) = false
takes_call n (Withdraw c) = nat_eq c.0 n
takes_call n (Time t) = false
takes_call n End = false

-- the bytes that a request prints
abbrev pub bytes_of : Request → List ℕ
bytes_of request.Pause = []
bytes_of (request.Create kind args) = []
bytes_of (request.Call target trans args) = []
bytes_of (request.TimedCall target trans args wait) = []
bytes_of (request.Send target trans args) = []
bytes_of (request.Select alts) = []
bytes_of (request.Delay wait) = []
bytes_of (request.Reply value) = []
bytes_of (request.Print bytes) = bytes
bytes_of request.Get = []
bytes_of request.Done = []
bytes_of (request.Fault kind) = []

-- the bytes that an event prints
abbrev pub event_bytes : Meaning → State → Event → List ℕ
event_bytes m s (Ask p w) = bytes_of (request_at m s p)
event_bytes m s (Accept p i c) = []
event_bytes m s (Instant p i) = []
event_bytes m s (Expire p i) = []
event_bytes m s (Withdraw c) = []
event_bytes m s (Time t) = []
event_bytes m s End = []

abbrev pub printed_from : Meaning → State → List Event → List ℕ
printed_from m s [] = []
printed_from m s (event ∷ events) = event_bytes m s event ++ printed_from m (next m s event) events

-- the bytes that a run prints
abbrev pub printed : Meaning → List ℕ → List Event → List ℕ
printed m input events = printed_from m (first_state input) events
