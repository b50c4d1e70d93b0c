-- What a process asks, and what settles the state after it, leaves every other process that is running as it is, and prints
-- what the request prints.
use Rattle.std.proofs.Common.{◌≡◌, ◌≢◌, ℕ, ℤ, true, List, [], ◌∷◌, ◌++◌, refl, sym, ap, ◌∙◌, append-nil, append_assoc, map}
use Rattle.cc_base.specs.Meaning.{Meaning}
use Rattle.cc_base.specs.declared.names.Pid.{Pid}
use Rattle.cc_base.specs.declared.request.Grant.{Grant}
use Rattle.cc_base.specs.declared.request.Request.{Request}
use Rattle.cc_kernel.proofs.Outs.{out-at}
use Rattle.cc_kernel.proofs.Seated.{Seated-at, out-running}
use Rattle.cc_kernel.specs.Contract.{MovesOn, StepsOn, is_out_in}
use Rattle.cc_kernel.specs.Store.{IsState, Contents, Seated}
use Rattle.cc_kernel.specs.Seats.{is_out, seat_at}
use Rattle.cc_kernel.specs.declared.seat.Seat.{Seat}
use Rattle.cc_kernel.specs.Settles.{Settles}
use Rattle.cc_rules.proofs.GoOn.{after-append, printed-append}
use Rattle.cc_rules.proofs.QuietEvents.{settling-prints, settling-stays}
use Rattle.cc_rules.proofs.NextStays.{same-running}
use Rattle.cc_rules.specs.Effects.{effect}
use Rattle.cc_rules.specs.Events.{next, request_at, word_of}
use Rattle.cc_rules.specs.Runs.{IsRun, IsRunFrom, after, bytes_of, printed, state_after}
use Rattle.cc_rules.specs.State.{Process, State, first_state, is_running, process_at}
use Rattle.cc_rules.specs.declared.event.Event.{Event}
use Rattle.cc_rules.specs.declared.event.Event.TheVariants.{Ask, Accept, Instant, Expire, Withdraw, Time, End}

run-behind : (m : Meaning) (s : State) (first more : List Event) → IsRunFrom m s (first ++ more) → IsRunFrom m (after m s first) more
run-behind m s [] more h = h
run-behind m s (e ∷ first) more h = run-behind m (next m s e) first more h.1

-- the other processes that are running stay
pub others-stay :
    (m : Meaning) (input : List ℕ) (before events : List Event) (p q : Pid) (r : Request)
    → StepsOn before events p r
    → IsRun m input events
    → q.0 ≢ p.0
    → is_running (process_at (state_after m input before).processes q.0).standing ≡ true
    → process_at (state_after m input events).processes q.0 ≡ process_at (state_after m input before).processes q.0
others-stay m input before events p q r steps runs other running =
    let s = state_after m input before in
    let e : Event = Ask p (word_of r) in
    let es = steps.settling in
    let legal : IsRunFrom m s (e ∷ es) = run-behind m (first_state input) before (e ∷ es) (rw steps.journal at runs) in
    let same : process_at (next m s e).processes q.0 ≡ process_at s.processes q.0 =
    same-running m s e q legal.0 (λ w is. other (sym (ap pid-of is))) running in
    rw (steps.journal, after-append m (first_state input) before (e ∷ es))
    (settling-stays m (next m s e) es q steps.settles legal.1 (rw same running) ∙ same)
  where
    pid-of : Event → ℕ
    pid-of (Ask p w) = p.0
    pid-of (Accept p i c) = p.0
    pid-of (Instant p i) = p.0
    pid-of (Expire p i) = p.0
    pid-of (Withdraw c) = 0
    pid-of (Time t) = 0
    pid-of End = 0

-- the run prints what the request prints
pub prints-more :
    (m : Meaning) (input : List ℕ) (before events : List Event) (p : Pid) (r : Request)
    → StepsOn before events p r
    → r ≡ request_at m (state_after m input before) p
    → printed m input events ≡ printed m input before ++ bytes_of r
prints-more m input before events p r steps asks =
    let s = state_after m input before in
    let e : Event = Ask p (word_of r) in
    let es = steps.settling in
    rw (steps.journal, printed-append m (first_state input) before (e ∷ es), settling-prints m (next m s e) es steps.settles, ← asks, append-nil)
    refl

-- the journal goes on with what is asked
pub steps-on :
    {P : Type 0} (m : Meaning) (located : P → ℕ → List ℤ → List Grant → Type 0)
    (s : State) (before more : List Event) (asked store : Contents P) (p : Pid) (r : Request)
    → r ≡ request_at m s p
    → IsState located (effect m s p r) asked
    → ((s : State) → IsState located s asked → Settles m located s (before ++ Ask p (word_of r) ∷ []) more store)
    → StepsOn before more p r
steps-on m located s before more asked store p r asks st settles =
    let e : Event = Ask p (word_of r) in
    let done = settles (effect m s p r) st in
    record {
      settling = done.goes_on.more;
      journal = done.goes_on.journal ∙ append_assoc before (e ∷ []) done.goes_on.more;
      settles = done.goes_on.settles;
    }

-- and so do all that are running where it is another moment
pub all-stay :
    (m : Meaning) (input : List ℕ) (before events : List Event) (p : Pid) (moment : ℕ)
    → MovesOn before events moment
    → IsRun m input events
    → is_running (process_at (state_after m input before).processes p.0).standing ≡ true
    → process_at (state_after m input events).processes p.0 ≡ process_at (state_after m input before).processes p.0
all-stay m input before events p moment moves runs running =
    let s = state_after m input before in
    let e : Event = Time moment in
    let es = moves.settling in
    let legal : IsRunFrom m s (e ∷ es) = run-behind m (first_state input) before (e ∷ es) (rw moves.journal at runs) in
    rw (moves.journal, after-append m (first_state input) before (e ∷ es))
    (settling-stays m (next m s e) es p moves.settles legal.1 running)

-- which prints nothing
pub prints-none :
    (m : Meaning) (input : List ℕ) (before events : List Event) (moment : ℕ)
    → MovesOn before events moment
    → printed m input events ≡ printed m input before
prints-none m input before events moment moves =
    let s = state_after m input before in
    let e : Event = Time moment in
    let es = moves.settling in
    rw (moves.journal, printed-append m (first_state input) before (e ∷ es), settling-prints m (next m s e) es moves.settles, append-nil) refl

-- the journal goes on with another moment
pub moves-on :
    {P : Type 0} (m : Meaning) (located : P → ℕ → List ℤ → List Grant → Type 0)
    (s : State) (before more : List Event) (begun store : Contents P) (moment : ℕ)
    → IsState located s begun
    → ((s : State) → IsState located s begun → Settles m located s (before ++ Time moment ∷ []) more store)
    → MovesOn before more moment
moves-on m located s before more begun store moment st settles =
    let e : Event = Time moment in
    let done = settles s st in
    record {
      settling = done.goes_on.more;
      journal = done.goes_on.journal ∙ append_assoc before (e ∷ []) done.goes_on.more;
      settles = done.goes_on.settles;
    }

-- each process that is out is running
pub outs-run :
    {P : Type 0} (located : P → ℕ → List ℤ → List Grant → Type 0) (qs : List Process) (seats : List (Seat P))
    → Seated located qs seats
    → (p : ℕ)
    → is_out_in (map is_out seats) p ≡ true
    → is_running (process_at qs p).standing ≡ true
outs-run located qs seats h p out =
    let there = out-at seats p out in
    out-running located (process_at qs p) (seat_at seats p) (Seated-at located qs seats p there.0 h) there.1
