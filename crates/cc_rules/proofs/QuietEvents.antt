-- Events by which the machine settles are no turns, print nothing and leave who is running as it is.
use Rattle.std.proofs.Common.{◌≡◌, ℕ, ◌+◌, Bool, true, false, cond, List, [], ◌∷◌, refl, ap, ◌∙◌, arith}
use Rattle.std.proofs.lemmas.List.Elements.{All-cons, All-head, All-nil, All-tail}
use Rattle.std.proofs.lemmas.List.Sums.{sum_by-cons}
use Rattle.std.specs.List.{AllPass}
use Rattle.cc_base.specs.Meaning.{Meaning}
use Rattle.cc_base.specs.declared.names.Pid.{Pid}
use Rattle.cc_rules.proofs.Bools.{both-ways}
use Rattle.cc_rules.proofs.NextStays.{same-running}
use Rattle.cc_rules.specs.Events.{is_time, next}
use Rattle.cc_rules.specs.Runs.{IsRunFrom, IsSettled, IsSettledFrom, after, event_bytes, is_settling, is_turn, printed_from, turns}
use Rattle.cc_rules.specs.State.{State, is_running, process_at}
use Rattle.cc_rules.specs.declared.event.Event.{Event}
use Rattle.cc_rules.specs.declared.event.Event.TheVariants.{Ask, Accept, Instant, Expire, Withdraw, Time, End}

pub settling-first : (e : Event) (events : List Event) → AllPass is_settling (e ∷ events) → is_settling e ≡ true
settling-first e events h = All-head (λ x. is_settling x ≡ true) e events h

pub settling-rest : (e : Event) (events : List Event) → AllPass is_settling (e ∷ events) → AllPass is_settling events
settling-rest e events h = All-tail (λ x. is_settling x ≡ true) e events h

-- none is a turn
settling-no_turn : (e : Event) → is_settling e ≡ true → is_turn e ≡ false
settling-no_turn (Ask p w) h = cc
settling-no_turn (Accept p i c) h = refl
settling-no_turn (Instant p i) h = refl
settling-no_turn (Expire p i) h = refl
settling-no_turn (Withdraw c) h = refl
settling-no_turn (Time t) h = cc
settling-no_turn End h = refl

pub settling-turns : (events : List Event) → AllPass is_settling events → turns events ≡ 0
settling-turns [] h = refl
settling-turns (e ∷ events) h =
    let none = settling-no_turn e (settling-first e events h) in
    let rest = settling-turns events (settling-rest e events h) in
    let whole : turns (e ∷ events) ≡ 0 + turns events = sum_by-cons (λ x. cond (is_turn x) 1 0) e events ∙ ap (λ b. cond b 1 0 + turns events) none in
    omega (arith, whole, rest)

-- none prints anything
settling-bytes : (m : Meaning) (s : State) (e : Event) → is_settling e ≡ true → event_bytes m s e ≡ []
settling-bytes m s (Ask p w) h = cc
settling-bytes m s (Accept p i c) h = refl
settling-bytes m s (Instant p i) h = refl
settling-bytes m s (Expire p i) h = refl
settling-bytes m s (Withdraw c) h = refl
settling-bytes m s (Time t) h = cc
settling-bytes m s End h = refl

pub settling-prints : (m : Meaning) (s : State) (events : List Event) → AllPass is_settling events → printed_from m s events ≡ []
settling-prints m s [] h = refl
settling-prints m s (e ∷ events) h =
    rw (settling-bytes m s e (settling-first e events h)) (settling-prints m (next m s e) events (settling-rest e events h))

-- who is running stays as it is
pub settling-stays :
    (m : Meaning) (s : State) (events : List Event) (p : Pid)
    → AllPass is_settling events
    → IsRunFrom m s events
    → is_running (process_at s.processes p.0).standing ≡ true
    → process_at (after m s events).processes p.0 ≡ process_at s.processes p.0
settling-stays m s [] p h run r = refl
settling-stays m s (e ∷ events) p h run r =
    let here = settling-first e events h in
    let same : process_at (next m s e).processes p.0 ≡ process_at s.processes p.0 =
    same-running m s e p run.0 (λ w is. both-ways (is_settling e) here (ap is_settling is)) r in
    settling-stays m (next m s e) events p (settling-rest e events h) run.1 (ap (λ q. is_running q.standing) same ∙ r) ∙ same

-- a run over them is settled where its last state is
pub settling-settled :
    (m : Meaning) (s : State) (events : List Event)
    → AllPass is_settling events
    → IsSettled m (after m s events)
    → IsSettledFrom m s events
settling-settled m s [] h k = k
settling-settled m s (e ∷ events) h k =
    (λ no. absurd (both-ways (is_settling e) (settling-first e events h) no), settling-settled m (next m s e) events (settling-rest e events h) k)

-- none is a Time
pub settling-no_time : (e : Event) → is_settling e ≡ true → is_time e ≡ false
settling-no_time (Ask p w) h = cc
settling-no_time (Accept p i c) h = refl
settling-no_time (Instant p i) h = refl
settling-no_time (Expire p i) h = refl
settling-no_time (Withdraw c) h = refl
settling-no_time (Time t) h = cc
settling-no_time End h = refl
