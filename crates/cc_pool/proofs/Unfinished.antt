-- A run whose last turn is the Ask of a Print is not complete: who asked is running.
use Rattle.std.proofs.Common.{◌≡◌, ℕ, ◌<◌, ◌⊎◌, inl, inr, Option, Bool, true, false, ◌&&◌, not, List, ◌∷◌, length, refl, sym, ap, ◌∙◌, subst, arith}
use Rattle.std.specs.Prelude.{if◌then◌else◌}
use Rattle.std.specs.List.{AllPass}
use Rattle.std.proofs.lemmas.List.Folds.{list_all_at}
use Rattle.std.proofs.lemmas.List.Elements.{All-append, All-cons, All-weaker}
use Rattle.cc_base.specs.Meaning.{Meaning}
use Rattle.cc_base.specs.declared.names.Pid.{Pid}
use Rattle.cc_base.specs.declared.request.Request.{Request}
use Rattle.cc_base.specs.declared.request.Request.TheVariants as request
use Rattle.cc_base.specs.declared.request.Grant.TheVariants.{Go}
use Rattle.cc_pool.specs.Driven.{GoesOn, StopsAtTheSink, StopsForMemory, is_untimed}
use Rattle.cc_pool.specs.declared.driven.Stop.{Stop}
use Rattle.cc_pool.specs.declared.driven.Stop.TheVariants.{Over, Write, Memory}
use Rattle.cc_rules.proofs.EndIsLast.{run-at}
use Rattle.cc_rules.proofs.GoOn.{after-append}
use Rattle.cc_rules.proofs.Held.{at-same}
use Rattle.cc_rules.proofs.NextStays.{running-within}
use Rattle.cc_rules.proofs.QuietEvents.{settling-no_time, settling-stays}
use Rattle.cc_rules.specs.Effects.{effect, granted}
use Rattle.cc_rules.specs.Ends.{is_complete, is_due}
use Rattle.cc_rules.specs.Events.{is_legal, next, request_at, same_word, word_of}
use Rattle.cc_rules.specs.Runs.{IsRun, IsRunFrom, after, bytes_of, is_settling, state_after}
use Rattle.cc_rules.specs.State.{State, first_state, is_over, is_running, nobody, process_at}
use Rattle.cc_rules.specs.Stops.{StopsInPrint}
use Rattle.cc_rules.specs.declared.event.Event.{Event}
use Rattle.cc_rules.specs.declared.event.Event.TheVariants.{Ask}
use Rattle.cc_rules.specs.declared.event.Word.{Word}
use Rattle.cc_rules.specs.declared.event.Word.TheVariants as word
use Rattle.cc_rules.specs.declared.process.ProcessStanding.{ProcessStanding}
use Rattle.cc_rules.specs.declared.process.ProcessStanding.TheVariants.{Running, AtSelect, AtDelay, AtCall, Ended, Faulted}

asker-if : (due running same : Bool) → (if due then false else running && same) ≡ true → running ≡ true
asker-if true running same h = cc
asker-if false true same h = refl
asker-if false false same h = cc

-- who asks is running
asker-running : (m : Meaning) (s : State) (p : Pid) (w : Word) → is_legal m s (Ask p w) ≡ true → is_running (process_at s.processes p.0).standing ≡ true
asker-running m s p w h = asker-if (is_due m s) (is_running (process_at s.processes p.0).standing) (same_word w (word_of (request_at m s p))) h

-- and goes on after a Print
printer-running :
    (m : Meaning) (s : State) (p : Pid) (r : Request) (n : ℕ)
    → n < length (bytes_of r)
    → is_running (process_at s.processes p.0).standing ≡ true
    → is_running (process_at (effect m s p r).processes p.0).standing ≡ true
printer-running m s p request.Pause n lt r = absurd (omega (arith, lt))
printer-running m s p (request.Create kind args) n lt r = absurd (omega (arith, lt))
printer-running m s p (request.Call target trans args) n lt r = absurd (omega (arith, lt))
printer-running m s p (request.TimedCall target trans args wait) n lt r = absurd (omega (arith, lt))
printer-running m s p (request.Send target trans args) n lt r = absurd (omega (arith, lt))
printer-running m s p (request.Select alts) n lt r = absurd (omega (arith, lt))
printer-running m s p (request.Delay wait) n lt r = absurd (omega (arith, lt))
printer-running m s p (request.Reply value) n lt r = absurd (omega (arith, lt))
printer-running m s p (request.Print bytes) n lt r =
    ap (λ q. is_running q.standing)
    (at-same s.processes p.0 (granted (process_at s.processes p.0) Go) (running-within s.processes p.0 r))
printer-running m s p request.Get n lt r = absurd (omega (arith, lt))
printer-running m s p request.Done n lt r = absurd (omega (arith, lt))
printer-running m s p (request.Fault kind) n lt r = absurd (omega (arith, lt))

running-not-over : (standing : ProcessStanding) → is_running standing ≡ true → is_over standing ≡ false
running-not-over Running r = refl
running-not-over (AtSelect alts asked) r = cc
running-not-over (AtDelay deadline) r = cc
running-not-over (AtCall call) r = cc
running-not-over Ended r = cc
running-not-over (Faulted kind) r = cc

running-incomplete : (s : State) (p : ℕ) → is_running (process_at s.processes p).standing ≡ true → is_complete s ≡ false
running-incomplete s p r =
    list_all_at (λ q. is_over q.standing) s.processes p nobody (running-within s.processes p r)
    (running-not-over (process_at s.processes p).standing r)

print-incomplete :
    (m : Meaning) (input : List ℕ) (events : List Event) (part : List ℕ)
    → IsRun m input events
    → StopsInPrint m input events part
    → is_complete (state_after m input events) ≡ false
print-incomplete m input events part run stops =
    let s = state_after m input stops.before in
    let ask = Ask stops.pid word.Print in
    let here = run-at m (first_state input) stops.before ask stops.settling (subst (IsRunFrom m (first_state input)) stops.last_turn run) in
    let asks = asker-running m s stops.pid word.Print here.0 in
    let goes = printer-running m s stops.pid (request_at m s stops.pid) stops.count stops.proper asks in
    let stays = settling-stays m (next m s ask) stops.settling stops.pid stops.settles here.1 goes in
    let runs : is_running (process_at (after m (next m s ask) stops.settling).processes stops.pid.0).standing ≡ true = ap (λ q. is_running q.standing) stays ∙ goes in
    let there : state_after m input events ≡ after m (next m s ask) stops.settling = ap (state_after m input) stops.last_turn ∙ after-append m (first_state input) stops.before (ask ∷ stops.settling) in
    ap is_complete there ∙ running-incomplete (after m (next m s ask) stops.settling) stops.pid.0 runs

-- a run that was cut short is not complete
pub stopped-incomplete :
    (m : Meaning) (input : List ℕ) (events : List Event) (held now : Option (List ℕ)) (stop : Stop)
    → IsRun m input events
    → (stop ≡ Write → StopsAtTheSink m input events held now)
    → (stop ≡ Memory → StopsForMemory m input events held now)
    → (stop ≡ Over) ⊎ (is_complete (state_after m input events) ≡ false)
stopped-incomplete m input events held now Over run write memory = inl refl
stopped-incomplete m input events held now Write run write memory = inr (print-incomplete m input events (write refl).part run (write refl).stops)
stopped-incomplete m input events held now Memory run write memory =
    let stops = memory refl in
    elim stops.stops [
      | inl between ↦ inr between.incomplete
      | inr within ↦ inr (print-incomplete m input events stops.part run within)
    ]

-- events by which the machine settles are no Time
settling-untimed : (events : List Event) → AllPass is_settling events → AllPass is_untimed events
settling-untimed events h = All-weaker (λ e. is_settling e ≡ true) (λ e. is_untimed e ≡ true) (λ e is. ap not (settling-no_time e is)) events h

-- a run that goes on stays without a Time
pub untimed-on :
    (m : Meaning) (input : List ℕ) (before journal : List Event) (bytes : List ℕ)
    → GoesOn m input before journal bytes
    → AllPass is_untimed before
    → AllPass is_untimed journal
untimed-on m input before journal bytes went untimed =
    let ask = Ask went.pid (word_of (request_at m (state_after m input before) went.pid)) in
    subst (AllPass is_untimed) (sym went.events)
    (All-append (λ e. is_untimed e ≡ true) before (ask ∷ went.settling) untimed
    (All-cons (λ e. is_untimed e ≡ true) ask went.settling refl (settling-untimed went.settling went.settles)))
