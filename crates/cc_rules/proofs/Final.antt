-- A run does not go on from a state that is complete or stuck, and the collective end makes a state complete.
use Rattle.std.proofs.Common.{◌≡◌, ℕ, inl, inr, Bool, true, false, ◌&&◌, not, List, [], ◌∷◌, length, refl, ap}
use Rattle.std.specs.Prelude.{if◌then◌else◌, nat_le, nat_lt}
use Rattle.std.proofs.lemmas.Bool.{and_left, cases_lt}
use Rattle.std.proofs.lemmas.List.{get_or_past}
use Rattle.std.proofs.lemmas.List.Elements.{All-head}
use Rattle.std.proofs.lemmas.List.Folds.{list_any_at}
use Rattle.cc_base.specs.Meaning.{Meaning}
use Rattle.cc_rules.proofs.Bools.{both-ways, false-from, is-not}
use Rattle.cc_rules.proofs.CollectiveEnd.{all-at}
use Rattle.cc_rules.proofs.EndIsLast.{ended-over, over-complete, over-none}
use Rattle.cc_rules.proofs.NextStays.{running-within}
use Rattle.cc_rules.proofs.Own.{TargetsAreThere}
use Rattle.cc_rules.proofs.Settled.{IsSettled-by_test}
use Rattle.cc_rules.specs.Ends.{has_deadline, has_running, is_complete, is_due, is_stuck, is_unsettled}
use Rattle.cc_rules.specs.Events.{is_allowed, is_legal, next, request_at, same_word, word_of}
use Rattle.cc_rules.specs.Sound.{Sound}
use Rattle.cc_rules.specs.State.{Process, State, is_over, is_running, nobody, process_at}
use Rattle.cc_rules.specs.declared.event.Event.{Event}
use Rattle.cc_rules.specs.declared.event.Event.TheVariants.{Ask, Accept, Instant, Expire, Withdraw, Time, End}
use Rattle.cc_rules.specs.declared.process.TransactionCall.{TransactionCall}

-- in a complete state every process is over, also one that was never made
complete-over : (s : State) → is_complete s ≡ true → (p : ℕ) → is_over (process_at s.processes p).standing ≡ true
complete-over s h p =
    elim (cases_lt p (length s.processes)) [
      | inl lt ↦ all-at (λ (q : Process). is_over q.standing) s.processes p nobody h lt
      | inr past ↦ ap (λ (q : Process). is_over q.standing) (get_or_past s.processes p nobody past)
    ]

none-pending : (ps : List Process) (pending : List TransactionCall) → ((p : ℕ) → is_over (process_at ps p).standing ≡ true) → TargetsAreThere ps pending → pending ≡ []
none-pending ps [] over targets = refl
none-pending ps (c ∷ pending) over targets =
    absurd
    (both-ways (is_over (process_at ps c.target.0).standing) (over c.target.0)
    (All-head (λ (call : TransactionCall). is_over (process_at ps call.target.0).standing ≡ false) c pending targets))

pub complete-final : (m : Meaning) (s : State) (e : Event) → Sound m s → is_complete s ≡ true → is_legal m s e ≡ false
complete-final m s e h done =
    over-none m s (complete-over s done) (none-pending s.processes s.pending (complete-over s done) h.targets) e

if-false : (b x : Bool) → x ≡ false → (if b then false else x) ≡ false
if-false true x h = refl
if-false false x h = h

four : (a b c d : Bool) → (a && b && c && d) ≡ true → (b ≡ true) × (c ≡ true)
four true true true d h = (refl, refl)
four true true false d h = cc
four true false c d h = cc
four false b c d h = cc

time-not_stuck : (a b c d e : Bool) → d ≡ false → (a && b && c && d && e) ≡ false
time-not_stuck true true true true e h = cc
time-not_stuck true true true false e h = refl
time-not_stuck true true false d e h = refl
time-not_stuck true false c d e h = refl
time-not_stuck false b c d e h = refl

-- the parts of stuck
record Stuck (m : Meaning) (s : State) : Type 0 where
  none_running : has_running s ≡ false
  calm : is_unsettled m s ≡ false

stuck-parts : (m : Meaning) (s : State) → is_stuck m s ≡ true → Stuck m s
stuck-parts m s h =
    let a = not (is_complete s) in
    let b = not (has_running s) in
    let c = not (is_unsettled m s) in
    let parts = four a b c (not (has_deadline s)) h in
    record { none_running = is-not (has_running s) parts.0; calm = is-not (is_unsettled m s) parts.1 }

module _ (m : Meaning) (s : State) (h : is_stuck m s ≡ true) where
  none-runs : (p : ℕ) → is_running (process_at s.processes p).standing ≡ false
  none-runs p =
      false-from (is_running (process_at s.processes p).standing)
      (λ r.
      both-ways (has_running s)
      (list_any_at (λ (q : Process). is_running q.standing) s.processes p nobody (running-within s.processes p r) r)
      (stuck-parts m s h).none_running)

  pub stuck-final : (e : Event) → is_legal m s e ≡ false
  stuck-final (Ask p w) =
      if-false (is_due m s) (is_running (process_at s.processes p.0).standing && same_word w (word_of (request_at m s p)))
      (and_left (is_running (process_at s.processes p.0).standing) (same_word w (word_of (request_at m s p))) (none-runs p.0))
  stuck-final (Accept p i c) = IsSettled-by_test m s (stuck-parts m s h).calm (Accept p i c) refl
  stuck-final (Instant p i) = IsSettled-by_test m s (stuck-parts m s h).calm (Instant p i) refl
  stuck-final (Expire p i) = IsSettled-by_test m s (stuck-parts m s h).calm (Expire p i) refl
  stuck-final (Withdraw c) = IsSettled-by_test m s (stuck-parts m s h).calm (Withdraw c) refl
  stuck-final (Time t) =
      if-false (is_due m s) (is_allowed m s (Time t))
      (time-not_stuck (nat_le s.moment t) (not (is_unsettled m s)) (not (is_complete s)) (not (is_stuck m s))
      (if has_running s then nat_lt s.moment t && not s.after_time else has_deadline s)
      (ap not h))
  stuck-final End = IsSettled-by_test m s (stuck-parts m s h).calm End refl

-- the collective end makes a state complete
pub end-complete : (m : Meaning) (s : State) → is_due m s ≡ true → is_complete (next m s End) ≡ true
end-complete m s due = over-complete m (next m s End) (ended-over m s due) refl
