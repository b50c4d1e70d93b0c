-- Each run of a program that prints bytes, by its last state.
use Rattle.std.proofs.Common.{◌≡◌, ℕ, zero, suc, ◌+◌, ◌≤◌, ◌⊎◌, inl, inr, Bool, true, false, ◌&&◌, cond, List, [], ◌∷◌, ◌++◌, length, refl, sym, ap, ◌∙◌, subst, arith, length-append}
use Rattle.std.proofs.Math.Nat.{eq-or-lt_of_le}
use Rattle.std.specs.List.{AllPass}
use Rattle.std.proofs.lemmas.List.Elements.{All-head, All-tail}
use Rattle.std.proofs.lemmas.List.Sums.{sum_by-cons}
use Rattle.cc_base.specs.declared.request.Grant.{Grant}
use Rattle.cc_base.specs.declared.request.Grant.TheVariants.{Go}
use Rattle.cc_command.proofs.Prints.{alone, asks_done, asks_print, main_at, settled_ended, settled_running}
use Rattle.cc_command.specs.Printing.{main, printing, request_after}
use Rattle.cc_pool.specs.Driven.{is_untimed}
use Rattle.cc_rules.specs.Effects.{effect}
use Rattle.cc_rules.specs.Events.{is_legal, next, request_at, same_word, word_of}
use Rattle.cc_rules.specs.Runs.{IsRun, IsRunFrom, after, is_turn, state_after, turns}
use Rattle.cc_rules.specs.State.{State, first_state, is_running, process_at}
use Rattle.cc_rules.specs.declared.event.Event.{Event}
use Rattle.cc_rules.specs.declared.event.Event.TheVariants.{Ask, Accept, Instant, Expire, Withdraw, Time, End}
use Rattle.cc_rules.specs.declared.process.ProcessStanding.TheVariants.{Running, Ended}

-- `main` is running, and asked k times
pub record Prints (bytes : List ℕ) (s : State) (k : ℕ) : Type 0 where
  pub grants : List Grant
  pub count : length grants ≡ k + 1
  pub state : s ≡ alone grants Running
  pub within : k ≤ length bytes

-- `main` has printed all bytes and has ended
pub record Printed (bytes : List ℕ) (s : State) (k : ℕ) : Type 0 where
  pub grants : List Grant
  pub state : s ≡ alone grants Ended
  pub all : k ≡ length bytes + 1

both-ways : (b : Bool) → b ≡ true → b ≡ false → ⊥
both-ways b t f = cc

module _ (bytes : List ℕ) where
  not-legal : (s : State) (e : Event) → is_legal (printing bytes) s e ≡ false → is_legal (printing bytes) s e ≡ true → ⊥
  not-legal s e f t = both-ways (is_legal (printing bytes) s e) t f

  -- only `main` asks, and only while it is running
  only-main : (grants : List Grant) (p : ℕ) (x : Bool) → (is_running (process_at (main_at grants Running ∷ []) p).standing && x) ≡ true → (p ≡ 0) × (x ≡ true)
  only-main grants zero x h = (refl, h)
  only-main grants (suc p) x h = absurd cc

  never-over : (grants : List Grant) (p : ℕ) (x : Bool) → (is_running (process_at (main_at grants Ended ∷ []) p).standing && x) ≡ true → ⊥
  never-over grants zero x h = cc
  never-over grants (suc p) x h = cc

  -- nothing comes after the end
  ended-alone : (grants : List Grant) (e : Event) → is_untimed e ≡ true → is_legal (printing bytes) (alone grants Ended) e ≡ true → ⊥
  ended-alone grants (Ask p w) u h = never-over grants p.0 (same_word w (word_of (request_at (printing bytes) (alone grants Ended) p))) h
  ended-alone grants (Accept p i c) u h = not-legal (alone grants Ended) (Accept p i c) (settled_ended bytes grants (Accept p i c) refl) h
  ended-alone grants (Instant p i) u h = not-legal (alone grants Ended) (Instant p i) (settled_ended bytes grants (Instant p i) refl) h
  ended-alone grants (Expire p i) u h = not-legal (alone grants Ended) (Expire p i) (settled_ended bytes grants (Expire p i) refl) h
  ended-alone grants (Withdraw c) u h = not-legal (alone grants Ended) (Withdraw c) (settled_ended bytes grants (Withdraw c) refl) h
  ended-alone grants (Time t) u h = cc
  ended-alone grants End u h = not-legal (alone grants Ended) End (settled_ended bytes grants End refl) h

  -- `main` asks: it goes on, or has ended
  main-asks :
      (grants : List Grant) (k : ℕ)
      → length grants ≡ k + 1
      → k ≤ length bytes
      → Prints bytes (record (effect (printing bytes) (alone grants Running) main (request_after bytes (length grants))) { after_time = false }) (k + 1)
      ⊎ Printed bytes (record (effect (printing bytes) (alone grants Running) main (request_after bytes (length grants))) { after_time = false }) (k + 1)
  main-asks grants k count within = elim (eq-or-lt_of_le within) [
    | inr lt ↦
        inl (record {
          grants = grants ++ Go ∷ [];
          count = length-append grants (Go ∷ []) ∙ ap (λ n. n + 1) count;
          state = ap (λ r. record (effect (printing bytes) (alone grants Running) main r) { after_time = false }) (asks_print bytes k (length grants) lt count);
          within = omega (arith, lt);
        })
    | inl e ↦
        inr (record {
          grants = grants;
          state = ap (λ r. record (effect (printing bytes) (alone grants Running) main r) { after_time = false }) (asks_done bytes (length grants) (count ∙ ap (λ n. n + 1) e));
          all = ap (λ n. n + 1) e;
        })
  ]

  -- `main` has been running or has ended, after k requests
  abbrev pub Steps : State → ℕ → Type 0
  Steps s k = Prints bytes s k ⊎ Printed bytes s k

  one-step :
      (grants : List Grant) (k : ℕ) (e : Event)
      → length grants ≡ k + 1
      → k ≤ length bytes
      → is_untimed e ≡ true
      → is_legal (printing bytes) (alone grants Running) e ≡ true
      → (is_turn e ≡ true) × Steps (next (printing bytes) (alone grants Running) e) (k + 1)
  one-step grants k (Ask p w) count within u h =
      let m = printing bytes in
      let own = only-main grants p.0 (same_word w (word_of (request_at m (alone grants Running) p))) h in
      let is_main : main ≡ p = ap (λ n. record { 0 = n }) (sym own.0) in
      (refl, subst (λ q. Steps (next m (alone grants Running) (Ask q w)) (k + 1)) is_main (main-asks grants k count within))
  one-step grants k (Accept p i c) count within u h = absurd (not-legal (alone grants Running) (Accept p i c) (settled_running bytes grants (Accept p i c) refl) h)
  one-step grants k (Instant p i) count within u h = absurd (not-legal (alone grants Running) (Instant p i) (settled_running bytes grants (Instant p i) refl) h)
  one-step grants k (Expire p i) count within u h = absurd (not-legal (alone grants Running) (Expire p i) (settled_running bytes grants (Expire p i) refl) h)
  one-step grants k (Withdraw c) count within u h = absurd (not-legal (alone grants Running) (Withdraw c) (settled_running bytes grants (Withdraw c) refl) h)
  one-step grants k (Time t) count within u h = absurd cc
  one-step grants k End count within u h = absurd (not-legal (alone grants Running) End (settled_running bytes grants End refl) h)

  turns-more : (e : Event) (events : List Event) (k : ℕ) → is_turn e ≡ true → k + 1 + turns events ≡ k + turns (e ∷ events)
  turns-more e events k is =
      let cons = sum_by-cons (λ x. cond (is_turn x) 1 0) e events in
      let one = ap {B = ℕ} (λ b. cond b 1 0) is in
      omega (arith, cons, one)

  next-step :
      (s : State) (k : ℕ) (e : Event)
      → Steps s k
      → is_untimed e ≡ true
      → is_legal (printing bytes) s e ≡ true
      → (is_turn e ≡ true) × Steps (next (printing bytes) s e) (k + 1)
  next-step s k e (inl p) u h =
      let m = printing bytes in
      let step = one-step p.grants k e p.count p.within u (subst (λ t. is_legal m t e ≡ true) p.state h) in
      (step.0, subst (λ t. Steps (next m t e) (k + 1)) (sym p.state) step.1)
  next-step s k e (inr p) u h = absurd (ended-alone p.grants e u (subst (λ t. is_legal (printing bytes) t e ≡ true) p.state h))

  -- so it is after each run
  steps-on : (s : State) (k : ℕ) (events : List Event) → Steps s k → IsRunFrom (printing bytes) s events → AllPass is_untimed events → Steps (after (printing bytes) s events) (k + turns events)
  steps-on s k [] p run u = (let none : k ≡ k + 0 = omega arith in subst (Steps s) none p)
  steps-on s k (e ∷ events) p run u =
      let m = printing bytes in
      let step = next-step s k e p (All-head (λ x. is_untimed x ≡ true) e events u) run.0 in
      subst (Steps (after m (next m s e) events)) (turns-more e events k step.0)
      (steps-on (next m s e) (k + 1) events step.1 run.1 (All-tail (λ x. is_untimed x ≡ true) e events u))

  begins : Steps (first_state []) 0
  begins = inl (record { grants = Go ∷ []; count = refl; state = refl; within = omega arith })

  -- after a run without a Time, `main` is running or has ended without a fault, after so many turns
  pub run-steps : (events : List Event) → IsRun (printing bytes) [] events → AllPass is_untimed events → Steps (state_after (printing bytes) [] events) (turns events)
  run-steps events run u =
      let none : 0 + turns events ≡ turns events = omega arith in
      subst (Steps (state_after (printing bytes) [] events)) none (steps-on (first_state []) 0 events begins run u)
