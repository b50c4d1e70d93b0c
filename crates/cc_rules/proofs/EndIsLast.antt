-- The collective end comes exactly where it is due, and nothing comes after it.
use Rattle.std.proofs.Common.{◌≡◌, ℕ, suc, ◌<◌, inl, inr, Bool, true, false, ◌&&◌, ◌||◌, not, List, [], ◌∷◌, ◌++◌, length, get_or, refl, sym, ap, ◌∙◌, subst, arith}
use Rattle.std.specs.Prelude.{if◌then◌else◌, nat_le, nat_lt}
use Rattle.std.specs.List.{enumerate_from, list_all, list_any}
use Rattle.std.specs.Option.{option_map_or}
use Rattle.std.proofs.lemmas.Bool.{and_left, and_right, and_from, and_parts, cases_lt}
use Rattle.std.proofs.lemmas.List.{get_or_past}
use Rattle.std.proofs.lemmas.List.Folds.{list_any_none}
use Rattle.cc_base.specs.Meaning.{Meaning}
use Rattle.cc_rules.proofs.Bools.{both-ways, or-false}
use Rattle.cc_rules.proofs.CollectiveEnd.{every-at, length-all_ended, over_or_waits}
use Rattle.cc_rules.proofs.NextStays.{all_ended-at}
use Rattle.cc_base.specs.Alternatives.{numbered}
use Rattle.cc_rules.specs.Choice.{accepts, call_numbered, every_process, may_withdraw, expires_at, has_eligible, has_immediate, is_immediate, is_terminate, some_process}
use Rattle.cc_rules.specs.Ends.{has_deadline, has_running, is_complete, is_due, is_stuck, is_unsettled, waits_at_terminate}
use Rattle.cc_rules.specs.Events.{all_ended, is_allowed, is_end, is_legal, next, request_at, same_word, word_of}
use Rattle.cc_rules.specs.Runs.{after, IsRun, IsRunFrom, state_after}
use Rattle.cc_rules.specs.State.{Process, State, first_state, is_over, is_running, nobody, open_alternatives, process_at}
use Rattle.cc_rules.specs.declared.event.Event.{Event}
use Rattle.cc_rules.specs.declared.event.Event.TheVariants.{Ask, Accept, Instant, Expire, Withdraw, Time, End}
use Rattle.cc_rules.specs.declared.process.ProcessStanding.{ProcessStanding}
use Rattle.cc_rules.specs.declared.process.ProcessStanding.TheVariants.{Running, AtSelect, AtDelay, AtCall, Ended, Faulted}

-- what is false of a process that is over
record IsStill (m : Meaning) (s : State) (p : ℕ) (x : ProcessStanding) : Type 0 where
  idle : is_running x ≡ false
  no_open : (i : ℕ) → option_map_or is_immediate (numbered (open_alternatives x) i) false ≡ false
  no_expiry : (i : ℕ) → expires_at m s p i x ≡ false
  no_end : list_any (λ a. is_terminate a.1) (open_alternatives x) ≡ false

is-still : (m : Meaning) (s : State) (p : ℕ) (x : ProcessStanding) → is_over x ≡ true → IsStill m s p x
is-still m s p Running h = absurd cc
is-still m s p (AtSelect alts asked) h = absurd cc
is-still m s p (AtDelay deadline) h = absurd cc
is-still m s p (AtCall c) h = absurd cc
is-still m s p Ended h = record { idle = refl; no_open = λ i. refl; no_expiry = λ i. refl; no_end = refl }
is-still m s p (Faulted kind) h = record { idle = refl; no_open = λ i. refl; no_expiry = λ i. refl; no_end = refl }

all-from : {X : Type 0} (test : X → Bool) (xs : List X) (d : X) → ((i : ℕ) → i < length xs → test (get_or xs i d) ≡ true) → list_all test xs ≡ true
all-from test [] d h = refl
all-from test (x ∷ xs) d h = and_from (test x) (list_all test xs) (h 0 (omega arith)) (all-from test xs d (λ i lt. h (suc i) (omega arith)))

time-not : (a b c d e : Bool) → c ≡ false → (a && b && c && d && e) ≡ false
time-not true true true d e h = cc
time-not true true false d e h = refl
time-not true false c d e h = refl
time-not false b c d e h = refl

-- a state where every process is over and no call is pending
module _ (m : Meaning) (t : State) (over : (p : ℕ) → is_over (process_at t.processes p).standing ≡ true) (none : t.pending ≡ []) where
  still : (p : ℕ) → IsStill m t p (process_at t.processes p).standing
  still p = is-still m t p (process_at t.processes p).standing (over p)

  pub over-complete : is_complete t ≡ true
  over-complete = all-from (λ (q : Process). is_over q.standing) t.processes nobody (λ i lt. over i)

  over-not_waiting : (p : ℕ) → waits_at_terminate m t p ≡ false
  over-not_waiting p =
      and_left (list_any (λ a. is_terminate a.1) (open_alternatives (process_at t.processes p).standing) && not (has_eligible m t p)) (not (has_immediate t p))
      (and_left (list_any (λ a. is_terminate a.1) (open_alternatives (process_at t.processes p).standing)) (not (has_eligible m t p)) (still p).no_end)

  over-not_due : is_due m t ≡ false
  over-not_due =
      and_right (every_process (over_or_waits m t) t) (some_process (waits_at_terminate m t) t)
      (list_any_none (λ (e : ℕ × Process). waits_at_terminate m t e.0) (enumerate_from 0 t.processes)
      (λ k d lt. over-not_waiting (get_or (enumerate_from 0 t.processes) k d).0))

  over-none_allowed : (e : Event) → is_allowed m t e ≡ false
  over-none_allowed (Ask p w) = and_left (is_running (process_at t.processes p.0).standing) (same_word w (word_of (request_at m t p))) (still p.0).idle
  over-none_allowed (Accept p i c) = subst (λ pending. option_map_or (accepts m t p.0 i) (call_numbered pending c.0) false ≡ false) (sym none) refl
  over-none_allowed (Instant p i) =
      and_left (option_map_or is_immediate (numbered (open_alternatives (process_at t.processes p.0).standing) i) false) (not (has_eligible m t p.0))
      ((still p.0).no_open i)
  over-none_allowed (Expire p i) = (still p.0).no_expiry i
  over-none_allowed (Withdraw c) = subst (λ pending. option_map_or (may_withdraw m t) (call_numbered pending c.0) false ≡ false) (sym none) refl
  over-none_allowed (Time moment) =
      time-not (nat_le t.moment moment) (not (is_unsettled m t)) (not (is_complete t)) (not (is_stuck m t))
      (if has_running t then nat_lt t.moment moment && not t.after_time else has_deadline t)
      (ap not over-complete)
  over-none_allowed End = refl

  pub over-none : (e : Event) → is_legal m t e ≡ false
  over-none e = ap (λ b. if b then is_end e else is_allowed m t e) over-not_due ∙ over-none_allowed e

after-over : (x : Process) (b : Bool) → (is_over x.standing || b) ≡ true → is_over (if b then record x { standing = Ended; serving = [] } else x).standing ≡ true
after-over x true h = refl
after-over x false h = or-false (is_over x.standing) h

-- after the collective end every process is over
pub ended-over : (m : Meaning) (s : State) → is_due m s ≡ true → (p : ℕ) → is_over (process_at (all_ended m s).processes p).standing ≡ true
ended-over m s due p =
    elim (cases_lt p (length s.processes)) [
      | inl lt ↦
          ap (λ (x : Process). is_over x.standing) (all_ended-at m s p lt)
          ∙ after-over (process_at s.processes p) (waits_at_terminate m s p)
          (every-at (over_or_waits m s) s p (and_parts (every_process (over_or_waits m s) s) (some_process (waits_at_terminate m s) s) due).0 lt)
      | inr past ↦
          ap (λ (x : Process). is_over x.standing) (get_or_past (all_ended m s).processes p nobody (let same = length-all_ended m s in omega arith))
    ]

pub none-after_end : (m : Meaning) (s : State) → is_due m s ≡ true → (e : Event) → is_legal m (next m s End) e ≡ false
none-after_end m s due e = over-none m (next m s End) (ended-over m s due) refl e

-- the event in the middle of a run is legal there, and the rest goes on from it
pub run-at : (m : Meaning) (s : State) (before : List Event) (e : Event) (more : List Event) → IsRunFrom m s (before ++ e ∷ more) → (is_legal m (after m s before) e ≡ true) × IsRunFrom m (next m (after m s before) e) more
run-at m s [] e more run = run
run-at m s (f ∷ before) e more run = run-at m (next m s f) before e more run.1

end-if : (b : Bool) → (if b then true else false) ≡ true → b ≡ true
end-if true h = refl
end-if false h = cc

none-follows : (m : Meaning) (t : State) (more : List Event) → ((e : Event) → is_legal m t e ≡ false) → IsRunFrom m t more → more ≡ []
none-follows m t [] none run = refl
none-follows m t (e ∷ more) none run = let no' = none e in let yes' = run.0 in absurd (both-ways (is_legal m t e) yes' no')

-- End stands only where it is due, and last
pub end-due : (m : Meaning) (input : List ℕ) (before more : List Event) → IsRun m input (before ++ End ∷ more) → is_due m (state_after m input before) ≡ true
end-due m input before more run = end-if (is_due m (state_after m input before)) (run-at m (first_state input) before End more run).0

pub end-last : (m : Meaning) (input : List ℕ) (before more : List Event) → IsRun m input (before ++ End ∷ more) → more ≡ []
end-last m input before more run =
    let s = state_after m input before in
    none-follows m (next m s End) more (none-after_end m s (end-due m input before more run)) (run-at m (first_state input) before End more run).1

is-end : (e : Event) → is_end e ≡ true → e ≡ End
is-end (Ask p w) h = cc
is-end (Accept p i c) h = cc
is-end (Instant p i) h = cc
is-end (Expire p i) h = cc
is-end (Withdraw c) h = cc
is-end (Time t) h = cc
is-end End h = refl

-- where the collective end is due, no other event stands
pub due-end : (m : Meaning) (input : List ℕ) (before : List Event) (e : Event) (more : List Event) → IsRun m input (before ++ e ∷ more) → is_due m (state_after m input before) ≡ true → e ≡ End
due-end m input before e more run due =
    let legal = (run-at m (first_state input) before e more run).0 in
    is-end e (subst (λ b. (if b then is_end e else is_allowed m (state_after m input before) e) ≡ true) due legal)
