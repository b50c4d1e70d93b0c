-- When a Time is legal.
use Rattle.std.proofs.Common.{inl, inr, ◌≢◌, ◌<◌, ◌≤◌, ℤ, ◌≡◌, ℕ, ◌-◌, Bool, true, false, ◌&&◌, not, List, [], ◌∷◌, length, refl, ap, ◌∙◌, sym, arith}
use Rattle.std.specs.Prelude.{if◌then◌else◌, is_some, nat_le, nat_lt, slice_get}
use Rattle.std.specs.Option.{option_map_or}
use Rattle.std.specs.List.{list_all, list_any}
use Rattle.std.proofs.lemmas.Bool.{cases_lt, le-leb, le-ltb, lt-leb, lt-ltb, or_parts}
use Rattle.cc_base.specs.declared.request.Grant.{Grant}
use Rattle.cc_kernel.proofs.Least.{some-deadline}
use Rattle.cc_kernel.proofs.Stands.{all-same, any-same}
use Rattle.cc_kernel.specs.Contract.{least_of}
use Rattle.cc_kernel.specs.Store.{Contents, IsState}
use Rattle.cc_kernel.specs.declared.seat.Seat.{Seat}
use Rattle.cc_rules.specs.Standing.{deadlines}
use Rattle.cc_base.specs.Meaning.{Meaning}
use Rattle.cc_rules.specs.Ends.{has_deadline, has_running, is_complete, is_due, is_unsettled}
use Rattle.cc_rules.specs.Events.{is_legal, is_time, next}
use Rattle.cc_rules.specs.Runs.{after, state_after}
use Rattle.cc_rules.specs.State.{State, first_state, is_over, is_running}
use Rattle.cc_rules.specs.declared.event.Event.{Event}
use Rattle.cc_rules.specs.declared.event.Event.TheVariants.{Time}

-- by the tests of a settled state
unfoldable pub allowed_so : Bool → Bool → Bool → Bool → Bool → Bool → Bool
allowed_so reached complete running later after_time deadline =
    reached && not complete && (if running then later && not after_time else deadline)

pub time-allowed :
    (m : Meaning) (s : State) (t : ℕ)
    → is_unsettled m s ≡ false
    → is_legal m s (Time t) ≡ allowed_so (nat_le s.moment t) (is_complete s) (has_running s) (nat_lt s.moment t) s.after_time (has_deadline s)
unfolding allowed_so
time-allowed m s t quiet =
    rw (quiet, due)
    (settled (nat_le s.moment t) (is_complete s) (has_running s) (has_deadline s) (nat_lt s.moment t && not s.after_time))
  where
    due : is_due m s ≡ false
    due = (or_parts _ _ (or_parts _ _ (or_parts _ _ (or_parts _ _ quiet).0).0).0).0

    settled :
        (a c r d x : Bool)
        → (a && not false && not c && not (not c && not r && not false && not d) && (if r then x else d)) ≡ (a && not c && (if r then x else d))
    settled false c r d x = refl
    settled true true r d x = refl
    settled true false true d x = refl
    settled true false false true x = refl
    settled true false false false x = refl

module _ {P : Type 0} (located : P → ℕ → List ℤ → List Grant → Type 0) where
  -- and as the seats and the deadlines tell it
  pub allowed-is :
      (m : Meaning) (s : State) (x : Contents P) (t : ℕ)
      → IsState located s x
      → is_unsettled m s ≡ false
      → is_legal m s (Time t)
      ≡ allowed_so (nat_le x.moment t) (list_all (λ seat. is_over seat.standing) x.seats) (list_any (λ seat. is_running seat.standing) x.seats)
      (nat_lt x.moment t) s.after_time (is_some (least_of (deadlines s)))
  allowed-is m s x t k quiet =
      time-allowed m s t quiet
      ∙ ap (λ n. allowed_so (nat_le n t) (is_complete s) (has_running s) (nat_lt n t) s.after_time (has_deadline s)) (sym k.moment)
      ∙ ap (λ b. allowed_so (nat_le x.moment t) b (has_running s) (nat_lt x.moment t) s.after_time (has_deadline s)) (all-same located is_over s.processes x.seats k.seated)
      ∙ ap (λ b. allowed_so (nat_le x.moment t) (list_all (λ (seat : Seat P). is_over seat.standing) x.seats) b (nat_lt x.moment t) s.after_time (has_deadline s)) (any-same located is_running s.processes x.seats k.seated)
      ∙ ap (λ b. allowed_so (nat_le x.moment t) (list_all (λ (seat : Seat P). is_over seat.standing) x.seats) (list_any (λ (seat : Seat P). is_running seat.standing) x.seats) (nat_lt x.moment t) s.after_time b) (some-deadline s)

pub past-refused : (t n : ℕ) (c r l f d : Bool) → t < n → allowed_so (nat_le n t) c r l f d ≡ false
unfolding allowed_so
past-refused t n c r l f d lt = ap (λ a. allowed_so a c r l f d) (lt-leb n t lt)

pub over-refused : (a c r l f d : Bool) → c ≡ true → allowed_so a c r l f d ≡ false
unfolding allowed_so
over-refused true c r l f d h = rw h refl
over-refused false c r l f d h = refl

pub resting-allowed : (t n : ℕ) (c r l f d : Bool) → n ≤ t → c ≡ false → r ≡ false → allowed_so (nat_le n t) c r l f d ≡ d
unfolding allowed_so
resting-allowed t n c r l f d le h k = rw (le-leb n t le, h, k) refl

pub now-refused : (t n : ℕ) (a c r f d : Bool) → t ≡ n → r ≡ true → allowed_so a c r (nat_lt n t) f d ≡ false
unfolding allowed_so
now-refused t n a c r f d e k = rw (k, le-ltb n t (omega (arith, e))) (never (a && not c))
  where
    never : (b : Bool) → (b && false) ≡ false
    never true = refl
    never false = refl

pub later-allowed : (t n : ℕ) (c r f d : Bool) → n ≤ t → t ≢ n → c ≡ false → r ≡ true → allowed_so (nat_le n t) c r (nat_lt n t) f d ≡ not f
unfolding allowed_so
later-allowed t n c r f d le ne h k = rw (le-leb n t le, h, k, lt-ltb n t (later n t le ne)) refl
  where
    later : (n t : ℕ) → n ≤ t → t ≢ n → n < t
    later n t le ne = elim (cases_lt n t) [ inl lt ↦ lt | inr ge ↦ absurd (ne (omega (arith, le, ge))) ]

-- whether the last event was a Time
pub after-time-last : (m : Meaning) (s : State) (e : Event) (es : List Event) → (after m s (e ∷ es)).after_time ≡ option_map_or is_time (slice_get (e ∷ es) (length es)) false
after-time-last m s e [] = refl
after-time-last m s e (f ∷ es) = after-time-last m (next m s e) f es

pub after-time-is :
    (m : Meaning) (input : List ℕ) (events : List Event)
    → (state_after m input events).after_time ≡ option_map_or is_time (slice_get events (length events - 1)) false
after-time-is m input [] = refl
after-time-is m input (e ∷ es) =
    let n : length (e ∷ es) - 1 ≡ length es = omega arith in
    after-time-last m (first_state input) e es ∙ ap (λ k. option_map_or is_time (slice_get (e ∷ es) k) false) (sym n)
