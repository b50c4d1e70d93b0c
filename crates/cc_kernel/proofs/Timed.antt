-- The deadlines that are kept stay those of the seats and of the pending calls.
use Rattle.std.proofs.Common.{◌≡◌, ◌≢◌, ◌⊎◌, inl, inr, ℕ, zero, suc, ◌+◌, ◌<◌, ◌≤◌, Bool, true, false, cond, ◌&&◌, ◌||◌, not, List, [], ◌∷◌, ◌++◌, length, set, refl, sym, ap, ◌∙◌, subst, arith, nat_eq, Option, Some, None, All, Contains, filter}
use Rattle.std.specs.Prelude.{if◌then◌else◌}
use Rattle.std.specs.Option.{option_map_or}
use Rattle.std.proofs.lemmas.Bool.{and_parts, both_ways, eq-eqb, eqb-true, false_from_ne_true, or_cases}
use Rattle.std.proofs.lemmas.List.Elements.{All-head, All-tail}
use Rattle.std.proofs.lemmas.List.Folds.{list_any_at}
use Rattle.cc_base.specs.declared.names.CallId.{CallId}
use Rattle.cc_base.specs.declared.names.Pid.{Pid}
use Rattle.cc_base.specs.declared.request.Grant.{Grant}
use Rattle.cc_base.specs.declared.request.Grant.TheVariants.{Gone}
use Rattle.cc_kernel.specs.Seats.{answered_seats, gone_seats, seat_at, woken}
use Rattle.cc_kernel.specs.Timed.{AreDeadlines, DeadlineStands, call_due, deadline_for, deadline_of, is_moment, is_same, is_same_who, stands_in, with_some, without_some}
use Rattle.cc_kernel.specs.declared.seat.Seat.{Seat}
use Rattle.cc_kernel.specs.declared.served.ServedCall.{ServedCall}
use Rattle.cc_rules.specs.Choice.{call_deadline, call_numbered}
use Rattle.cc_rules.specs.Effects.{caller_of, waits_for}
use Rattle.cc_rules.specs.State.{is_over, is_running}
use Rattle.cc_rules.specs.declared.process.ProcessStanding.{ProcessStanding}
use Rattle.cc_rules.specs.declared.process.ProcessStanding.TheVariants.{Running, AtSelect, AtDelay, AtCall, Ended, Faulted}
use Rattle.cc_rules.specs.declared.process.TransactionCall.{TransactionCall}
use Rattle.cc_timer.proofs.Order.{never_before_itself, same_deadline}
use Rattle.cc_timer.specs.Deadlines.{is_due_before, with_deadline, without_deadline}
use Rattle.cc_timer.specs.declared.who.Who.{Who}
use Rattle.cc_timer.specs.declared.who.Who.TheVariants as who

number-same : (a b : ℕ) → a ≡ b → nat_eq a b ≡ true
number-same a b e = eq-eqb a b e

number-other : (a b : ℕ) → a ≢ b → nat_eq a b ≡ false
number-other a b ne = false_from_ne_true (nat_eq a b) (λ h. ne (eqb-true a b h))

-- the same deadline
same-who : (v w : Who) → is_same_who v w ≡ true → v ≡ w
same-who (who.Process p) (who.Process q) h = ap (λ n. who.Process (record { 0 = n })) (eqb-true p.0 q.0 h)
same-who (who.Process p) (who.Call c) h = cc
same-who (who.Call c) (who.Process p) h = cc
same-who (who.Call c) (who.Call d) h = ap (λ n. who.Call (record { 0 = n })) (eqb-true c.0 d.0 h)

who-itself : (w : Who) → is_same_who w w ≡ true
who-itself (who.Process p) = number-same p.0 p.0 refl
who-itself (who.Call c) = number-same c.0 c.0 refl

both : (a b : Bool) → a ≡ true → b ≡ true → (a && b) ≡ true
both a b h k = rw (h, k) refl

pub same-itself : (n : ℕ) (w : Who) → is_same n w (n, w) ≡ true
same-itself n w = both (nat_eq n n) (is_same_who w w) (number-same n n refl) (who-itself w)

same-pair : (n : ℕ) (w : Who) (d : ℕ × Who) → is_same n w d ≡ true → (n, w) ≡ d
same-pair n w d h =
    let parts = and_parts (nat_eq n d.0) (is_same_who w d.1) h in
    let e : n ≡ d.0 = eqb-true n d.0 parts.0 in
    let f : w ≡ d.1 = same-who w d.1 parts.1 in
    λ i. (e i, f i)

-- of two that differ, one is due before the other
apart : (n : ℕ) (w : Who) (d : ℕ × Who) → (is_due_before (n, w) d || is_due_before d (n, w)) ≡ not (is_same n w d)
apart n w d = by (is_same n w d) refl
  where
    neither : (a b : Bool) → a ≡ false → b ≡ false → (a || b) ≡ false
    neither a b h k = rw (h, k) refl

    one : (a b : Bool) → a ≡ true → (a || b) ≡ true
    one a b h = rw h refl

    other : (a b : Bool) → a ≡ false → (b ≡ false → ⊥) → (a || b) ≡ true
    other a true h k = rw h refl
    other a false h k = absurd (k refl)

    either : (a : Bool) → is_due_before (n, w) d ≡ a → is_same n w d ≡ false → (is_due_before (n, w) d || is_due_before d (n, w)) ≡ true
    either true e h = one (is_due_before (n, w) d) (is_due_before d (n, w)) e
    either false e h =
        other (is_due_before (n, w) d) (is_due_before d (n, w)) e
        (λ k. both_ways (is_same n w d) h (subst (λ (x : ℕ × Who). is_same n w x ≡ true) (same_deadline (n, w) d e k) (same-itself n w)))

    by : (b : Bool) → is_same n w d ≡ b → (is_due_before (n, w) d || is_due_before d (n, w)) ≡ not b
    by true h =
        let same = same-pair n w d h in
        subst (λ (x : ℕ × Who). (is_due_before (n, w) x || is_due_before x (n, w)) ≡ false) same
        (neither (is_due_before (n, w) (n, w)) (is_due_before (n, w) (n, w)) (never_before_itself (n, w)) (never_before_itself (n, w)))
    by false h = either (is_due_before (n, w) d) refl h

-- one more stands
pub stands-with :
    (n : ℕ) (w : Who) (ds : List (ℕ × Who)) (k : ℕ) (v : Who)
    → stands_in (with_deadline (n, w) ds) k v ≡ (is_same k v (n, w) || stands_in ds k v)
stands-with n w [] k v = refl
stands-with n w (x ∷ xs) k v = by (is_due_before (n, w) x) (is_due_before x (n, w)) refl refl (stands-with n w xs k v)
  where
    swap : (a b c : Bool) → (a || (b || c)) ≡ (b || (a || c))
    swap true true c = refl
    swap true false c = refl
    swap false b c = refl

    twice : (a b : Bool) → (a || b) ≡ (a || (a || b))
    twice true b = refl
    twice false b = refl

    by :
        (a b : Bool)
        → is_due_before (n, w) x ≡ a
        → is_due_before x (n, w) ≡ b
        → stands_in (with_deadline (n, w) xs) k v ≡ (is_same k v (n, w) || stands_in xs k v)
        → stands_in (if a then (n, w) ∷ x ∷ xs else (if b then x ∷ with_deadline (n, w) xs else x ∷ xs)) k v
        ≡ (is_same k v (n, w) || (is_same k v x || stands_in xs k v))
    by true b p q rest = refl
    by false true p q rest = ap (λ t. is_same k v x || t) rest ∙ swap (is_same k v x) (is_same k v (n, w)) (stands_in xs k v)
    by false false p q rest =
        twice (is_same k v x) (stands_in xs k v)
        ∙ ap (λ (y : ℕ × Who). is_same k v y || (is_same k v x || stands_in xs k v)) (sym (same_deadline (n, w) x p q))

-- or is gone
pub stands-without :
    (n : ℕ) (w : Who) (ds : List (ℕ × Who)) (k : ℕ) (v : Who)
    → stands_in (without_deadline (n, w) ds) k v ≡ (not (is_same k v (n, w)) && stands_in ds k v)
stands-without n w [] k v = nothing (not (is_same k v (n, w)))
  where
    nothing : (a : Bool) → false ≡ (a && false)
    nothing true = refl
    nothing false = refl
stands-without n w (x ∷ xs) k v = by (is_same n w x) refl (stands-without n w xs k v)
  where
    gone : (a t : Bool) → (not a && t) ≡ (not a && (a || t))
    gone true t = refl
    gone false t = refl

    kept : (a b t : Bool) → (a ≡ true → b ≡ false) → (b || (not a && t)) ≡ (not a && (b || t))
    kept true b t h = rw (h refl) refl
    kept false b t h = refl

    by :
        (a : Bool)
        → is_same n w x ≡ a
        → stands_in (without_deadline (n, w) xs) k v ≡ (not (is_same k v (n, w)) && stands_in xs k v)
        → stands_in (cond (is_due_before (n, w) x || is_due_before x (n, w)) (x ∷ without_deadline (n, w) xs) (without_deadline (n, w) xs)) k v
        ≡ (not (is_same k v (n, w)) && (is_same k v x || stands_in xs k v))
    by true h rest =
        ap (λ b. stands_in (cond b (x ∷ without_deadline (n, w) xs) (without_deadline (n, w) xs)) k v) (apart n w x ∙ ap not h)
        ∙ rest
        ∙ gone (is_same k v (n, w)) (stands_in xs k v)
        ∙ ap (λ (y : ℕ × Who). not (is_same k v (n, w)) && (is_same k v y || stands_in xs k v)) (same-pair n w x h)
    by false h rest =
        ap (λ b. stands_in (cond b (x ∷ without_deadline (n, w) xs) (without_deadline (n, w) xs)) k v) (apart n w x ∙ ap not h)
        ∙ ap (λ t. is_same k v x || t) rest
        ∙ kept (is_same k v (n, w)) (is_same k v x) (stands_in xs k v)
        (λ same. subst (λ (y : ℕ × Who). is_same y.0 y.1 x ≡ false) (sym (same-pair k v (n, w) same)) h)

no-more : (n : ℕ) (w : Who) (ys : List (ℕ × Who)) → length (without_deadline (n, w) ys) ≤ length ys
no-more n w [] = omega arith
no-more n w (y ∷ ys) = step (is_due_before (n, w) y || is_due_before y (n, w)) (no-more n w ys)
  where
    step : (b : Bool) → length (without_deadline (n, w) ys) ≤ length ys → length (cond b (y ∷ without_deadline (n, w) ys) (without_deadline (n, w) ys)) ≤ length (y ∷ ys)
    step true h = omega (arith, h)
    step false h = omega (arith, h)

-- there are fewer
pub fewer-without :
    (n : ℕ) (w : Who) (ds : List (ℕ × Who))
    → stands_in ds n w ≡ true
    → length (without_deadline (n, w) ds) + 1 ≤ length ds
fewer-without n w [] h = cc
fewer-without n w (x ∷ xs) h = by (is_same n w x) refl h (λ t. fewer-without n w xs t)
  where
    by :
        (a : Bool)
        → is_same n w x ≡ a
        → (a || stands_in xs n w) ≡ true
        → (stands_in xs n w ≡ true → length (without_deadline (n, w) xs) + 1 ≤ length xs)
        → length (cond (is_due_before (n, w) x || is_due_before x (n, w)) (x ∷ without_deadline (n, w) xs) (without_deadline (n, w) xs)) + 1 ≤ length (x ∷ xs)
    by true e h rest =
        subst (λ b. length (cond b (x ∷ without_deadline (n, w) xs) (without_deadline (n, w) xs)) + 1 ≤ length (x ∷ xs)) (sym (apart n w x ∙ ap not e))
        (let r = no-more n w xs in omega (arith, r))
    by false e h rest =
        subst (λ b. length (cond b (x ∷ without_deadline (n, w) xs) (without_deadline (n, w) xs)) + 1 ≤ length (x ∷ xs)) (sym (apart n w x ∙ ap not e))
        (let r = rest h in omega (arith, r))

-- or one more at most
pub more-with : (n : ℕ) (w : Who) (ds : List (ℕ × Who)) → length (with_deadline (n, w) ds) ≤ length ds + 1
more-with n w [] = omega arith
more-with n w (x ∷ xs) = by (is_due_before (n, w) x) (is_due_before x (n, w)) (more-with n w xs)
  where
    by :
        (a b : Bool)
        → length (with_deadline (n, w) xs) ≤ length xs + 1
        → length (if a then (n, w) ∷ x ∷ xs else (if b then x ∷ with_deadline (n, w) xs else x ∷ xs)) ≤ length (x ∷ xs) + 1
    by true b h = omega (arith, h)
    by false true h = omega (arith, h)
    by false false h = omega (arith, h)

-- what holds of each holds of one that stands
pub of-standing : (F : ℕ × Who → Type 0) (ds : List (ℕ × Who)) (n : ℕ) (w : Who) → All F ds → stands_in ds n w ≡ true → F (n, w)
of-standing F [] n w all h = cc
of-standing F (x ∷ xs) n w all h =
    elim (or_cases (is_same n w x) (stands_in xs n w) h) [
      | inl here ↦ subst F (sym (same-pair n w x here)) (All-head F x xs all)
      | inr later ↦ of-standing F xs n w (All-tail F x xs all) later
    ]

pub stands-there : (ds : List (ℕ × Who)) (n : ℕ) (w : Who) → Contains ds (n, w) → stands_in ds n w ≡ true
stands-there ds n w at = list_any_at (is_same n w) ds at.0 (n, w) at.1 (ap (is_same n w) at.2 ∙ same-itself n w)

-- who is running or over has no deadline
pub running-none : (x : ProcessStanding) → is_running x ≡ true → deadline_of x ≡ None
running-none Running h = refl
running-none (AtSelect alts asked) h = cc
running-none (AtDelay deadline) h = cc
running-none (AtCall call) h = cc
running-none Ended h = cc
running-none (Faulted kind) h = cc

pub over-none : (x : ProcessStanding) → is_over x ≡ true → deadline_of x ≡ None
over-none Running h = cc
over-none (AtSelect alts asked) h = cc
over-none (AtDelay deadline) h = cc
over-none (AtCall call) h = cc
over-none Ended h = refl
over-none (Faulted kind) h = refl

-- who waits for a call has no deadline of his own
calling-none : (x : ProcessStanding) (n : ℕ) → waits_for n x ≡ true → None ≡ deadline_of x
calling-none Running n h = cc
calling-none (AtSelect alts asked) n h = cc
calling-none (AtDelay deadline) n h = cc
calling-none (AtCall call) n h = refl
calling-none Ended n h = cc
calling-none (Faulted kind) n h = cc

-- the same one, or another
who-cases : (v w : Who) → (v ≡ w) ⊎ (v ≢ w)
who-cases v w = by (is_same_who v w) refl
  where
    by : (b : Bool) → is_same_who v w ≡ b → (v ≡ w) ⊎ (v ≢ w)
    by true h = inl (same-who v w h)
    by false h = inr (λ e. both_ways (is_same_who v w) h (ap (λ u. is_same_who u w) e ∙ who-itself w))

other-who : (v w : Who) → v ≢ w → is_same_who v w ≡ false
other-who v w ne = false_from_ne_true (is_same_who v w) (λ h. ne (same-who v w h))

-- there are no more without one
pub shorter-without : (o : Option ℕ) (w : Who) (ds : List (ℕ × Who)) → length (without_some o w ds) ≤ length ds
shorter-without None w ds = omega arith
shorter-without (Some n) w ds = no-more n w ds

-- and one more at most with one
pub longer-with : (o : Option ℕ) (w : Who) (ds : List (ℕ × Who)) → length (with_some o w ds) ≤ length ds + 1
longer-with None w ds = omega arith
longer-with (Some n) w ds = more-with n w ds

-- and one fewer without one that stands
pub fewer-some : (o : Option ℕ) (n : ℕ) (w : Who) (ds : List (ℕ × Who)) → o ≡ Some n → stands_in ds n w ≡ true → length (without_some o w ds) + 1 ≤ length ds
fewer-some o n w ds e h = rw e (fewer-without n w ds h)

module _ {P : Type 0} (seats seats' : List (Seat P)) (calls calls' : List TransactionCall) (ds : List (ℕ × Who)) where
  -- the deadlines stay where those of the processes and of the calls do
  pub deadlines-stay : ((v : Who) → deadline_for seats' calls' v ≡ deadline_for seats calls v) → AreDeadlines seats calls ds → AreDeadlines seats' calls' ds
  deadlines-stay same h n v = h n v ∙ ap (is_moment n) (sym (same v))

  -- one of them, where the others stay
  all-but : (w : Who) → deadline_for seats' calls' w ≡ deadline_for seats calls w → ((v : Who) → v ≢ w → deadline_for seats' calls' v ≡ deadline_for seats calls v) → (v : Who) → deadline_for seats' calls' v ≡ deadline_for seats calls v
  all-but w own others v =
      elim (who-cases v w) [
        | inl e ↦ ap (deadline_for seats' calls') e ∙ own ∙ ap (deadline_for seats calls) (sym e)
        | inr ne ↦ others v ne
      ]

  -- one that had no deadline may have one now
  pub deadlines-more :
      (w : Who) (o : Option ℕ)
      → deadline_for seats calls w ≡ None
      → deadline_for seats' calls' w ≡ o
      → ((v : Who) → v ≢ w → deadline_for seats' calls' v ≡ deadline_for seats calls v)
      → AreDeadlines seats calls ds
      → AreDeadlines seats' calls' (with_some o w ds)
  deadlines-more w None none has others h n v = deadlines-stay (all-but w (has ∙ sym none) others) h n v
  deadlines-more w (Some d) none has others h n v =
      stands-with d w ds n v
      ∙ ap (λ t. (nat_eq n d && is_same_who v w) || t) (h n v)
      ∙ elim (who-cases v w) [
        | inl e ↦
            ap (λ b. (nat_eq n d && b) || is_moment n (deadline_for seats calls v)) (ap (λ u. is_same_who u w) e ∙ who-itself w)
            ∙ ap (λ o. (nat_eq n d && true) || is_moment n o) (ap (deadline_for seats calls) e ∙ none)
            ∙ alone (nat_eq n d)
            ∙ ap (is_moment n) (sym (ap (deadline_for seats' calls') e ∙ has))
        | inr ne ↦
            ap (λ b. (nat_eq n d && b) || is_moment n (deadline_for seats calls v)) (other-who v w ne)
            ∙ away (nat_eq n d) (is_moment n (deadline_for seats calls v))
            ∙ ap (is_moment n) (sym (others v ne))
      ]
    where
      alone : (b : Bool) → ((b && true) || false) ≡ b
      alone true = refl
      alone false = refl

      away : (b t : Bool) → ((b && false) || t) ≡ t
      away true t = refl
      away false t = refl

  -- one that may have had a deadline has none any more
  pub deadlines-fewer :
      (w : Who) (o : Option ℕ)
      → deadline_for seats calls w ≡ o
      → deadline_for seats' calls' w ≡ None
      → ((v : Who) → v ≢ w → deadline_for seats' calls' v ≡ deadline_for seats calls v)
      → AreDeadlines seats calls ds
      → AreDeadlines seats' calls' (without_some o w ds)
  deadlines-fewer w None had none others h n v = deadlines-stay (all-but w (none ∙ sym had) others) h n v
  deadlines-fewer w (Some d) had none others h n v =
      stands-without d w ds n v
      ∙ ap (λ t. not (nat_eq n d && is_same_who v w) && t) (h n v)
      ∙ elim (who-cases v w) [
        | inl e ↦
            ap (λ b. not (nat_eq n d && b) && is_moment n (deadline_for seats calls v)) (ap (λ u. is_same_who u w) e ∙ who-itself w)
            ∙ ap (λ o. not (nat_eq n d && true) && is_moment n o) (ap (deadline_for seats calls) e ∙ had)
            ∙ never (nat_eq n d)
            ∙ ap (is_moment n) (sym (ap (deadline_for seats' calls') e ∙ none))
        | inr ne ↦
            ap (λ b. not (nat_eq n d && b) && is_moment n (deadline_for seats calls v)) (other-who v w ne)
            ∙ away (nat_eq n d) (is_moment n (deadline_for seats calls v))
            ∙ ap (is_moment n) (sym (others v ne))
      ]
    where
      never : (b : Bool) → (not (b && true) && b) ≡ false
      never true = refl
      never false = refl

      away : (b t : Bool) → (not (b && false) && t) ≡ t
      away true t = refl
      away false t = refl

-- the deadlines of processes and of calls, by halves
pub same-for :
    {P : Type 0} (seats seats' : List (Seat P)) (calls calls' : List TransactionCall)
    → ((i : ℕ) → deadline_of (seat_at seats' i).standing ≡ deadline_of (seat_at seats i).standing)
    → ((c : ℕ) → call_due calls' c ≡ call_due calls c)
    → (v : Who)
    → deadline_for seats' calls' v ≡ deadline_for seats calls v
same-for seats seats' calls calls' f g (who.Process p) = f p.0
same-for seats seats' calls calls' f g (who.Call c) = g c.0

-- a call at the end has its deadline
own-due : (calls : List TransactionCall) (call : TransactionCall) → call_numbered calls call.number.0 ≡ None → call_due (calls ++ call ∷ []) call.number.0 ≡ call_deadline call.waiting
own-due [] call new = ap (λ b. option_map_or (λ (c : TransactionCall). call_deadline c.waiting) (cond b (Some call) None) None) (number-same call.number.0 call.number.0 refl)
own-due (other ∷ calls) call new = by (nat_eq other.number.0 call.number.0) new (own-due calls call)
  where
    by :
        (b : Bool)
        → cond b (Some other) (call_numbered calls call.number.0) ≡ None
        → (call_numbered calls call.number.0 ≡ None → call_due (calls ++ call ∷ []) call.number.0 ≡ call_deadline call.waiting)
        → option_map_or (λ (c : TransactionCall). call_deadline c.waiting) (cond b (Some other) (call_numbered (calls ++ call ∷ []) call.number.0)) None ≡ call_deadline call.waiting
    by true e rest = cc
    by false e rest = rest e

-- and the others have theirs
push-other : (calls : List TransactionCall) (call : TransactionCall) (n : ℕ) → n ≢ call.number.0 → call_due (calls ++ call ∷ []) n ≡ call_due calls n
push-other [] call n ne = ap (λ b. option_map_or (λ (c : TransactionCall). call_deadline c.waiting) (cond b (Some call) None) None) (number-other call.number.0 n (λ e. ne (sym e)))
push-other (other ∷ calls) call n ne = by (nat_eq other.number.0 n) (push-other calls call n ne)
  where
    by :
        (b : Bool)
        → call_due (calls ++ call ∷ []) n ≡ call_due calls n
        → option_map_or (λ (c : TransactionCall). call_deadline c.waiting) (cond b (Some other) (call_numbered (calls ++ call ∷ []) n)) None
        ≡ option_map_or (λ (c : TransactionCall). call_deadline c.waiting) (cond b (Some other) (call_numbered calls n)) None
    by true rest = refl
    by false rest = rest

-- a call that is gone has none
gone-due : (calls : List TransactionCall) (n : ℕ) → call_due (filter (λ call. not (nat_eq call.number.0 n)) calls) n ≡ None
gone-due [] n = refl
gone-due (call ∷ calls) n = by (nat_eq call.number.0 n) refl (gone-due calls n)
  where
    rest : List TransactionCall
    rest = filter (λ (other : TransactionCall). not (nat_eq other.number.0 n)) calls

    by : (b : Bool) → nat_eq call.number.0 n ≡ b → call_due rest n ≡ None → call_due (cond (not b) (call ∷ rest) rest) n ≡ None
    by true e none = none
    by false e none = ap (λ b. option_map_or (λ (c : TransactionCall). call_deadline c.waiting) (cond b (Some call) (call_numbered rest n)) None) e ∙ none

gone-other : (calls : List TransactionCall) (n k : ℕ) → k ≢ n → call_due (filter (λ call. not (nat_eq call.number.0 n)) calls) k ≡ call_due calls k
gone-other [] n k ne = refl
gone-other (call ∷ calls) n k ne = by (nat_eq call.number.0 n) refl (gone-other calls n k ne)
  where
    rest : List TransactionCall
    rest = filter (λ (other : TransactionCall). not (nat_eq other.number.0 n)) calls

    skip : (b : Bool) → b ≡ false → call_due calls k ≡ option_map_or (λ (c : TransactionCall). call_deadline c.waiting) (cond b (Some call) (call_numbered calls k)) None
    skip true e = cc
    skip false e = refl

    both-found : (b : Bool) → call_due rest k ≡ call_due calls k → option_map_or (λ (c : TransactionCall). call_deadline c.waiting) (cond b (Some call) (call_numbered rest k)) None ≡ option_map_or (λ (c : TransactionCall). call_deadline c.waiting) (cond b (Some call) (call_numbered calls k)) None
    both-found true same = refl
    both-found false same = same

    by : (b : Bool) → nat_eq call.number.0 n ≡ b → call_due rest k ≡ call_due calls k → call_due (cond (not b) (call ∷ rest) rest) k ≡ call_due (call ∷ calls) k
    by true e same =
        same ∙ skip (nat_eq call.number.0 k) (number-other call.number.0 k (λ h. ne (sym (sym (eqb-true call.number.0 n e) ∙ h))))
    by false e same = both-found (nat_eq call.number.0 k) same

module _ {P : Type 0} (seats : List (Seat P)) (calls : List TransactionCall) (ds : List (ℕ × Who)) where
  -- a call is asked, maybe with a deadline
  pub asked-timed :
      (call : TransactionCall)
      → call_numbered calls call.number.0 ≡ None
      → AreDeadlines seats calls ds
      → AreDeadlines seats (calls ++ call ∷ []) (with_some (call_deadline call.waiting) (who.Call call.number) ds)
  asked-timed call new h =
      deadlines-more seats seats calls (calls ++ call ∷ []) ds (who.Call call.number) (call_deadline call.waiting)
      (ap (λ o. option_map_or (λ (c : TransactionCall). call_deadline c.waiting) o None) new) (own-due calls call new) others h
    where
      others : (v : Who) → v ≢ who.Call call.number → deadline_for seats (calls ++ call ∷ []) v ≡ deadline_for seats calls v
      others (who.Process p) ne = refl
      others (who.Call c) ne = push-other calls call c.0 (λ e. ne (ap (λ n. who.Call (record { 0 = n })) e))

  -- a call is gone
  pub taken-timed :
      (number : CallId) (call : TransactionCall)
      → call_numbered calls number.0 ≡ Some call
      → AreDeadlines seats calls ds
      → AreDeadlines seats (filter (λ other. not (nat_eq other.number.0 number.0)) calls) (without_some (call_deadline call.waiting) (who.Call number) ds)
  taken-timed number call found h =
      deadlines-fewer seats seats calls (filter (λ other. not (nat_eq other.number.0 number.0)) calls) ds (who.Call number) (call_deadline call.waiting)
      (ap (λ o. option_map_or (λ (c : TransactionCall). call_deadline c.waiting) o None) found) (gone-due calls number.0) others h
    where
      others : (v : Who) → v ≢ who.Call number → deadline_for seats (filter (λ other. not (nat_eq other.number.0 number.0)) calls) v ≡ deadline_for seats calls v
      others (who.Process p) ne = refl
      others (who.Call c) ne = gone-other calls number.0 c.0 (λ e. ne (ap (λ n. who.Call (record { 0 = n })) e))

module _ {P : Type 0} where
  -- the deadline of each, where one seat is changed
  pub set-deadline :
      (seats : List (Seat P)) (p i : ℕ) (seat : Seat P)
      → deadline_of seat.standing ≡ deadline_of (seat_at seats p).standing
      → deadline_of (seat_at (set seats p seat) i).standing ≡ deadline_of (seat_at seats i).standing
  set-deadline [] p i seat h = refl
  set-deadline (r ∷ seats) zero zero seat h = h
  set-deadline (r ∷ seats) zero (suc i) seat h = refl
  set-deadline (r ∷ seats) (suc p) zero seat h = refl
  set-deadline (r ∷ seats) (suc p) (suc i) seat h = set-deadline seats p i seat h

  -- where one is changed that has no deadline, before and after
  pub changed-timed :
      (seats : List (Seat P)) (calls : List TransactionCall) (ds : List (ℕ × Who)) (p : ℕ) (seat : Seat P)
      → deadline_of (seat_at seats p).standing ≡ None
      → deadline_of seat.standing ≡ None
      → AreDeadlines seats calls ds
      → AreDeadlines (set seats p seat) calls ds
  changed-timed seats calls ds p seat was is h =
      deadlines-stay seats (set seats p seat) calls calls ds
      (same-for seats (set seats p seat) calls calls (λ i. set-deadline seats p i seat (is ∙ sym was)) (λ c. refl)) h

  own-deadline : (seats : List (Seat P)) (p : ℕ) (seat : Seat P) → p < length seats → deadline_of (seat_at (set seats p seat) p).standing ≡ deadline_of seat.standing
  own-deadline [] p seat lt = absurd (omega arith)
  own-deadline (r ∷ seats) zero seat lt = refl
  own-deadline (r ∷ seats) (suc p) seat lt = own-deadline seats p seat (omega arith)

  other-deadline : (seats : List (Seat P)) (p i : ℕ) (seat : Seat P) → i ≢ p → deadline_of (seat_at (set seats p seat) i).standing ≡ deadline_of (seat_at seats i).standing
  other-deadline [] p i seat ne = refl
  other-deadline (r ∷ seats) zero zero seat ne = absurd (ne refl)
  other-deadline (r ∷ seats) zero (suc i) seat ne = refl
  other-deadline (r ∷ seats) (suc p) zero seat ne = refl
  other-deadline (r ∷ seats) (suc p) (suc i) seat ne = other-deadline seats p i seat (λ e. ne (ap suc e))

  pub push-deadline :
      (seats : List (Seat P)) (seat : Seat P) (i : ℕ)
      → deadline_of seat.standing ≡ None
      → deadline_of (seat_at (seats ++ seat ∷ []) i).standing ≡ deadline_of (seat_at seats i).standing
  push-deadline [] seat zero h = h
  push-deadline [] seat (suc i) h = refl
  push-deadline (r ∷ seats) seat zero h = refl
  push-deadline (r ∷ seats) seat (suc i) h = push-deadline seats seat i h

  answered-if :
      (seats : List (Seat P)) (caller n i : ℕ) (grant : Grant) (b : Bool)
      → waits_for n (seat_at seats caller).standing ≡ b
      → deadline_of (seat_at (if b then set seats caller (woken (seat_at seats caller) grant) else seats) i).standing ≡ deadline_of (seat_at seats i).standing
  answered-if seats caller n i grant true e = set-deadline seats caller i (woken (seat_at seats caller) grant) (calling-none (seat_at seats caller).standing n e)
  answered-if seats caller n i grant false e = refl

  answered-by :
      (seats : List (Seat P)) (n i : ℕ) (grant : Grant) (o : Option Pid)
      → deadline_of (seat_at (option_map_or (λ (caller : Pid). if waits_for n (seat_at seats caller.0).standing then set seats caller.0 (woken (seat_at seats caller.0) grant) else seats) o seats) i).standing
      ≡ deadline_of (seat_at seats i).standing
  answered-by seats n i grant None = refl
  answered-by seats n i grant (Some caller) = answered-if seats caller.0 n i grant (waits_for n (seat_at seats caller.0).standing) refl

  pub answered-deadline :
      (seats : List (Seat P)) (call : ServedCall) (grant : Grant) (i : ℕ)
      → deadline_of (seat_at (answered_seats seats call grant) i).standing ≡ deadline_of (seat_at seats i).standing
  answered-deadline seats call grant i = answered-by seats call.number.0 i grant (caller_of call.waiting)

  pub gone-deadline :
      (seats : List (Seat P)) (calls : List ServedCall) (i : ℕ)
      → deadline_of (seat_at (gone_seats seats calls) i).standing ≡ deadline_of (seat_at seats i).standing
  gone-deadline seats [] i = refl
  gone-deadline seats (call ∷ calls) i = gone-deadline (answered_seats seats call Gone) calls i ∙ answered-deadline seats call Gone i

  seat-others : (seats : List (Seat P)) (calls : List TransactionCall) (p : Pid) (seat : Seat P) (v : Who) → v ≢ who.Process p → deadline_for (set seats p.0 seat) calls v ≡ deadline_for seats calls v
  seat-others seats calls p seat (who.Process q) ne = other-deadline seats p.0 q.0 seat (λ e. ne (ap (λ n. who.Process (record { 0 = n })) e))
  seat-others seats calls p seat (who.Call c) ne = refl

  -- a process that had no deadline waits, maybe with one
  pub waits-timed :
      (seats : List (Seat P)) (calls : List TransactionCall) (ds : List (ℕ × Who)) (p : Pid) (seat : Seat P)
      → p.0 < length seats
      → deadline_of (seat_at seats p.0).standing ≡ None
      → AreDeadlines seats calls ds
      → AreDeadlines (set seats p.0 seat) calls (with_some (deadline_of seat.standing) (who.Process p) ds)
  waits-timed seats calls ds p seat lt none h =
      deadlines-more seats (set seats p.0 seat) calls calls ds (who.Process p) (deadline_of seat.standing)
      none (own-deadline seats p.0 seat lt) (seat-others seats calls p seat) h

  -- a process that waits goes on
  pub goes-timed :
      (seats : List (Seat P)) (calls : List TransactionCall) (ds : List (ℕ × Who)) (p : Pid) (seat : Seat P)
      → p.0 < length seats
      → deadline_of seat.standing ≡ None
      → AreDeadlines seats calls ds
      → AreDeadlines (set seats p.0 seat) calls (without_some (deadline_of (seat_at seats p.0).standing) (who.Process p) ds)
  goes-timed seats calls ds p seat lt none h =
      deadlines-fewer seats (set seats p.0 seat) calls calls ds (who.Process p) (deadline_of (seat_at seats p.0).standing)
      refl (own-deadline seats p.0 seat lt ∙ none) (seat-others seats calls p seat) h

  -- a deadline stands, where one has it
  pub stands-for :
      (seats : List (Seat P)) (calls : List TransactionCall) (ds : List (ℕ × Who)) (w : Who) (deadline : ℕ)
      → AreDeadlines seats calls ds
      → deadline_for seats calls w ≡ Some deadline
      → stands_in ds deadline w ≡ true
  stands-for seats calls ds w deadline h e = h deadline w ∙ ap (is_moment deadline) e ∙ number-same deadline deadline refl

  pub process-stands : (seats : List (Seat P)) (calls : List TransactionCall) (ds : List (ℕ × Who)) (p : Pid) → AreDeadlines seats calls ds → DeadlineStands seats ds p
  process-stands seats calls ds p h n e = stands-for seats calls ds (who.Process p) n h e

  -- where a deadline stands, one has it
  pub has-standing :
      (seats : List (Seat P)) (calls : List TransactionCall) (ds : List (ℕ × Who)) (w : Who) (deadline : ℕ)
      → AreDeadlines seats calls ds
      → stands_in ds deadline w ≡ true
      → deadline_for seats calls w ≡ Some deadline
  has-standing seats calls ds w deadline h e = of-moment (deadline_for seats calls w) (sym (h deadline w) ∙ e)
    where
      of-moment : (o : Option ℕ) → is_moment deadline o ≡ true → o ≡ Some deadline
      of-moment None k = cc
      of-moment (Some n) k = ap Some (sym (eqb-true deadline n k))

  -- one more process, which has no deadline
  pub pushed-timed :
      (seats : List (Seat P)) (calls : List TransactionCall) (ds : List (ℕ × Who)) (seat : Seat P)
      → deadline_of seat.standing ≡ None
      → AreDeadlines seats calls ds
      → AreDeadlines (seats ++ seat ∷ []) calls ds
  pushed-timed seats calls ds seat none h =
      deadlines-stay seats (seats ++ seat ∷ []) calls calls ds
      (same-for seats (seats ++ seat ∷ []) calls calls (λ i. push-deadline seats seat i none) (λ c. refl)) h

  -- callers go on
  pub answered-timed :
      (seats : List (Seat P)) (calls : List TransactionCall) (ds : List (ℕ × Who)) (call : ServedCall) (grant : Grant)
      → AreDeadlines seats calls ds
      → AreDeadlines (answered_seats seats call grant) calls ds
  answered-timed seats calls ds call grant h =
      deadlines-stay seats (answered_seats seats call grant) calls calls ds
      (same-for seats (answered_seats seats call grant) calls calls (answered-deadline seats call grant) (λ c. refl)) h

  pub gone-timed :
      (seats : List (Seat P)) (calls : List TransactionCall) (ds : List (ℕ × Who)) (gone : List ServedCall)
      → AreDeadlines seats calls ds
      → AreDeadlines (gone_seats seats gone) calls ds
  gone-timed seats calls ds gone h =
      deadlines-stay seats (gone_seats seats gone) calls calls ds
      (same-for seats (gone_seats seats gone) calls calls (gone-deadline seats gone) (λ c. refl)) h
