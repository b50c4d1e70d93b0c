-- A state is settled in which no call and no immediate alternative can be taken, no deadline has come and the collective end is not
-- due.
use Rattle.std.proofs.Common.{◌≡◌, ℕ, ℤ, Bool, true, false, ◌&&◌, ◌||◌, not, List, [], ◌∷◌, length, ◌<◌, get_or, refl, sym, ap, ◌∙◌, nat_eq, Option, Some, None, arith}
use Rattle.std.specs.Prelude.{is_some, if◌then◌else◌, nat_le}
use Rattle.std.specs.List.{enumerate_from, list_any}
use Rattle.std.specs.Option.{option_map_or}
use Rattle.std.proofs.lemmas.Bool.{and_parts, lt-leb}
use Rattle.std.proofs.lemmas.List.Folds.{list_any_at}
use Rattle.cc_base.specs.Meaning.{Meaning}
use Rattle.cc_base.specs.declared.alternatives.Alt.{Alt}
use Rattle.cc_kernel.proofs.Dues.{not-yet}
use Rattle.cc_kernel.proofs.Timed.{over-none}
use Rattle.cc_kernel.specs.Settles.{IsCalm}
use Rattle.cc_kernel.proofs.Serving.{none-found}
use Rattle.cc_kernel.specs.Store.{Rising}
use Rattle.cc_kernel.specs.Timed.{call_due, deadline_of}
use Rattle.cc_base.specs.Alternatives.{numbered}
use Rattle.cc_rules.proofs.Bools.{both-ways}
use Rattle.cc_rules.proofs.CollectiveEnd.{every-at, over_or_waits}
use Rattle.cc_rules.specs.Choice.{call_deadline, every_process, expires, expiring_numbers, has_eligible, has_immediate, is_acceptable, is_chosen, is_eligible, is_terminate, may_withdraw, rank, some_process, takes_at_once}
use Rattle.cc_rules.specs.Ends.{is_due, is_unsettled, waits_at_terminate}
use Rattle.cc_rules.specs.State.{State, is_over, is_running, open_alternatives, process_at}
use Rattle.cc_rules.specs.declared.process.ProcessStanding.{ProcessStanding}
use Rattle.cc_rules.specs.declared.process.ProcessStanding.TheVariants.{Running, AtSelect, AtDelay, AtCall, Ended, Faulted}
use Rattle.cc_rules.specs.declared.process.TransactionCall.{TransactionCall}

pub false-from : (b : Bool) → (b ≡ true → ⊥) → b ≡ false
false-from true h = absurd (h refl)
false-from false h = refl

and-false : (a b : Bool) → a ≡ false → (a && b) ≡ false
and-false true b h = cc
and-false false b h = refl

and-false-right : (a b : Bool) → b ≡ false → (a && b) ≡ false
and-false-right true b h = h
and-false-right false b h = refl

or-false : (a b : Bool) → a ≡ false → b ≡ false → (a || b) ≡ false
or-false false b h k = k
or-false true b h k = cc

none-of : {X : Type 0} (p : X → Bool) → ((x : X) → p x ≡ false) → (xs : List X) → list_any p xs ≡ false
none-of p h [] = refl
none-of p h (x ∷ xs) = or-false (p x) (list_any p xs) (h x) (none-of p h xs)

-- no deadline of a process has come
abbrev pub AreLate : State → Type 0
AreLate s = (p n : ℕ) → deadline_of (process_at s.processes p).standing ≡ Some n → s.moment < n

-- nor of a pending call
abbrev pub CallsAreLate : State → Type 0
CallsAreLate s = (c n : ℕ) → call_due s.pending c ≡ Some n → s.moment < n

not-withdrawn : (m : Meaning) (s : State) (call : TransactionCall) → ((n : ℕ) → call_deadline call.waiting ≡ Some n → s.moment < n) → may_withdraw m s call ≡ false
not-withdrawn m s call later =
    and-false (option_map_or (λ deadline. nat_le deadline s.moment) (call_deadline call.waiting) false) (not (is_acceptable m s call))
    (by (call_deadline call.waiting) later)
  where
    by : (o : Option ℕ) → ((n : ℕ) → o ≡ Some n → s.moment < n) → option_map_or (λ deadline. nat_le deadline s.moment) o false ≡ false
    by None h = refl
    by (Some n) h = lt-leb n s.moment (h n refl)

-- the collective end is not due where a process may not end
pub not-due-where : (m : Meaning) (s : State) (p : ℕ) → p < length s.processes → over_or_waits m s p ≡ false → is_due m s ≡ false
not-due-where m s p lt h =
    false-from (is_due m s)
    (λ due. both-ways (over_or_waits m s p) (every-at (over_or_waits m s) s p (and_parts (every_process (over_or_waits m s) s) (some_process (waits_at_terminate m s) s) due).0 lt) h)

running-stays-on : (m : Meaning) (s : State) (p : ℕ) (x : ProcessStanding) → (process_at s.processes p).standing ≡ x → is_running x ≡ true → over_or_waits m s p ≡ false
running-stays-on m s p Running e h = rw e refl
running-stays-on m s p (AtSelect alts asked) e h = cc
running-stays-on m s p (AtDelay deadline) e h = cc
running-stays-on m s p (AtCall call) e h = cc
running-stays-on m s p Ended e h = cc
running-stays-on m s p (Faulted kind) e h = cc

-- nor where one is running
pub running-not-due : (m : Meaning) (s : State) (p : ℕ) → p < length s.processes → is_running (process_at s.processes p).standing ≡ true → is_due m s ≡ false
running-not-due m s p lt h = not-due-where m s p lt (running-stays-on m s p (process_at s.processes p).standing refl h)

-- an alternative that passes stands under its number
pub any-numbered : (test : Alt → Bool) (alts : List (ℕ × Alt)) (i : ℕ) → option_map_or test (numbered alts i) false ≡ true → list_any (λ a. test a.1) alts ≡ true
any-numbered test [] i h = cc
any-numbered test (a ∷ alts) i h = pick (nat_eq a.0 i) h (λ k. any-numbered test alts i k)
  where
    or-left : (a b : Bool) → a ≡ true → (a || b) ≡ true
    or-left true b h = refl
    or-left false b h = cc

    or-behind : (a b : Bool) → b ≡ true → (a || b) ≡ true
    or-behind true b h = refl
    or-behind false b h = h

    pick :
        (b : Bool)
        → option_map_or test (if b then Some a.1 else numbered alts i) false ≡ true
        → (option_map_or test (numbered alts i) false ≡ true → list_any (λ c. test c.1) alts ≡ true)
        → (test a.1 || list_any (λ c. test c.1) alts) ≡ true
    pick true h rest = or-left (test a.1) (list_any (λ c. test c.1) alts) h
    pick false h rest = or-behind (test a.1) (list_any (λ c. test c.1) alts) (rest h)

-- where no alternative passes, none does under its number
pub none-numbered : (test : Alt → Bool) (alts : List (ℕ × Alt)) → list_any (λ a. test a.1) alts ≡ false → (i : ℕ) → option_map_or test (numbered alts i) false ≡ false
none-numbered test alts none i = false-from (option_map_or test (numbered alts i) false) (λ h. both-ways (list_any (λ a. test a.1) alts) (any-numbered test alts i h) none)

selecting-stays-on :
    (m : Meaning) (s : State) (p : ℕ) (x : ProcessStanding)
    → (process_at s.processes p).standing ≡ x
    → is_over x ≡ false
    → (has_eligible m s p || has_immediate s p) ≡ true
    → over_or_waits m s p ≡ false
selecting-stays-on m s p x e o h =
    or-false (is_over (process_at s.processes p).standing) (waits_at_terminate m s p)
    (ap is_over e ∙ o)
    (none-left (list_any (λ a. is_terminate a.1) (open_alternatives (process_at s.processes p).standing)) (has_eligible m s p) (has_immediate s p) h)
  where
    none-left : (a b c : Bool) → (b || c) ≡ true → (a && not b && not c) ≡ false
    none-left false b c h = refl
    none-left true true c h = refl
    none-left true false true h = refl
    none-left true false false h = cc

-- nor where one can take a call or an immediate alternative
pub choosing-not-due :
    (m : Meaning) (s : State) (p : ℕ)
    → p < length s.processes
    → is_over (process_at s.processes p).standing ≡ false
    → (has_eligible m s p || has_immediate s p) ≡ true
    → is_due m s ≡ false
choosing-not-due m s p lt o h = not-due-where m s p lt (selecting-stays-on m s p (process_at s.processes p).standing refl o h)

some-is : (o : Option ℤ) (f : ℤ → Bool) → option_map_or f o false ≡ true → is_some o ≡ true
some-is None f h = cc
some-is (Some k) f h = refl

-- a process that may take a pending call has an eligible one
pub takes-eligible :
    (m : Meaning) (s : State) (p i j : ℕ) (call d : TransactionCall)
    → j < length s.pending
    → get_or s.pending j d ≡ call
    → option_map_or (λ a. is_chosen m p a s.pending call) (numbered (open_alternatives (process_at s.processes p).standing) i) false ≡ true
    → has_eligible m s p ≡ true
takes-eligible m s p i j call d lt e h =
    any-numbered (λ a. list_any (is_eligible m p a) s.pending) (open_alternatives (process_at s.processes p).standing) i
    (weaker (numbered (open_alternatives (process_at s.processes p).standing) i) h)
  where
    weaker : (o : Option Alt) → option_map_or (λ a. is_chosen m p a s.pending call) o false ≡ true → option_map_or (λ a. list_any (is_eligible m p a) s.pending) o false ≡ true
    weaker None h = cc
    weaker (Some a) h = list_any_at (is_eligible m p a) s.pending j d lt (ap (is_eligible m p a) e ∙ some-is (rank m p a call) _ h)

-- a settled state by its test
pub not-unsettled :
    (m : Meaning) (s : State)
    → AreLate s
    → CallsAreLate s
    → Rising 0 s.pending s.drawn
    → IsCalm m s
    → is_due m s ≡ false
    → is_unsettled m s ≡ false
not-unsettled m s late later rising calm due =
    five (is_due m s) (list_any (is_acceptable m s) s.pending)
    (some_process (λ p. list_any (λ a. takes_at_once m s p a.0) (open_alternatives (process_at s.processes p).standing)) s)
    (some_process (λ p. list_any (expires m s p) (expiring_numbers (process_at s.processes p).standing)) s)
    (list_any (may_withdraw m s) s.pending)
    due
    calm.no_call
    (none-of (λ e. list_any (λ a. takes_at_once m s e.0 a.0) (open_alternatives (process_at s.processes e.0).standing))
    (λ e. none-of (λ a. takes_at_once m s e.0 a.0) (λ a. calm.none_at_once e.0 a.0) (open_alternatives (process_at s.processes e.0).standing))
    (enumerate_from 0 s.processes))
    (none-of (λ e. list_any (expires m s e.0) (expiring_numbers (process_at s.processes e.0).standing))
    (λ e. none-of (expires m s e.0) (λ i. not-yet m s e.0 i (process_at s.processes e.0).standing (late e.0)) (expiring_numbers (process_at s.processes e.0).standing))
    (enumerate_from 0 s.processes))
    (none-found (may_withdraw m s) 0 s.pending s.drawn rising
    (λ n call le found. not-withdrawn m s call (λ d e. later n d (ap (λ o. option_map_or (λ (c : TransactionCall). call_deadline c.waiting) o None) found ∙ e))))
  where
    five : (a b c d e : Bool) → a ≡ false → b ≡ false → c ≡ false → d ≡ false → e ≡ false → (a || b || c || d || e) ≡ false
    five a b c d e ha hb hc hd he = rw (ha, hb, hc, hd, he) refl

-- where every process is over and no call is pending, nothing more comes
over-calm : (m : Meaning) (s : State) (p : ℕ) (x : ProcessStanding) → (process_at s.processes p).standing ≡ x → is_over x ≡ true → (waits_at_terminate m s p ≡ false) × ((i : ℕ) → takes_at_once m s p i ≡ false)
over-calm m s p Running e h = cc
over-calm m s p (AtSelect alts asked) e h = cc
over-calm m s p (AtDelay deadline) e h = cc
over-calm m s p (AtCall call) e h = cc
over-calm m s p Ended e h = (rw e refl, λ i. rw e refl)
over-calm m s p (Faulted kind) e h = (rw e refl, λ i. rw e refl)

pub over-quiet :
    (m : Meaning) (s : State)
    → s.pending ≡ []
    → ((p : ℕ) → is_over (process_at s.processes p).standing ≡ true)
    → is_unsettled m s ≡ false
over-quiet m s none over =
    not-unsettled m s late calls (rw none (omega arith))
    (record { no_call = rw none refl; none_at_once = λ p i. (over-calm m s p (process_at s.processes p).standing refl (over p)).1 i })
    (and-false-right _ (some_process (waits_at_terminate m s) s)
    (none-of (λ e. waits_at_terminate m s e.0) (λ e. (over-calm m s e.0 (process_at s.processes e.0).standing refl (over e.0)).0) (enumerate_from 0 s.processes)))
  where
    late : AreLate s
    late p n e = let never : None ≡ Some n = sym (over-none (process_at s.processes p).standing (over p)) ∙ e in cc

    calls : CallsAreLate s
    calls c n e = let never : None ≡ Some n = sym (ap (λ pending. call_due pending c) none) ∙ e in cc
