-- A state in which the test finds no event by which it would settle is settled.
use Rattle.std.proofs.Common.{◌≡◌, ℕ, ◌+◌, ◌<◌, Bool, true, false, ◌&&◌, ◌||◌, not, List, [], ◌∷◌, length, map, refl, sym, ap, ◌∙◌, subst, arith, Option, Some, None}
use Rattle.std.specs.Prelude.{if◌then◌else◌, nat_eq, nat_le}
use Rattle.std.specs.List.{Contains, enumerate_from, list_all, list_any}
use Rattle.std.specs.Option.{option_map_or}
use Rattle.std.proofs.lemmas.Bool.{and_parts}
use Rattle.std.proofs.lemmas.Bool.Decides.{Decides-eqb}
use Rattle.std.proofs.lemmas.List.Folds.{list_any_at}
use Rattle.std.proofs.lemmas.List.FromFn.{get_or-enumerate_from, length-enumerate_from}
use Rattle.cc_base.specs.Meaning.{Meaning}
use Rattle.cc_rules.proofs.Bools.{both-ways, false-from, or-left, or-right}
use Rattle.cc_base.specs.declared.alternatives.Alt.{Alt}
use Rattle.cc_base.specs.declared.alternatives.Alt.TheVariants as alt
use Rattle.cc_rules.proofs.Chosen.{IsOpen, due-open, is-open, some-rank}
use Rattle.cc_rules.proofs.Own.{there-within}
use Rattle.cc_rules.proofs.Taken.{find-contained}
use Rattle.cc_base.specs.Alternatives.{numbered}
use Rattle.cc_rules.specs.Choice.{accepts, call_numbered, expires, expires_at, expiring_numbers, goes_before, has_eligible, has_immediate, is_acceptable, is_chosen, is_first_due, is_immediate, may_withdraw, rank, some_process, takes_at_once}
use Rattle.cc_rules.specs.Ends.{is_due, is_unsettled}
use Rattle.cc_rules.specs.Events.{is_allowed, is_end, is_legal}
use Rattle.cc_rules.specs.Runs.{IsSettled, is_settling}
use Rattle.cc_rules.specs.State.{Process, State, nobody, open_alternatives, process_at, is_over}
use Rattle.cc_rules.specs.declared.event.Event.{Event}
use Rattle.cc_rules.specs.declared.event.Event.TheVariants.{Ask, Accept, Instant, Expire, Withdraw, Time, End}
use Rattle.cc_rules.specs.declared.process.ProcessStanding.{ProcessStanding}
use Rattle.cc_rules.specs.declared.process.ProcessStanding.TheVariants.{Running, AtSelect, AtDelay, AtCall, Ended, Faulted}
use Rattle.cc_rules.specs.declared.process.TransactionCall.{TransactionCall}

none-of : (a b c d e : Bool) → (a || b || c || d || e) ≡ false → (a ≡ false) × (b ≡ false) × (c ≡ false) × (d ≡ false) × (e ≡ false)
none-of true b c d e h = cc
none-of false true c d e h = cc
none-of false false true d e h = cc
none-of false false false true e h = cc
none-of false false false false true h = cc
none-of false false false false false h = (refl, refl, refl, refl, refl)

any-contained : {X : Type 0} (test : X → Bool) (xs : List X) (x : X) → Contains xs x → test x ≡ true → list_any test xs ≡ true
any-contained test xs x h t = list_any_at test xs h.0 x h.1 (ap test h.2 ∙ t)

-- a test of a process that passes for one
some-at : (test : ℕ → Bool) (s : State) (p : ℕ) → p < length s.processes → test p ≡ true → some_process test s ≡ true
some-at test s p lt t =
    let long : p < length (enumerate_from 0 s.processes) = omega (arith, length-enumerate_from 0 s.processes) in
    let here : 0 + p ≡ p = omega arith in
    list_any_at (λ (e : ℕ × Process). test e.0) (enumerate_from 0 s.processes) p (0, nobody) long
    (ap (λ (e : ℕ × Process). test e.0) (get_or-enumerate_from 0 s.processes p (0, nobody) lt) ∙ ap test here ∙ t)

any-numbered_if :
    (test : ℕ → Bool) (a : ℕ × Alt) (alts : List (ℕ × Alt)) (i : ℕ) (alt : Alt) (b : Bool)
    → nat_eq a.0 i ≡ b
    → (if b then Some a.1 else numbered alts i) ≡ Some alt
    → test i ≡ true
    → (numbered alts i ≡ Some alt → list_any (λ c. test c.0) alts ≡ true)
    → (test a.0 || list_any (λ c. test c.0) alts) ≡ true
any-numbered_if test a alts i alt true e h t rest =
    or-left (test a.0) (list_any (λ c. test c.0) alts) (ap test ((Decides-eqb a.0 i).0 e) ∙ t)
any-numbered_if test a alts i alt false e h t rest = or-right (test a.0) (list_any (λ c. test c.0) alts) (rest h)

-- a test of numbers passes for some alternative, where it does for one of this number
any-numbered :
    (test : ℕ → Bool) (alts : List (ℕ × Alt)) (i : ℕ) (alt : Alt)
    → numbered alts i ≡ Some alt
    → test i ≡ true
    → list_any (λ a. test a.0) alts ≡ true
any-numbered test [] i alt h t = absurd cc
any-numbered test (a ∷ alts) i alt h t =
    any-numbered_if test a alts i alt (nat_eq a.0 i) refl h t (λ k. any-numbered test alts i alt k t)

any-of_numbers : (test : ℕ → Bool) (alts : List (ℕ × Alt)) → list_any test (map (λ a. a.0) alts) ≡ list_any (λ a. test a.0) alts
any-of_numbers test [] = refl
any-of_numbers test (a ∷ alts) = ap (λ b. test a.0 || b) (any-of_numbers test alts)

any-open : (x : ProcessStanding) (test : ℕ → Bool) (i : ℕ) (f : Alt → Bool) → IsOpen x i f → test i ≡ true → list_any (λ a. test a.0) (open_alternatives x) ≡ true
any-open x test i f o t =
    subst (λ y. list_any (λ a. test a.0) (open_alternatives y) ≡ true) (sym o.standing) (any-numbered test o.alts i o.alt o.here t)

open-within : (s : State) (p i : ℕ) (f : Alt → Bool) → IsOpen (process_at s.processes p).standing i f → p < length s.processes
open-within s p i f o = there-within s.processes p (ap is_over o.standing)

-- a call is chosen at its target
chosen-target : (m : Meaning) (p : ℕ) (a : Alt) (pending : List TransactionCall) (c : TransactionCall) → is_chosen m p a pending c ≡ true → c.target.0 ≡ p
chosen-target m p (alt.Accept trans site env) pending c h =
    (Decides-eqb c.target.0 p).0
    (and_parts (nat_eq c.target.0 p) (nat_eq c.trans trans)
    (some-rank
    (λ k. list_all (λ other. goes_before k c.number.0 (rank m p (alt.Accept trans site env) other) other.number.0) pending)
    (m.fit site env c.args)
    (nat_eq c.target.0 p && nat_eq c.trans trans)
    h)).0
chosen-target m p (alt.After wait) pending c h = cc
chosen-target m p alt.Now pending c h = cc
chosen-target m p alt.Terminate pending c h = cc

accept-acceptable : (m : Meaning) (s : State) (p i : ℕ) (c : TransactionCall) → accepts m s p i c ≡ true → is_acceptable m s c ≡ true
accept-acceptable m s p i c l =
    let o = is-open (process_at s.processes p).standing i (λ a. is_chosen m p a s.pending c) l in
    let target = chosen-target m p o.alt s.pending c o.passes in
    subst (λ q. list_any (λ a. accepts m s q a.0 c) (open_alternatives (process_at s.processes q).standing) ≡ true) (sym target)
    (any-open (process_at s.processes p).standing (λ j. accepts m s p j c) i (λ a. is_chosen m p a s.pending c) o l)

any-of_call :
    (test other : TransactionCall → Bool) (pending : List TransactionCall) (n : ℕ) (call : Option TransactionCall)
    → ((c : TransactionCall) → test c ≡ true → other c ≡ true)
    → call_numbered pending n ≡ call
    → option_map_or test call false ≡ true
    → list_any other pending ≡ true
any-of_call test other pending n None weaker e l = absurd cc
any-of_call test other pending n (Some c) weaker e l =
    any-contained other pending c (find-contained (λ (d : TransactionCall). nat_eq d.number.0 n) pending c e) (weaker c l)

expiring-any : (m : Meaning) (s : State) (p i : ℕ) (x : ProcessStanding) (test : ℕ → Bool) → expires_at m s p i x ≡ true → test i ≡ true → list_any test (expiring_numbers x) ≡ true
expiring-any m s p i Running test h t = absurd cc
expiring-any m s p i (AtSelect alts asked) test h t =
    let first = and_parts (is_first_due s.moment asked alts i && not (has_eligible m s p)) (not (has_immediate s p)) h in
    let due = due-open s.moment asked alts i (and_parts (is_first_due s.moment asked alts i) (not (has_eligible m s p)) first.0).0 in
    any-of_numbers test alts ∙ any-numbered test alts i due.0 due.1 t
expiring-any m s p i (AtDelay deadline) test h t =
    let zero' = (Decides-eqb i 0).0 (and_parts (nat_eq i 0) (nat_le deadline s.moment) h).0 in
    or-left (test 0) false (ap test (sym zero') ∙ t)
expiring-any m s p i (AtCall c) test h t = absurd cc
expiring-any m s p i Ended test h t = absurd cc
expiring-any m s p i (Faulted kind) test h t = absurd cc

expires-there : (m : Meaning) (s : State) (p i : ℕ) (x : ProcessStanding) → expires_at m s p i x ≡ true → is_over x ≡ false
expires-there m s p i Running h = refl
expires-there m s p i (AtSelect alts asked) h = refl
expires-there m s p i (AtDelay deadline) h = refl
expires-there m s p i (AtCall c) h = refl
expires-there m s p i Ended h = absurd cc
expires-there m s p i (Faulted kind) h = absurd cc

abbrev pub takes_one : Meaning → State → ℕ → Bool
takes_one m s p = list_any (λ a. takes_at_once m s p a.0) (open_alternatives (process_at s.processes p).standing)

abbrev pub expires_one : Meaning → State → ℕ → Bool
expires_one m s p = list_any (expires m s p) (expiring_numbers (process_at s.processes p).standing)

module _ (m : Meaning) (s : State) (calm : is_unsettled m s ≡ false) where
  none-legal : (is_due m s ≡ false) × (list_any (is_acceptable m s) s.pending ≡ false) × (some_process (takes_one m s) s ≡ false) × (some_process (expires_one m s) s ≡ false) × (list_any (may_withdraw m s) s.pending ≡ false)
  none-legal =
      none-of (is_due m s) (list_any (is_acceptable m s) s.pending) (some_process (takes_one m s) s) (some_process (expires_one m s) s)
      (list_any (may_withdraw m s) s.pending)
      calm

  none-allowed : (e : Event) → is_settling e ≡ true → is_allowed m s e ≡ true → ⊥
  none-allowed (Ask p w) k l = cc
  none-allowed (Accept p i c) k l =
      both-ways (list_any (is_acceptable m s) s.pending)
      (any-of_call (accepts m s p.0 i) (is_acceptable m s) s.pending c.0 (call_numbered s.pending c.0) (λ d h. accept-acceptable m s p.0 i d h) refl l)
      none-legal.1
  none-allowed (Instant p i) k l =
      let x = (process_at s.processes p.0).standing in
      let o = is-open x i is_immediate (and_parts (option_map_or is_immediate (numbered (open_alternatives x) i) false) (not (has_eligible m s p.0)) l).0 in
      both-ways (some_process (takes_one m s) s)
      (some-at (takes_one m s) s p.0 (open-within s p.0 i is_immediate o) (any-open x (takes_at_once m s p.0) i is_immediate o l))
      none-legal.2
  none-allowed (Expire p i) k l =
      let x = (process_at s.processes p.0).standing in
      both-ways (some_process (expires_one m s) s)
      (some-at (expires_one m s) s p.0 (there-within s.processes p.0 (expires-there m s p.0 i x l)) (expiring-any m s p.0 i x (expires m s p.0) l l))
      none-legal.3
  none-allowed (Withdraw c) k l =
      both-ways (list_any (may_withdraw m s) s.pending)
      (any-of_call (may_withdraw m s) (may_withdraw m s) s.pending c.0 (call_numbered s.pending c.0) (λ d h. h) refl l)
      none-legal.4
  none-allowed (Time t) k l = cc
  none-allowed End k l = cc

  settled-if : (e : Event) (b : Bool) → is_due m s ≡ b → is_settling e ≡ true → (if b then is_end e else is_allowed m s e) ≡ true → ⊥
  settled-if e true due k l = both-ways (is_due m s) due none-legal.0
  settled-if e false due k l = none-allowed e k l

  pub IsSettled-by_test : IsSettled m s
  IsSettled-by_test e k = false-from (is_legal m s e) (λ l. settled-if e (is_due m s) refl k l)
