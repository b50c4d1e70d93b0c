-- Where the test says that a sound state isn't settled, an event by which it settles is legal.
use Rattle.std.proofs.Common.{◌≡◌, ℕ, zero, suc, ◌≤◌, Bool, true, false, ◌||◌, List, [], ◌∷◌, refl, ap, ◌∙◌, arith, rules, cond, Option, Some, None}
use Rattle.std.specs.Prelude.{if◌then◌else◌, find, nat_eq}
use Rattle.std.specs.List.{Contains, enumerate_from, list_any}
use Rattle.std.specs.Option.{option_map_or}
use Rattle.cc_base.specs.Meaning.{Meaning}
use Rattle.cc_base.specs.declared.alternatives.Alt.{Alt}
use Rattle.cc_rules.proofs.Settled.{expires_one, takes_one}
use Rattle.cc_rules.proofs.Taken.{find-contained, tail-contained, unique}
use Rattle.cc_rules.proofs.TakenOnce.{found-number}
use Rattle.cc_rules.specs.Choice.{accepts, call_numbered, expires, expiring_numbers, is_acceptable, may_withdraw, some_process, takes_at_once}
use Rattle.cc_rules.specs.Ends.{is_due, is_unsettled}
use Rattle.cc_rules.specs.Events.{is_allowed, is_end, is_legal}
use Rattle.cc_rules.specs.Runs.{is_settling}
use Rattle.cc_rules.specs.Sound.{Sound, count_numbered}
use Rattle.cc_rules.specs.State.{Process, State, open_alternatives, process_at}
use Rattle.cc_rules.specs.declared.event.Event.{Event}
use Rattle.cc_rules.specs.declared.event.Event.TheVariants.{Accept, Instant, Expire, Withdraw, End}
use Rattle.cc_rules.specs.declared.process.TransactionCall.{TransactionCall}

any-found_if :
    {X : Type 0} (test : X → Bool) (x : X) (xs : List X) (b : Bool)
    → test x ≡ b
    → (b || list_any test xs) ≡ true
    → (list_any test xs ≡ true → (y : X) × Contains xs y × (test y ≡ true))
    → (y : X) × Contains (x ∷ xs) y × (test y ≡ true)
any-found_if test x xs true e h rest = (x, (0, omega arith, refl), e)
any-found_if test x xs false e h rest =
    let found = rest h in (found.0, tail-contained x xs found.0 found.1, found.2)

-- an element that passes
any-found : {X : Type 0} (test : X → Bool) (xs : List X) → list_any test xs ≡ true → (y : X) × Contains xs y × (test y ≡ true)
any-found test [] h = absurd cc
any-found test (x ∷ xs) h = any-found_if test x xs (test x) refl h (any-found test xs)

find-some_if : {X : Type 0} (test : X → Bool) (y : X) (o : Option X) (b : Bool) → (o ≡ None → b ≡ true) → cond b (Some y) o ≡ None → ⊥
find-some_if test y o true h e = cc
find-some_if test y o false h e = let t = h e in cc

-- where an element passes, one is found
find-some : {X : Type 0} (test : X → Bool) (xs : List X) (x : X) → Contains xs x → test x ≡ true → find test xs ≡ None → ⊥
find-some test [] x (k, lt, is) t e = omega arith
find-some test (y ∷ ys) x (zero, lt, is) t e = find-some_if test y (find test ys) (test y) (λ none. ap test is ∙ t) e
find-some test (y ∷ ys) x (suc k, lt, is) t e =
    find-some_if test y (find test ys) (test y) (λ none. absurd (find-some test ys x (k, omega arith, is) t none)) e

numbered-found : (pending : List TransactionCall) (c : TransactionCall) (o : Option TransactionCall) → count_numbered c.number.0 pending ≤ 1 → Contains pending c → call_numbered pending c.number.0 ≡ o → o ≡ Some c
numbered-found pending c None once here e =
    absurd (find-some (λ (d : TransactionCall). nat_eq d.number.0 c.number.0) pending c here (search rules) e)
numbered-found pending c (Some d) once here e =
    ap Some
    (unique c.number.0 pending d c once
    (find-contained (λ (d' : TransactionCall). nat_eq d'.number.0 c.number.0) pending d e)
    here
    (found-number c.number.0 pending d e)
    refl)

-- a pending call is found by its number
pub call-found : (m : Meaning) (s : State) (c : TransactionCall) → Sound m s → Contains s.pending c → call_numbered s.pending c.number.0 ≡ Some c
call-found m s c h here =
    numbered-found s.pending c (call_numbered s.pending c.number.0) (let one = h.once c.number.0 in omega arith) here refl

-- an event by which the state settles
pub record Settles (m : Meaning) (s : State) : Type 0 where
  pub event : Event
  pub settling : is_settling event ≡ true
  pub allowed : is_allowed m s event ≡ true

module _ (m : Meaning) (s : State) (h : Sound m s) where
  by-accept : list_any (is_acceptable m s) s.pending ≡ true → Settles m s
  by-accept any =
      let call = any-found (is_acceptable m s) s.pending any in
      let c = call.0 in
      let a = any-found (λ (a : ℕ × Alt). accepts m s c.target.0 a.0 c) (open_alternatives (process_at s.processes c.target.0).standing) call.2 in
      record {
        event = Accept c.target a.0.0 c.number;
        settling = refl;
        allowed = ap (λ o. option_map_or (accepts m s c.target.0 a.0.0) o false) (call-found m s c h call.1) ∙ a.2;
      }

  by-instant : some_process (takes_one m s) s ≡ true → Settles m s
  by-instant any =
      let p = any-found (λ (e : ℕ × Process). takes_one m s e.0) (enumerate_from 0 s.processes) any in
      let a = any-found (λ (a : ℕ × Alt). takes_at_once m s p.0.0 a.0) (open_alternatives (process_at s.processes p.0.0).standing) p.2 in
      record { event = Instant (record { 0 = p.0.0 }) a.0.0; settling = refl; allowed = a.2 }

  by-expire : some_process (expires_one m s) s ≡ true → Settles m s
  by-expire any =
      let p = any-found (λ (e : ℕ × Process). expires_one m s e.0) (enumerate_from 0 s.processes) any in
      let i = any-found (expires m s p.0.0) (expiring_numbers (process_at s.processes p.0.0).standing) p.2 in
      record { event = Expire (record { 0 = p.0.0 }) i.0; settling = refl; allowed = i.2 }

  by-withdraw : list_any (may_withdraw m s) s.pending ≡ true → Settles m s
  by-withdraw any =
      let call = any-found (may_withdraw m s) s.pending any in
      record {
        event = Withdraw call.0.number;
        settling = refl;
        allowed = ap (λ o. option_map_or (may_withdraw m s) o false) (call-found m s call.0 h call.1) ∙ call.2;
      }

  legal-where : (event : Event) (b : Bool) → is_due m s ≡ b → b ≡ false → is_allowed m s event ≡ true → is_legal m s event ≡ true
  legal-where event b e no' l = ap (λ d. if d then is_end event else is_allowed m s event) (e ∙ no') ∙ l

  unsettled-if :
      (a b c d e : Bool)
      → is_due m s ≡ a
      → list_any (is_acceptable m s) s.pending ≡ b
      → some_process (takes_one m s) s ≡ c
      → some_process (expires_one m s) s ≡ d
      → list_any (may_withdraw m s) s.pending ≡ e
      → (a || b || c || d || e) ≡ true
      → (event : Event) × (is_settling event ≡ true) × (is_legal m s event ≡ true)
  unsettled-if true b c d e due any1 any2 any3 any4 h = (End, refl, ap (λ x. if x then true else false) due)
  unsettled-if false true c d e due any1 any2 any3 any4 h = let k = by-accept any1 in (k.event, k.settling, legal-where k.event false due refl k.allowed)
  unsettled-if false false true d e due any1 any2 any3 any4 h = let k = by-instant any2 in (k.event, k.settling, legal-where k.event false due refl k.allowed)
  unsettled-if false false false true e due any1 any2 any3 any4 h = let k = by-expire any3 in (k.event, k.settling, legal-where k.event false due refl k.allowed)
  unsettled-if false false false false true due any1 any2 any3 any4 h = let k = by-withdraw any4 in (k.event, k.settling, legal-where k.event false due refl k.allowed)
  unsettled-if false false false false false due any1 any2 any3 any4 h = absurd cc

  pub settles : is_unsettled m s ≡ true → (event : Event) × (is_settling event ≡ true) × (is_legal m s event ≡ true)
  settles h' =
      unsettled-if (is_due m s) (list_any (is_acceptable m s) s.pending) (some_process (takes_one m s) s) (some_process (expires_one m s) s)
      (list_any (may_withdraw m s) s.pending)
      refl refl refl refl refl h'
