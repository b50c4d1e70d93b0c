-- A process that waits goes on: it takes a call, an immediate alternative or a delay, or its call is withdrawn.
use Rattle.std.proofs.Common.{◌≡◌, ℕ, ◌<◌, ◌≤◌, ◌⊎◌, inl, inr, ℤ, Bool, true, false, ◌&&◌, not, List, [], ◌∷◌, ◌++◌, length, set, refl, sym, subst, arith, cond, Option, Some, None}
use Rattle.std.specs.Prelude.{nat_eq, nat_le}
use Rattle.std.specs.List.{Contains}
use Rattle.std.specs.Option.{option_map_or}
use Rattle.std.proofs.lemmas.Bool.{and_parts}
use Rattle.std.proofs.lemmas.List.Elements.{All-filter, All-get_or, Contains-append_cases, Contains-append_left, Contains-push}
use Rattle.std.proofs.lemmas.List.Kept.{AllPairs-filter}
use Rattle.std.proofs.lemmas.List.Sums.{sum_by-cons, sum_by_push}
use Rattle.cc_base.specs.Meaning.{Meaning}
use Rattle.cc_base.specs.declared.alternatives.Alt.{Alt}
use Rattle.cc_base.specs.declared.names.CallId.{CallId}
use Rattle.cc_base.specs.declared.request.Grant.{Grant}
use Rattle.cc_base.specs.declared.request.Grant.TheVariants.{Go, Late, Took, Chose}
use Rattle.cc_base.specs.declared.request.Request.{Request}
use Rattle.cc_base.specs.declared.request.Request.TheVariants.{Delay}
use Rattle.cc_rules.proofs.Answered.{Held-answered, SoundProcess-granted}
use Rattle.cc_rules.proofs.Chosen.{asked-select, chose-answers, chosen-takes, due-open, immediate-alone, is-open, took-answers}
use Rattle.cc_rules.proofs.Held.{Held-set, Resets, Contains-cons, Contains-head, Contains-nil, Contains-tail}
use Rattle.cc_rules.proofs.Own.{Held-from_sound, Held-own, Sound-from_held, targets-all, there-within}
use Rattle.cc_rules.proofs.Stays.{AllStay-answered, AllStay-idle}
use Rattle.cc_rules.proofs.Taken.{Held-moved, find-contained, taken-back, taken-count, taken-forth}
use Rattle.cc_base.specs.Alternatives.{numbered}
use Rattle.cc_rules.specs.Choice.{accepts, call_deadline, call_numbered, expires_at, has_eligible, has_immediate, is_acceptable, is_chosen, is_first_due, is_immediate, may_withdraw, takes_at_once}
use Rattle.cc_rules.specs.Effects.{answered, granted, grant_to}
use Rattle.cc_rules.specs.Events.{accepted, expiry_grant, withdrawn, without_call}
use Rattle.cc_base.specs.Grants.{Answers}
use Rattle.cc_rules.specs.Sound.{asks, BelongsTo, IsAskedBy, Sound, SoundProcess, count_numbered}
use Rattle.cc_rules.specs.State.{Process, State, nobody, open_alternatives, process_at, is_over, is_running}
use Rattle.cc_rules.specs.declared.process.ProcessStanding.{ProcessStanding}
use Rattle.cc_rules.specs.declared.process.ProcessStanding.TheVariants.{Running, AtSelect, AtDelay, AtCall, Ended, Faulted}
use Rattle.cc_rules.specs.declared.process.TransactionCall.{TransactionCall}
use Rattle.cc_rules.specs.declared.process.Waiting.{Waiting}
use Rattle.cc_rules.specs.declared.process.Waiting.TheVariants.{Nobody, Caller, Until}

-- a process at a select or a delay: neither running, over nor at a call
pub record IsWaiting (x : ProcessStanding) : Type 0 where
  pub there : is_over x ≡ false
  pub idle : is_running x ≡ true → ⊥
  pub free : (n : CallId) → x ≡ AtCall n → ⊥

pub at-select : (alts : List (ℕ × Alt)) (asked : ℕ) → IsWaiting (AtSelect alts asked)
at-select alts asked = record { there = refl; idle = λ r. absurd cc; free = λ n e. absurd cc }

at-delay : (deadline : ℕ) → IsWaiting (AtDelay deadline)
at-delay deadline = record { there = refl; idle = λ r. absurd cc; free = λ n e. absurd cc }

module _ (m : Meaning) (s : State) (h : Sound m s) (p : ℕ) (w : IsWaiting (process_at s.processes p).standing) where
  waiting-within : p < length s.processes
  waiting-within = there-within s.processes p w.there

  waiting-sound : SoundProcess m (process_at s.processes p)
  waiting-sound = All-get_or (SoundProcess m) s.processes p nobody waiting-within h.each_process

  -- a process that waits goes on with what answers its request
  pub Sound-goes_on : (g : Grant) → Answers m (asks m (process_at s.processes p)) g → Sound m (record s { processes = grant_to s.processes p g })
  Sound-goes_on g a =
      let x = granted (process_at s.processes p) g in
      Sound-from_held m (record s { processes = grant_to s.processes p g })
      (Held-own m s.processes s.pending s.drawn p x (Held-from_sound m s h) waiting-within w.free (λ n e. absurd cc) refl
      (SoundProcess-granted m (process_at s.processes p) g waiting-sound a))
      h.rising
      (targets-all s.processes (grant_to s.processes p g) s.pending (λ q. AllStay-idle q p s.processes x refl refl w.idle refl) h.targets)

  -- it takes a pending call
  module _ (c : TransactionCall) (here : Contains s.pending c) (i : ℕ) (a : Answers m (asks m (process_at s.processes p)) (Took i c.args)) where
    abbrev taking : Process
    taking = record (granted (process_at s.processes p) (Took i c.args)) { serving = (process_at s.processes p).serving ++ c ∷ [] }

    once-pending : count_numbered c.number.0 s.pending ≤ 1
    once-pending = let once = h.once c.number.0 in omega arith

    serving-cases : (d : TransactionCall) → Contains ((process_at s.processes p).serving ++ c ∷ []) d → Contains s.pending d ⊎ Contains (process_at s.processes p).serving d
    serving-cases d k =
        elim (Contains-append_cases (process_at s.processes p).serving (c ∷ []) d k) [
          | inl j ↦ inr j
          | inr j ↦
              elim (Contains-cons c [] d j) [
                | inl e ↦ inl (subst (Contains s.pending) e here)
                | inr none ↦ absurd (Contains-nil d none)
              ]
        ]

    pending-cases : (d : TransactionCall) → (c ≡ d) ⊎ Contains (without_call s.pending c) d → Contains (without_call s.pending c) d ⊎ Contains ((process_at s.processes p).serving ++ c ∷ []) d
    pending-cases d (inl e) = inr (subst (Contains ((process_at s.processes p).serving ++ c ∷ [])) e (Contains-push (process_at s.processes p).serving c))
    pending-cases d (inr k) = inl k

    Resets-taking : Resets s.processes p taking s.pending (without_call s.pending c)
    Resets-taking =
        record {
          within = waiting-within;
          was_free = w.free;
          free = λ n e. absurd cc;
          back = λ d k.
              elim k [
                | inl j ↦ inl (taken-back s.pending c here once-pending d j)
                | inr j ↦ serving-cases d j
              ];
          forth = λ d k.
              elim k [
                | inl j ↦ pending-cases d (taken-forth s.pending c here once-pending d j)
                | inr j ↦ inr (Contains-append_left (process_at s.processes p).serving (c ∷ []) d j)
              ];
          count = λ n.
              (let less = taken-count s.pending c here once-pending n in
              let more = sum_by_push (λ (call : TransactionCall). cond (nat_eq call.number.0 n) 1 0) (process_at s.processes p).serving c in
              omega arith);
        }

    taking-sound : SoundProcess m taking
    taking-sound =
        let g = SoundProcess-granted m (process_at s.processes p) (Took i c.args) waiting-sound a in
        record { kind_exists = g.kind_exists; proper = g.proper; stands = tt; free = λ over. absurd cc }

    pub Sound-taken : Sound m (accepted s p i c)
    Sound-taken =
        let ps = set s.processes p taking in
        let test : TransactionCall → Bool = λ other. not (nat_eq other.number.0 c.number.0) in
        Sound-from_held m (accepted s p i c)
        (Held-set s.processes p taking s.pending (without_call s.pending c) Resets-taking m s.drawn (Held-from_sound m s h) taking-sound)
        (AllPairs-filter (λ (a' b : TransactionCall). a'.number.0 < b.number.0) test s.pending h.rising)
        (All-filter test (λ (call : TransactionCall). is_over (process_at ps call.target.0).standing ≡ false) s.pending
        (targets-all s.processes ps s.pending (λ q. AllStay-idle q p s.processes taking refl refl w.idle refl) h.targets))

pub waits-at : (x y : ProcessStanding) → x ≡ y → IsWaiting y → IsWaiting x
waits-at x y e w = subst IsWaiting (sym e) w

pub stands-by : (m : Meaning) (s : State) (p : ℕ) → Sound m s → IsWaiting (process_at s.processes p).standing → BelongsTo (process_at s.processes p).standing (asks m (process_at s.processes p))
stands-by m s p h w = (All-get_or (SoundProcess m) s.processes p nobody (there-within s.processes p w.there) h.each_process).stands

Sound-accept_if :
    (m : Meaning) (s : State) (p i n : ℕ) (call : Option TransactionCall)
    → Sound m s
    → call_numbered s.pending n ≡ call
    → option_map_or (accepts m s p i) call false ≡ true
    → Sound m (option_map_or (accepted s p i) call s)
Sound-accept_if m s p i n None h e l = absurd cc
Sound-accept_if m s p i n (Some c) h e l =
    let x = (process_at s.processes p).standing in
    let o = is-open x i (λ alt. is_chosen m p alt s.pending c) l in
    let w : IsWaiting x = waits-at x (AtSelect o.alts o.asked) o.standing (at-select o.alts o.asked) in
    let here = find-contained (λ (call : TransactionCall). nat_eq call.number.0 n) s.pending c e in
    let r = asks m (process_at s.processes p) in
    Sound-taken m s h p w c here i
    (took-answers m r o.alts i o.alt c.args
    (asked-select x r o.alts o.asked o.standing (stands-by m s p h w))
    o.here
    (chosen-takes m p o.alt s.pending c o.passes (h.each_call c (inl here)).arguments))

pub Sound-accept :
    (m : Meaning) (s : State) (p i n : ℕ)
    → Sound m s
    → option_map_or (accepts m s p i) (call_numbered s.pending n) false ≡ true
    → Sound m (option_map_or (accepted s p i) (call_numbered s.pending n) s)
Sound-accept m s p i n h l = Sound-accept_if m s p i n (call_numbered s.pending n) h refl l

pub Sound-instant :
    (m : Meaning) (s : State) (p i : ℕ)
    → Sound m s
    → takes_at_once m s p i ≡ true
    → Sound m (record s { processes = grant_to s.processes p (Chose i) })
Sound-instant m s p i h l =
    let x = (process_at s.processes p).standing in
    let o = is-open x i is_immediate (and_parts (option_map_or is_immediate (numbered (open_alternatives x) i) false) (not (has_eligible m s p)) l).0 in
    let w : IsWaiting x = waits-at x (AtSelect o.alts o.asked) o.standing (at-select o.alts o.asked) in
    let r = asks m (process_at s.processes p) in
    Sound-goes_on m s h p w (Chose i)
    (chose-answers m r o.alts i o.alt
    (asked-select x r o.alts o.asked o.standing (stands-by m s p h w))
    o.here
    (immediate-alone o.alt o.passes))

Sound-expire_at :
    (m : Meaning) (s : State) (p i : ℕ) (x : ProcessStanding)
    → Sound m s
    → (process_at s.processes p).standing ≡ x
    → expires_at m s p i x ≡ true
    → Sound m (record s { processes = grant_to s.processes p (expiry_grant i x) })
Sound-expire_at m s p i Running h e l = absurd cc
Sound-expire_at m s p i (AtSelect alts asked) h e l =
    let w = waits-at (process_at s.processes p).standing (AtSelect alts asked) e (at-select alts asked) in
    let r = asks m (process_at s.processes p) in
    let first = and_parts (is_first_due s.moment asked alts i && not (has_eligible m s p)) (not (has_immediate s p)) l in
    let due = due-open s.moment asked alts i (and_parts (is_first_due s.moment asked alts i) (not (has_eligible m s p)) first.0).0 in
    Sound-goes_on m s h p w (Chose i)
    (chose-answers m r alts i due.0 (asked-select (process_at s.processes p).standing r alts asked e (stands-by m s p h w)) due.1 due.2)
Sound-expire_at m s p i (AtDelay deadline) h e l =
    let w = waits-at (process_at s.processes p).standing (AtDelay deadline) e (at-delay deadline) in
    let r = asks m (process_at s.processes p) in
    let asked : (wait : ℤ) × (r ≡ Delay wait) = subst (λ y. BelongsTo y r) e (stands-by m s p h w) in
    Sound-goes_on m s h p w Go (subst (λ y. Answers m y Go) (sym asked.1) tt)
Sound-expire_at m s p i (AtCall c) h e l = absurd cc
Sound-expire_at m s p i Ended h e l = absurd cc
Sound-expire_at m s p i (Faulted kind) h e l = absurd cc

pub Sound-expire :
    (m : Meaning) (s : State) (p i : ℕ)
    → Sound m s
    → expires_at m s p i (process_at s.processes p).standing ≡ true
    → Sound m (record s { processes = grant_to s.processes p (expiry_grant i (process_at s.processes p).standing) })
Sound-expire m s p i h l = Sound-expire_at m s p i (process_at s.processes p).standing h refl l

-- that it was late answers a timed call
late-answers : (m : Meaning) (f : ℕ → Bool) (w : Waiting) (c : TransactionCall) (p : ℕ) (r : Request)
    → option_map_or f (call_deadline w) false ≡ true
    → IsAskedBy w p c r
    → Answers m r Late
late-answers m f Nobody c p r due h = absurd h
late-answers m f (Caller q) c p r due h = absurd cc
late-answers m f (Until q deadline) c p r due h = subst (λ x. Answers m x Late) (sym h.1.1) tt

Sound-withdraw_if :
    (m : Meaning) (s : State) (n : ℕ) (call : Option TransactionCall)
    → Sound m s
    → call_numbered s.pending n ≡ call
    → option_map_or (may_withdraw m s) call false ≡ true
    → Sound m (option_map_or (withdrawn s) call s)
Sound-withdraw_if m s n None h e l = absurd cc
Sound-withdraw_if m s n (Some c) h e l =
    let here = find-contained (λ (call : TransactionCall). nat_eq call.number.0 n) s.pending c e in
    let once : count_numbered c.number.0 s.pending ≤ 1 = (let one = h.once c.number.0 in omega arith) in
    let f : ℕ → Bool = λ deadline. nat_le deadline s.moment in
    let due = (and_parts (option_map_or f (call_deadline c.waiting) false) (not (is_acceptable m s c)) l).0 in
    let left = without_call s.pending c in
    let ps = answered s.processes c Late in
    let test : TransactionCall → Bool = λ other. not (nat_eq other.number.0 c.number.0) in
    Sound-from_held m (withdrawn s c)
    (Held-answered m s.processes c left s.drawn Late
    (Held-moved m s.processes s.pending (c ∷ left) s.drawn (Held-from_sound m s h)
    (λ d k.
    elim (Contains-cons c left d k) [
      | inl same ↦ subst (Contains s.pending) same here
      | inr j ↦ taken-back s.pending c here once d j
    ])
    (λ d k.
    elim (taken-forth s.pending c here once d k) [
      | inl same ↦ subst (Contains (c ∷ left)) same (Contains-head c left)
      | inr j ↦ Contains-tail c left d j
    ])
    (λ k.
    (let less = taken-count s.pending c here once k in
    let first = sum_by-cons (λ (call : TransactionCall). cond (nat_eq call.number.0 k) 1 0) c left in
    omega arith)))
    (λ p r asked. late-answers m f c.waiting c p r due asked))
    (AllPairs-filter (λ (a b : TransactionCall). a.number.0 < b.number.0) test s.pending h.rising)
    (All-filter test (λ (call : TransactionCall). is_over (process_at ps call.target.0).standing ≡ false) s.pending
    (targets-all s.processes ps s.pending (λ q. AllStay-answered q s.processes c Late) h.targets))

pub Sound-withdraw :
    (m : Meaning) (s : State) (n : ℕ)
    → Sound m s
    → option_map_or (may_withdraw m s) (call_numbered s.pending n) false ≡ true
    → Sound m (option_map_or (withdrawn s) (call_numbered s.pending n) s)
Sound-withdraw m s n h l = Sound-withdraw_if m s n (call_numbered s.pending n) h refl l
