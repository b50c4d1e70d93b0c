-- The least deadline that stands, as it is kept.
use Rattle.std.proofs.Common.{◌≡◌, inl, inr, ◌⊎◌, ℕ, zero, suc, ◌+◌, ◌≤◌, ℤ, Bool, true, false, cond, ◌||◌, List, [], ◌∷◌, ◌++◌, refl, sym, ap, ◌∙◌, subst, arith, min, nat_eq, Option, Some, None, All, Contains}
use Rattle.std.specs.Prelude.{MatchOption, filter_map, is_some}
use Rattle.std.specs.List.{cons_option, list_any}
use Rattle.std.specs.Option.{option_map_or}
use Rattle.std.proofs.lemmas.Bool.{both_ways, cases_lt}
use Rattle.std.proofs.lemmas.List.Elements.{All-get_or, All-head, All-tail}
use Rattle.std.proofs.lemmas.List.Sums.{get_or-le-sum_by}
use Rattle.cc_base.specs.Meaning.{Meaning}
use Rattle.cc_base.specs.declared.alternatives.Alt.{Alt}
use Rattle.cc_base.specs.declared.alternatives.Alt.TheVariants as alt
use Rattle.cc_base.specs.declared.names.CallId.{CallId}
use Rattle.cc_base.specs.declared.request.Grant.{Grant}
use Rattle.cc_kernel.proofs.Seated.{same-standing}
use Rattle.cc_kernel.proofs.Serving.{found-behind, found-own}
use Rattle.cc_kernel.proofs.Timed.{has-standing, of-standing, stands-for, stands-there}
use Rattle.cc_kernel.specs.Contract.{least_of}
use Rattle.cc_kernel.specs.Seats.{seat_at}
use Rattle.cc_kernel.specs.Store.{Contents, IsState, Rising}
use Rattle.cc_kernel.specs.Timed.{call_due, deadline_for, deadline_of, stands_in}
use Rattle.cc_kernel.specs.Untimed.{AsksNoDeadline, HasNoDeadline, IsNoDelay, NoDelays}
use Rattle.cc_rules.proofs.Held.{Contains-head, Contains-tail, at_call-within, is-counted, serves-within}
use Rattle.cc_rules.proofs.Taken.{unique}
use Rattle.cc_rules.specs.Choice.{alternative_deadline, call_deadline, call_numbered}
use Rattle.cc_rules.specs.Effects.{caller_of}
use Rattle.cc_rules.specs.Ends.{has_deadline, is_timed}
use Rattle.cc_rules.specs.Sound.{BelongsTo, IsAskedBy, Sound, SoundProcess, Stands, asks, count_numbered, count_standing}
use Rattle.cc_rules.specs.Standing.{deadlines, deadlines_of, least, process_deadlines}
use Rattle.cc_rules.specs.State.{Process, State, nobody, process_at}
use Rattle.cc_rules.specs.declared.process.ProcessStanding.{ProcessStanding}
use Rattle.cc_rules.specs.declared.process.ProcessStanding.TheVariants.{Running, AtSelect, AtDelay, AtCall, Ended, Faulted}
use Rattle.cc_rules.specs.declared.process.TransactionCall.{TransactionCall}
use Rattle.cc_rules.specs.declared.process.Waiting.{Waiting}
use Rattle.cc_rules.specs.declared.process.Waiting.TheVariants.{Nobody, Caller, Until}
use Rattle.cc_timer.proofs.Order.{no_later, same_deadline}
use Rattle.cc_timer.specs.Deadlines.{IsFirst, is_due_before}
use Rattle.cc_timer.specs.declared.who.Who.{Who}
use Rattle.cc_timer.specs.declared.who.Who.TheVariants as who

-- there is a least one exactly where there is one
any-least : {X : Type 0} (h : X → Option ℕ) (xs : List X) → list_any (λ x. is_some (h x)) xs ≡ is_some (least_of (filter_map h xs))
any-least h [] = refl
any-least h (x ∷ xs) = by (h x) (any-least h xs)
  where
    by :
        (o : Option ℕ)
        → list_any (λ y. is_some (h y)) xs ≡ is_some (least_of (filter_map h xs))
        → (is_some o || list_any (λ y. is_some (h y)) xs) ≡ is_some (least_of (cons_option o (filter_map h xs)))
    by None rest = rest
    by (Some n) rest = refl

some-append : (ns ks : List ℕ) → is_some (least_of (ns ++ ks)) ≡ (is_some (least_of ns) || is_some (least_of ks))
some-append [] ks = refl
some-append (n ∷ ns) ks = refl

timed-least : (x : ProcessStanding) → is_timed x ≡ is_some (least_of (deadlines_of x))
timed-least Running = refl
timed-least (AtSelect alts asked) = any-least (λ (a : ℕ × Alt). alternative_deadline asked a.1) alts
timed-least (AtDelay deadline) = refl
timed-least (AtCall call) = refl
timed-least Ended = refl
timed-least (Faulted kind) = refl

any-process : (qs : List Process) → list_any (λ q. is_timed q.standing) qs ≡ is_some (least_of (process_deadlines qs))
any-process [] = refl
any-process (q ∷ qs) = rw (timed-least q.standing, any-process qs) (sym (some-append (deadlines_of q.standing) (process_deadlines qs)))

-- a deadline stands exactly where there is a least one
pub some-deadline : (s : State) → has_deadline s ≡ is_some (least_of (deadlines s))
some-deadline s =
    rw (any-process s.processes, any-least (λ (call : TransactionCall). call_deadline call.waiting) s.pending)
    (sym (some-append (process_deadlines s.processes) (filter_map (λ (call : TransactionCall). call_deadline call.waiting) s.pending)))

-- n is one of these; none of these is below n
abbrev HasIt : ℕ → List ℕ → Type 0
HasIt n [] = ⊥
HasIt n (k ∷ ks) = (k ≡ n) ⊎ HasIt n ks

abbrev NoneBelow : ℕ → List ℕ → Type 0
NoneBelow n [] = Unit {0}
NoneBelow n (k ∷ ks) = (n ≤ k) × NoneBelow n ks

below-least : (n k : ℕ) (ks : List ℕ) → NoneBelow n (k ∷ ks) → n ≤ least (k ∷ ks)
below-least n k [] h = h.0
below-least n k (j ∷ ks) h = let r = below-least n j ks h.1 in let l : n ≤ k = h.0 in omega (arith, r, l)

least-has : (k : ℕ) (ks : List ℕ) → HasIt (least (k ∷ ks)) (k ∷ ks)
least-has k [] = inl refl
least-has k (j ∷ ks) = by (least (j ∷ ks)) (least-has j ks)
  where
    by : (l : ℕ) → HasIt l (j ∷ ks) → HasIt (min k l) (k ∷ j ∷ ks)
    by l h =
        elim (lesser k l) [
          | inl first ↦ inl (sym first)
          | inr other ↦ inr (subst (λ n. HasIt n (j ∷ ks)) (sym other) h)
        ]
      where
        lesser : (a b : ℕ) → (min a b ≡ a) ⊎ (min a b ≡ b)
        lesser a b = elim (cases_lt a b) [ inl lt ↦ inl (omega arith) | inr le ↦ inr (omega arith) ]

least-none : (k : ℕ) (ks : List ℕ) → NoneBelow (least (k ∷ ks)) (k ∷ ks)
least-none k [] = (omega arith, tt)
least-none k (j ∷ ks) =
    let l = least (j ∷ ks) in
    (omega arith, weaker (min k l) l (j ∷ ks) (omega arith) (least-none j ks))
  where
    weaker : (a b : ℕ) (ns : List ℕ) → a ≤ b → NoneBelow b ns → NoneBelow a ns
    weaker a b [] le h = tt
    weaker a b (n ∷ ns) le h = (let r : b ≤ n = h.0 in omega arith, weaker a b ns le h.1)

below-weaker : (a b : ℕ) (ns : List ℕ) → a ≤ b → NoneBelow b ns → NoneBelow a ns
below-weaker a b [] le h = tt
below-weaker a b (n ∷ ns) le h = (let r : b ≤ n = h.0 in omega arith, below-weaker a b ns le h.1)

least-is : (n : ℕ) (ns : List ℕ) → HasIt n ns → NoneBelow n ns → Some n ≡ least_of ns
least-is n [] h k = absurd h
least-is n (j ∷ ns) h k =
    let le : n ≤ least (j ∷ ns) = below-least n j ns k in
    let ge : least (j ∷ ns) ≤ n = above n (j ∷ ns) (least (j ∷ ns)) h (least-none j ns) in
    let e : n ≡ least (j ∷ ns) = omega (arith, le, ge) in
    ap Some e
  where
    above : (n : ℕ) (ns : List ℕ) (l : ℕ) → HasIt n ns → NoneBelow l ns → l ≤ n
    above n [] l h k = absurd h
    above n (j ∷ ns) l (inl e) k = let r : l ≤ j = k.0 in omega (arith, e, r)
    above n (j ∷ ns) l (inr h) k = above n ns l h k.1

-- of a process
has-own : (ns : List ℕ) (n : ℕ) → least_of ns ≡ Some n → HasIt n ns
has-own [] n e = cc
has-own (k ∷ ks) n e = let same : least (k ∷ ks) ≡ n = cc in subst (λ l. HasIt l (k ∷ ks)) same (least-has k ks)

none-own : (ns : List ℕ) (o : Option ℕ) (n : ℕ) → least_of ns ≡ o → ((k : ℕ) → o ≡ Some k → n ≤ k) → NoneBelow n ns
none-own [] o n e h = tt
none-own (k ∷ ks) o n e h = below-weaker n (least (k ∷ ks)) (k ∷ ks) (h (least (k ∷ ks)) (sym e)) (least-none k ks)

has-append : (n : ℕ) (ns ks : List ℕ) → HasIt n ns → HasIt n (ns ++ ks)
has-append n [] ks h = absurd h
has-append n (j ∷ ns) ks (inl e) = inl e
has-append n (j ∷ ns) ks (inr h) = inr (has-append n ns ks h)

has-behind : (n : ℕ) (ns ks : List ℕ) → HasIt n ks → HasIt n (ns ++ ks)
has-behind n [] ks h = h
has-behind n (j ∷ ns) ks h = inr (has-behind n ns ks h)

below-append : (n : ℕ) (ns ks : List ℕ) → NoneBelow n ns → NoneBelow n ks → NoneBelow n (ns ++ ks)
below-append n [] ks h k = k
below-append n (j ∷ ns) ks h k = (h.0, below-append n ns ks h.1 k)

has-process : (qs : List Process) (p n : ℕ) → deadline_of (process_at qs p).standing ≡ Some n → HasIt n (process_deadlines qs)
has-process [] p n e = cc
has-process (q ∷ qs) zero n e = has-append n (deadlines_of q.standing) (process_deadlines qs) (has-own (deadlines_of q.standing) n e)
has-process (q ∷ qs) (suc p) n e = has-behind n (deadlines_of q.standing) (process_deadlines qs) (has-process qs p n e)

none-process : (qs : List Process) (n : ℕ) → ((p k : ℕ) → deadline_of (process_at qs p).standing ≡ Some k → n ≤ k) → NoneBelow n (process_deadlines qs)
none-process [] n h = tt
none-process (q ∷ qs) n h =
    below-append n (deadlines_of q.standing) (process_deadlines qs)
    (none-own (deadlines_of q.standing) (deadline_of q.standing) n refl (h 0))
    (none-process qs n (λ p. h (suc p)))

no-process : (qs : List Process) → ((p : ℕ) → deadline_of (process_at qs p).standing ≡ None) → process_deadlines qs ≡ []
no-process [] h = refl
no-process (q ∷ qs) h = rw (nothing (deadlines_of q.standing) (h 0), no-process qs (λ p. h (suc p))) refl
  where
    nothing : (ns : List ℕ) → least_of ns ≡ None → ns ≡ []
    nothing [] e = refl
    nothing (n ∷ ns) e = cc

-- the deadlines of pending calls
abbrev call_deadlines : List TransactionCall → List ℕ
call_deadlines calls = filter_map (λ call. call_deadline call.waiting) calls

-- of a pending call
has-call : (calls : List TransactionCall) (c n : ℕ) → call_due calls c ≡ Some n → HasIt n (filter_map (λ (call : TransactionCall). call_deadline call.waiting) calls)
has-call [] c n e = cc
has-call (call ∷ calls) c n e = by (nat_eq call.number.0 c) e (has-call calls c n)
  where
    rest : List ℕ
    rest = filter_map (λ (other : TransactionCall). call_deadline other.waiting) calls

    behind : (o : Option ℕ) → HasIt n rest → HasIt n (cons_option o rest)
    behind None h = h
    behind (Some k) h = inr h

    by :
        (b : Bool)
        → option_map_or (λ (other : TransactionCall). call_deadline other.waiting) (cond b (Some call) (call_numbered calls c)) None ≡ Some n
        → (call_due calls c ≡ Some n → HasIt n rest)
        → HasIt n (cons_option (call_deadline call.waiting) rest)
    by true h more = subst (λ o. HasIt n (cons_option o rest)) (sym h) (inl refl)
    by false h more = behind (call_deadline call.waiting) (more h)

none-call :
    (n low : ℕ) (calls : List TransactionCall) (high : ℕ)
    → Rising low calls high
    → ((c k : ℕ) → low ≤ c → call_due calls c ≡ Some k → n ≤ k)
    → NoneBelow n (filter_map (λ (call : TransactionCall). call_deadline call.waiting) calls)
none-call n low [] high rising h = tt
none-call n low (call ∷ calls) high rising h =
    let from : low ≤ call.number.0 = rising.0 in
    by (call_deadline call.waiting) (λ k e. h call.number.0 k from (ap due (found-own call calls) ∙ e))
    (none-call n (call.number.0 + 1) calls high rising.1
    (λ c k le e. h c k (omega (arith, from, le)) (ap due (found-behind call calls c (omega (arith, le))) ∙ e)))
  where
    due : Option TransactionCall → Option ℕ
    due o = option_map_or (λ (other : TransactionCall). call_deadline other.waiting) o None

    by : (o : Option ℕ) → ((k : ℕ) → o ≡ Some k → n ≤ k) → NoneBelow n (filter_map (λ (other : TransactionCall). call_deadline other.waiting) calls) → NoneBelow n (cons_option o (filter_map (λ (other : TransactionCall). call_deadline other.waiting) calls))
    by None own rest = rest
    by (Some k) own rest = (own k refl, rest)

no-call :
    (low : ℕ) (calls : List TransactionCall) (high : ℕ)
    → Rising low calls high
    → ((c : ℕ) → low ≤ c → call_due calls c ≡ None)
    → filter_map (λ (call : TransactionCall). call_deadline call.waiting) calls ≡ []
no-call low [] high rising h = refl
no-call low (call ∷ calls) high rising h =
    let from : low ≤ call.number.0 = rising.0 in
    by (call_deadline call.waiting) (sym (ap due (found-own call calls)) ∙ h call.number.0 from)
    (no-call (call.number.0 + 1) calls high rising.1
    (λ c le. sym (ap due (found-behind call calls c (omega (arith, le)))) ∙ h c (omega (arith, from, le))))
  where
    due : Option TransactionCall → Option ℕ
    due o = option_map_or (λ (other : TransactionCall). call_deadline other.waiting) o None

    by : (o : Option ℕ) → o ≡ None → filter_map (λ (other : TransactionCall). call_deadline other.waiting) calls ≡ [] → cons_option o (filter_map (λ (other : TransactionCall). call_deadline other.waiting) calls) ≡ []
    by None e rest = rest
    by (Some k) e rest = cc

-- of two deadlines of which the first is not due before the other, the other has no later moment
not-before : (d e : ℕ × Who) → is_due_before d e ≡ false → e.0 ≤ d.0
not-before d e h = by (is_due_before e d) refl
  where
    by : (b : Bool) → is_due_before e d ≡ b → e.0 ≤ d.0
    by true k = no_later e d k
    by false k = let same = ap (λ (x : ℕ × Who). x.0) (same_deadline d e h k) in omega (arith, same)

module _ {P : Type 0} (located : P → ℕ → List ℤ → List Grant → Type 0) where
  own-at : (s : State) (x : Contents P) (p : ℕ) → IsState located s x → deadline_of (seat_at x.seats p).standing ≡ deadline_of (process_at s.processes p).standing
  own-at s x p k = ap deadline_of (same-standing located s.processes x.seats p k.seated)

  due-at : (s : State) (x : Contents P) (c : ℕ) → IsState located s x → call_due x.pending c ≡ call_due s.pending c
  due-at s x c k = ap (λ calls. call_due calls c) k.pending

  -- the first that is kept is the least that stands
  first-least : (s : State) (x : Contents P) (n : ℕ) (w : Who) → IsState located s x → IsFirst (n, w) x.deadlines → Some n ≡ least_of (deadlines s)
  first-least s x n w k first =
      least-is n (deadlines s) (there w (has-standing x.seats x.pending x.deadlines w n k.timed (stands-there x.deadlines n w first.0)))
      (below-append n (process_deadlines s.processes) (call_deadlines s.pending) (none-process s.processes n above) (none-call n 0 s.pending s.drawn k.rising (λ c j le. above-call c j)))
    where
      there : (v : Who) → deadline_for x.seats x.pending v ≡ Some n → HasIt n (deadlines s)
      there (who.Process p) h =
          has-append n (process_deadlines s.processes) (call_deadlines s.pending) (has-process s.processes p.0 n (sym (own-at s x p.0 k) ∙ h))
      there (who.Call c) h =
          has-behind n (process_deadlines s.processes) (call_deadlines s.pending) (has-call s.pending c.0 n (sym (due-at s x c.0 k) ∙ h))

      after-first : (v : Who) (j : ℕ) → deadline_for x.seats x.pending v ≡ Some j → n ≤ j
      after-first v j e =
          not-before (j, v) (n, w)
          (of-standing (λ d. is_due_before d (n, w) ≡ false) x.deadlines j v first.1 (stands-for x.seats x.pending x.deadlines v j k.timed e))

      above : (p j : ℕ) → deadline_of (process_at s.processes p).standing ≡ Some j → n ≤ j
      above p j e = after-first (who.Process (record { 0 = p })) j (own-at s x p k ∙ e)

      above-call : (c j : ℕ) → call_due s.pending c ≡ Some j → n ≤ j
      above-call c j e = after-first (who.Call (record { 0 = c })) j (due-at s x c k ∙ e)

  -- where none is kept, none stands
  none-least : (s : State) (x : Contents P) → IsState located s x → x.deadlines ≡ [] → None ≡ least_of (deadlines s)
  none-least s x k none =
      rw (no-call 0 s.pending s.drawn k.rising (λ c le. each-call c), no-process s.processes each) refl
    where
      never : (o : Option ℕ) → ((n : ℕ) → o ≡ Some n → ⊥) → o ≡ None
      never None h = refl
      never (Some n) h = absurd (h n refl)

      has-none : (v : Who) → deadline_for x.seats x.pending v ≡ None
      has-none v =
          never (deadline_for x.seats x.pending v)
          (λ n e. both_ways (stands_in x.deadlines n v) (ap (λ ds. stands_in ds n v) none) (stands-for x.seats x.pending x.deadlines v n k.timed e))

      each : (p : ℕ) → deadline_of (process_at s.processes p).standing ≡ None
      each p = sym (own-at s x p k) ∙ has-none (who.Process (record { 0 = p }))

      each-call : (c : ℕ) → call_due s.pending c ≡ None
      each-call c = sym (due-at s x c k) ∙ has-none (who.Call (record { 0 = c }))

  pub earliest-is :
      (s : State) (x : Contents P) (o : Option ℕ)
      → IsState located s x
      → MatchOption o (x.deadlines ≡ []) (λ n. (w : Who) × IsFirst (n, w) x.deadlines)
      → o ≡ least_of (deadlines s)
  earliest-is s x None k h = none-least s x k h
  earliest-is s x (Some n) k h = first-least s x n h.0 k h.1

-- a call that stands and has the number of a pending one is that one
one-standing :
    (ps : List Process) (calls : List TransactionCall) (c d : TransactionCall)
    → ((n : ℕ) → count_standing ps calls n ≤ 1)
    → Contains calls c
    → Stands ps calls d
    → d.number ≡ c.number
    → d ≡ c
one-standing ps calls c d once here (inl there) e =
    let all = once c.number.0 in
    unique c.number.0 calls d c (omega arith) there here (ap (λ (n : CallId). n.0) e) refl
one-standing ps calls c d once here (inr (p, there)) e =
    let all = once c.number.0 in
    let one = is-counted c.number.0 calls c here refl in
    let other = is-counted c.number.0 (process_at ps p).serving d there (ap (λ (n : CallId). n.0) e) in
    let le = get_or-le-sum_by (λ (q : Process). count_numbered c.number.0 q.serving) ps p nobody (serves-within ps p d there) in
    absurd (omega arith)

-- where no request has a deadline, none stands
module _ (m : Meaning) (untimed : AsksNoDeadline m) where
  none-of-process : (q : Process) → SoundProcess m q → deadlines_of q.standing ≡ []
  none-of-process q sound = by q.standing sound.stands
    where
      known : HasNoDeadline (asks m q)
      known = untimed q.kind q.args q.grants sound.kind_exists sound.proper

      no-delay : (asked : ℕ) (a : Alt) → IsNoDelay a → alternative_deadline asked a ≡ None
      no-delay asked (alt.Accept trans site env) h = refl
      no-delay asked (alt.After wait) h = absurd h
      no-delay asked alt.Now h = refl
      no-delay asked alt.Terminate h = refl

      no-delays : (asked : ℕ) (alts : List (ℕ × Alt)) → NoDelays alts → filter_map (λ (a : ℕ × Alt). alternative_deadline asked a.1) alts ≡ []
      no-delays asked [] h = refl
      no-delays asked (a ∷ alts) h = rw (no-delay asked a.1 h.0) (no-delays asked alts h.1)

      by : (x : ProcessStanding) → BelongsTo x (asks m q) → deadlines_of x ≡ []
      by Running h = refl
      by (AtSelect alts asked) h = no-delays asked alts (subst HasNoDeadline h known)
      by (AtDelay deadline) h = absurd (subst HasNoDeadline h.1 known)
      by (AtCall call) h = refl
      by Ended h = refl
      by (Faulted kind) h = refl

  none-of-processes : (qs : List Process) → All (SoundProcess m) qs → process_deadlines qs ≡ []
  none-of-processes [] all = refl
  none-of-processes (q ∷ qs) all = rw (none-of-process q (All-head (SoundProcess m) q qs all), none-of-processes qs (All-tail (SoundProcess m) q qs all)) refl

  -- a call for whose answer a process waits until a moment was asked so
  none-of-call : (s : State) (call : TransactionCall) → Sound m s → Contains s.pending call → call_deadline call.waiting ≡ None
  none-of-call s call sound here = by call.waiting refl
    where
      asked-so :
          (p : ℕ) (w : Waiting) (asking : TransactionCall)
          → HasNoDeadline (asks m (process_at s.processes p))
          → IsAskedBy w p asking (asks m (process_at s.processes p))
          → call_deadline w ≡ None
      asked-so p Nobody asking known h = refl
      asked-so p (Caller q) asking known h = refl
      asked-so p (Until q deadline) asking known h = absurd (subst HasNoDeadline h.1.1 known)

      by : (w : Waiting) → call.waiting ≡ w → call_deadline w ≡ None
      by Nobody e = refl
      by (Caller q) e = refl
      by (Until q deadline) e =
          let at = (sound.each_call call (inl here)).waits q (ap caller_of e) in
          let awaited = sound.awaited q.0 call.number at in
          let same = one-standing s.processes s.pending call awaited.call sound.once here awaited.there awaited.same_number in
          let lt = at_call-within s.processes q.0 call.number at in
          let own = All-get_or (SoundProcess m) s.processes q.0 nobody lt sound.each_process in
          let known : HasNoDeadline (asks m (process_at s.processes q.0)) = untimed (process_at s.processes q.0).kind (process_at s.processes q.0).args (process_at s.processes q.0).grants own.kind_exists own.proper in
          sym (ap call_deadline (ap (λ (c : TransactionCall). c.waiting) same ∙ e)) ∙ asked-so q.0 awaited.call.waiting awaited.call known awaited.asked

  none-of-calls : (calls : List TransactionCall) → ((call : TransactionCall) → Contains calls call → call_deadline call.waiting ≡ None) → call_deadlines calls ≡ []
  none-of-calls [] h = refl
  none-of-calls (call ∷ calls) h = rw (h call (Contains-head call calls)) (none-of-calls calls (λ c there. h c (Contains-tail call calls c there)))

  pub none-stands : (s : State) → Sound m s → least_of (deadlines s) ≡ None
  none-stands s sound = rw (none-of-processes s.processes sound.each_process, none-of-calls s.pending (λ call here. none-of-call s call sound here)) refl
