-- The pending calls with who waits for each are as the queues tell them.
use Rattle.std.proofs.Common.{rules, ◌≡◌, ◌≢◌, ℕ, ◌<◌, ℤ, Bool, true, false, not, List, [], ◌∷◌, ◌++◌, map, refl, sym, ap, ◌∙◌, arith, cond, nat_eq, Option, Some, None}
use Rattle.std.specs.Prelude.{All, Contains, IfNone, IfSome, MatchOption, filter, if◌then◌else◌, is_some}
use Rattle.std.specs.List.{list_all, list_any}
use Rattle.std.specs.Option.{option_map, option_map_or}
use Rattle.std.proofs.lemmas.Bool.{eqb-true}
use Rattle.std.proofs.lemmas.List.Elements.{All-cons, All-head, All-nil, All-tail}
use Rattle.cc_base.specs.Meaning.{Meaning}
use Rattle.cc_base.specs.declared.alternatives.Alt.{Alt}
use Rattle.cc_base.specs.declared.alternatives.Alt.TheVariants.{Accept, After, Now, Terminate}
use Rattle.cc_base.specs.declared.names.CallId.{CallId}
use Rattle.cc_base.specs.declared.names.Pid.{Pid}
use Rattle.cc_kernel.specs.Asked.{asked_call, who_waits}
use Rattle.cc_queue.specs.Calls.{call_numbered as queued}
use Rattle.cc_queue.specs.Choice as queue
use Rattle.cc_queue.specs.declared.call.PendingCall.{PendingCall}
use Rattle.cc_rules.specs.Choice.{call_numbered, goes_before, is_chosen, is_eligible, rank}
use Rattle.cc_rules.specs.Effects.{is_for}
use Rattle.cc_rules.specs.declared.process.TransactionCall.{TransactionCall}
use Rattle.cc_rules.specs.declared.process.Waiting.{Waiting}

same-number : (n : ℕ) → nat_eq n n ≡ true
same-number n = search rules

false-from : (b : Bool) → (b ≡ true → ⊥) → b ≡ false
false-from true h = absurd (h refl)
false-from false h = refl

-- a list that is mapped and filtered
pub filter-map : {X Y : Type 0} (f : X → Y) (test : Y → Bool) (xs : List X) → filter test (map f xs) ≡ map f (filter (λ x. test (f x)) xs)
filter-map f test [] = refl
filter-map f test (x ∷ xs) = step (test (f x)) (filter-map f test xs)
  where
    step : (b : Bool) → filter test (map f xs) ≡ map f (filter (λ y. test (f y)) xs) → cond b (f x ∷ filter test (map f xs)) (filter test (map f xs)) ≡ map f (cond b (x ∷ filter (λ y. test (f y)) xs) (filter (λ y. test (f y)) xs))
    step true h = ap (λ ys. f x ∷ ys) h
    step false h = h

module _ (waiters waiters' : ℕ → Option Waiting) where
  -- the same waiters
  pub asked-same : ((n : ℕ) → waiters' n ≡ waiters n) → (calls : List PendingCall) → map (asked_call waiters') calls ≡ map (asked_call waiters) calls
  asked-same h [] = refl
  asked-same h (call ∷ calls) = rw (h call.number.0, asked-same h calls) refl

  -- one more
  pub asked-more :
      (number : ℕ) (waiting : Waiting)
      → ((n : ℕ) → waiters' n ≡ (if nat_eq number n then Some waiting else waiters n))
      → (calls : List PendingCall) (call : PendingCall)
      → call.number.0 ≡ number
      → All (λ (c : TransactionCall). c.number.0 < number) (map (asked_call waiters) calls)
      → map (asked_call waiters') (calls ++ call ∷ [])
      ≡ map (asked_call waiters) calls
      ++ record { number = call.number; target = call.target; trans = call.trans; args = call.args; waiting = waiting } ∷ []
  asked-more number waiting h [] call same below =
      ap (λ w. record { number = call.number; target = call.target; trans = call.trans; args = call.args; waiting = who_waits w } ∷ [])
      (h call.number.0 ∙ ap (λ n. if nat_eq number n then Some waiting else waiters n) same ∙ ap (λ b. if b then Some waiting else waiters number) (same-number number))
  asked-more number waiting h (other ∷ calls) call same below =
      let less : other.number.0 < number = All-head (λ (c : TransactionCall). c.number.0 < number) (asked_call waiters other) (map (asked_call waiters) calls) below in
      let apart : nat_eq number other.number.0 ≡ false = false-from (nat_eq number other.number.0) (λ e. let k = eqb-true number other.number.0 e in omega (arith, less, k)) in
      rw (
        h other.number.0,
        apart,
        asked-more number waiting h calls call same (All-tail (λ (c : TransactionCall). c.number.0 < number) (asked_call waiters other) (map (asked_call waiters) calls) below),
      )
      refl

  -- one less
  pub asked-less :
      (number : ℕ)
      → ((n : ℕ) → waiters' n ≡ (if nat_eq number n then None else waiters n))
      → (calls : List PendingCall)
      → map (asked_call waiters') (filter (λ c. not (nat_eq c.number.0 number)) calls)
      ≡ filter (λ c. not (nat_eq c.number.0 number)) (map (asked_call waiters) calls)
  asked-less number h [] = refl
  asked-less number h (call ∷ calls) = step (nat_eq call.number.0 number) refl (asked-less number h calls)
    where
      step :
          (b : Bool)
          → nat_eq call.number.0 number ≡ b
          → map (asked_call waiters') (filter (λ c. not (nat_eq c.number.0 number)) calls)
          ≡ filter (λ c. not (nat_eq c.number.0 number)) (map (asked_call waiters) calls)
          → map (asked_call waiters') (cond (not b) (call ∷ filter (λ c. not (nat_eq c.number.0 number)) calls) (filter (λ c. not (nat_eq c.number.0 number)) calls))
          ≡ cond (not b)
          (asked_call waiters call ∷ filter (λ c. not (nat_eq c.number.0 number)) (map (asked_call waiters) calls))
          (filter (λ c. not (nat_eq c.number.0 number)) (map (asked_call waiters) calls))
      step true e rest = rest
      step false e rest =
          let apart : nat_eq number call.number.0 ≡ false = false-from (nat_eq number call.number.0) (λ k. both call.number.0 number e (eqb-true number call.number.0 k)) in
          rw (h call.number.0, apart, rest) refl
        where
          both : (a b : ℕ) → nat_eq a b ≡ false → b ≡ a → ⊥
          both a b e same = absurd (let t : nat_eq a b ≡ true = ap (nat_eq a) same ∙ same-number a in cc)

module _ (waiters : ℕ → Option Waiting) where
  -- the call of a number
  pub asked-numbered : (calls : List PendingCall) (n : ℕ) → call_numbered (map (asked_call waiters) calls) n ≡ option_map (asked_call waiters) (queued calls n)
  asked-numbered [] n = refl
  asked-numbered (call ∷ calls) n = step (nat_eq call.number.0 n) (asked-numbered calls n)
    where
      step :
          (b : Bool)
          → call_numbered (map (asked_call waiters) calls) n ≡ option_map (asked_call waiters) (queued calls n)
          → cond b (Some (asked_call waiters call)) (call_numbered (map (asked_call waiters) calls) n) ≡ option_map (asked_call waiters) (cond b (Some call) (queued calls n))
      step true h = refl
      step false h = h

  module _ (m : Meaning) (p trans site : ℕ) (env : List ℤ) where
    -- none is eligible
    pub asked-none :
        (calls : List PendingCall)
        → All (λ c. queue.rank m p trans site env c ≡ None) calls
        → list_any (is_eligible m p (Accept trans site env)) (map (asked_call waiters) calls) ≡ false
    asked-none [] h = refl
    asked-none (call ∷ calls) h =
        rw (
          ap is_some (All-head (λ c. queue.rank m p trans site env c ≡ None) call calls h),
          asked-none calls (All-tail (λ c. queue.rank m p trans site env c ≡ None) call calls h),
        )
        refl

    goes-same : (k : ℤ) (n : ℕ) (o : Option ℤ) (other : ℕ) → goes_before k n o other ≡ queue.goes_before k n o other
    goes-same k n None other = refl
    goes-same k n (Some k') other = refl

    every-same : (k : ℤ) (n : ℕ) (calls : List PendingCall) → list_all (λ other. goes_before k n (rank m p (Accept trans site env) other) other.number.0) (map (asked_call waiters) calls) ≡ list_all (λ other. queue.goes_before k n (queue.rank m p trans site env other) other.number.0) calls
    every-same k n [] = refl
    every-same k n (call ∷ calls) = rw (goes-same k n (queue.rank m p trans site env call) call.number.0, every-same k n calls) refl

    -- a call is chosen
    pub asked-chosen :
        (calls : List PendingCall) (call : PendingCall)
        → queue.is_chosen m p trans site env calls call ≡ true
        → is_chosen m p (Accept trans site env) (map (asked_call waiters) calls) (asked_call waiters call) ≡ true
    asked-chosen calls call h = by-rank (queue.rank m p trans site env call) h
      where
        by-rank :
            (o : Option ℤ)
            → option_map_or (λ k. list_all (λ other. queue.goes_before k call.number.0 (queue.rank m p trans site env other) other.number.0) calls) o false ≡ true
            → option_map_or (λ k. list_all (λ other. goes_before k call.number.0 (rank m p (Accept trans site env) other) other.number.0) (map (asked_call waiters) calls)) o false ≡ true
        by-rank None h = cc
        by-rank (Some k) h = every-same k call.number.0 calls ∙ h

    -- the call that is chosen, where one is
    pub asked-best :
        (calls : List PendingCall) (o : Option CallId)
        → IfNone o (All (λ c. queue.rank m p trans site env c ≡ None) calls)
        → IfSome o (λ number. (c : PendingCall) × (queued calls number.0 ≡ Some c) × (c.number ≡ number) × (queue.is_chosen m p trans site env calls c ≡ true))
        → MatchOption o (list_any (is_eligible m p (Accept trans site env)) (map (asked_call waiters) calls) ≡ false)
        (λ number. (call : TransactionCall) × (call_numbered (map (asked_call waiters) calls) number.0 ≡ Some call) × (is_chosen m p (Accept trans site env) (map (asked_call waiters) calls) call ≡ true))
    asked-best calls None none found = asked-none calls none
    asked-best calls (Some number) none found =
        (asked_call waiters found.0, asked-numbered calls number.0 ∙ ap (option_map (asked_call waiters)) found.1, asked-chosen calls found.0 found.3)

-- an alternative that accepts nothing
pub none-accepted : (m : Meaning) (p : ℕ) (alt : Alt) (calls : List TransactionCall) → ((trans site : ℕ) (env : List ℤ) → alt ≢ Accept trans site env) → list_any (is_eligible m p alt) calls ≡ false
none-accepted m p (Accept trans site env) calls ne = absurd (ne trans site env refl)
none-accepted m p (After wait) [] ne = refl
none-accepted m p (After wait) (call ∷ calls) ne = none-accepted m p (After wait) calls ne
none-accepted m p Now [] ne = refl
none-accepted m p Now (call ∷ calls) ne = none-accepted m p Now calls ne
none-accepted m p Terminate [] ne = refl
none-accepted m p Terminate (call ∷ calls) ne = none-accepted m p Terminate calls ne

-- none is for the target
pub none-for : (waiters : ℕ → Option Waiting) (target : ℕ) (calls : List PendingCall) → All (λ (c : PendingCall). nat_eq c.target.0 target ≡ false) calls → filter (is_for target) (map (asked_call waiters) calls) ≡ []
none-for waiters target [] h = refl
none-for waiters target (call ∷ calls) h =
    rw (
      All-head (λ (c : PendingCall). nat_eq c.target.0 target ≡ false) call calls h,
      none-for waiters target calls (All-tail (λ (c : PendingCall). nat_eq c.target.0 target ≡ false) call calls h),
    )
    refl

-- the first of a target, where it has one
pub asked-first :
    (waiters : ℕ → Option Waiting) (target : Pid) (calls : List PendingCall) (o : Option CallId)
    → MatchOption o (All (λ c. nat_eq c.target.0 target.0 ≡ false) calls) (λ number. (c : PendingCall) × Contains calls c × (c.number ≡ number) × (c.target ≡ target))
    → IfSome o
    (λ number.
    (c : PendingCall)
    × (queued calls number.0 ≡ Some c)
    × (c.number ≡ number)
    × (filter (λ d. nat_eq d.target.0 target.0) calls ≡ c ∷ filter (λ d. nat_eq d.target.0 target.0) (filter (λ d. not (nat_eq d.number.0 number.0)) calls)))
    → MatchOption o (filter (is_for target.0) (map (asked_call waiters) calls) ≡ [])
    (λ number.
    (call : TransactionCall)
    × (call_numbered (map (asked_call waiters) calls) number.0 ≡ Some call)
    × (filter (is_for target.0) (map (asked_call waiters) calls)
    ≡ call ∷ filter (is_for target.0) (filter (λ other. not (nat_eq other.number.0 number.0)) (map (asked_call waiters) calls))))
asked-first waiters target calls None none first = none-for waiters target.0 calls none
asked-first waiters target calls (Some number) none first =
    let A = asked_call waiters in
    let other : TransactionCall → Bool = λ call. not (nat_eq call.number.0 number.0) in (
      A first.0,
      asked-numbered waiters calls number.0 ∙ ap (option_map A) first.1,
      filter-map A (is_for target.0) calls
          ∙ ap (map A) first.3
          ∙ ap (λ xs. A first.0 ∷ xs)
          (sym
          (ap (filter (is_for target.0)) (filter-map A other calls)
          ∙ filter-map A (is_for target.0) (filter (λ d. not (nat_eq d.number.0 number.0)) calls))),
    )

-- the calls of others
pub asked-others :
    (waiters : ℕ → Option Waiting) (target : Pid) (calls : List PendingCall) (o : Option CallId)
    → IfSome o (λ number. filter (λ d. not (nat_eq d.target.0 target.0)) (filter (λ d. not (nat_eq d.number.0 number.0)) calls) ≡ filter (λ d. not (nat_eq d.target.0 target.0)) calls)
    → IfSome o
    (λ number.
    filter (λ call. not (is_for target.0 call)) (filter (λ other. not (nat_eq other.number.0 number.0)) (map (asked_call waiters) calls))
    ≡ filter (λ call. not (is_for target.0 call)) (map (asked_call waiters) calls))
asked-others waiters target calls None h = h
asked-others waiters target calls (Some number) h =
    let A = asked_call waiters in
    let rest : TransactionCall → Bool = λ call. not (is_for target.0 call) in
    let other : TransactionCall → Bool = λ call. not (nat_eq call.number.0 number.0) in
    ap (filter rest) (filter-map A other calls)
    ∙ filter-map A rest (filter (λ d. not (nat_eq d.number.0 number.0)) calls)
    ∙ ap (map A) h
    ∙ sym (filter-map A rest calls)

-- a call that is found has the number
pub queued-number : (calls : List PendingCall) (n : ℕ) (call : PendingCall) → queued calls n ≡ Some call → call.number.0 ≡ n
queued-number [] n call h = cc
queued-number (other ∷ calls) n call h = step (nat_eq other.number.0 n) refl h (queued-number calls n call)
  where
    step :
        (b : Bool)
        → nat_eq other.number.0 n ≡ b
        → cond b (Some other) (queued calls n) ≡ Some call
        → (queued calls n ≡ Some call → call.number.0 ≡ n)
        → call.number.0 ≡ n
    step true e h more = let same : other ≡ call = cc in ap (λ (c : PendingCall). c.number.0) (sym same) ∙ eqb-true other.number.0 n e
    step false e h more = more h

-- numbers below
pub asked-below : (waiters : ℕ → Option Waiting) (n : ℕ) (calls : List PendingCall) → All (λ (c : TransactionCall). c.number.0 < n) (map (asked_call waiters) calls) → All (λ (c : PendingCall). c.number.0 < n) calls
asked-below waiters n [] h = All-nil (λ (c : PendingCall). c.number.0 < n)
asked-below waiters n (call ∷ calls) h =
    All-cons (λ (c : PendingCall). c.number.0 < n) call calls
    (All-head (λ (c : TransactionCall). c.number.0 < n) (asked_call waiters call) (map (asked_call waiters) calls) h)
    (asked-below waiters n calls (All-tail (λ (c : TransactionCall). c.number.0 < n) (asked_call waiters call) (map (asked_call waiters) calls) h))
