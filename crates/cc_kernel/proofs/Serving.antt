-- Calls by number.
use Rattle.std.proofs.Common.{rules, ◌≡◌, ℕ, suc, ◌+◌, ◌<◌, ◌≤◌, Bool, true, false, ◌||◌, cond, not, List, [], ◌∷◌, ◌++◌, length, get_or, refl, sym, ap, ◌∙◌, arith, nat_eq, Some, None}
use Rattle.std.specs.Prelude.{All}
use Rattle.std.specs.List.{filter, list_any}
use Rattle.std.proofs.lemmas.Bool.{eqb-true}
use Rattle.std.proofs.lemmas.List.Elements.{All-cons, All-nil}
use Rattle.cc_kernel.specs.Store.{Rising}
use Rattle.cc_kernel.specs.Seats.{no_call}
use Rattle.cc_rules.specs.Choice.{call_numbered}
use Rattle.cc_rules.specs.declared.process.TransactionCall.{TransactionCall}

same-number : (n : ℕ) → nat_eq n n ≡ true
same-number n = search rules

not-same : (a b : ℕ) → a < b → nat_eq a b ≡ false
not-same a b lt = false-from (nat_eq a b) (λ e. let same = eqb-true a b e in omega (arith, same))
  where
    false-from : (b : Bool) → (b ≡ true → ⊥) → b ≡ false
    false-from true h = absurd (h refl)
    false-from false h = refl

not-same-back : (a b : ℕ) → b < a → nat_eq a b ≡ false
not-same-back a b lt = false-from (nat_eq a b) (λ e. let same = eqb-true a b e in omega (arith, same))
  where
    false-from : (b : Bool) → (b ≡ true → ⊥) → b ≡ false
    false-from true h = absurd (h refl)
    false-from false h = refl

Rising-lower : (low low' : ℕ) (calls : List TransactionCall) (high : ℕ) → low ≤ low' → Rising low' calls high → Rising low calls high
Rising-lower low low' [] high le h = omega arith
Rising-lower low low' (call ∷ calls) high le h = (let k : low' ≤ call.number.0 = h.0 in omega arith, h.1)

pub Rising-push :
    (low : ℕ) (calls : List TransactionCall) (high : ℕ) (call : TransactionCall)
    → call.number.0 ≡ high
    → Rising low calls high
    → Rising low (calls ++ call ∷ []) (high + 1)
Rising-push low [] high call e h = (omega (arith, e, h), omega (arith, e))
Rising-push low (other ∷ calls) high call e h = (h.0, Rising-push (other.number.0 + 1) calls high call e h.1)

filter-if :
    (low : ℕ) (call : TransactionCall) (calls : List TransactionCall) (high : ℕ) (b : Bool)
    → low ≤ call.number.0
    → Rising (call.number.0 + 1) calls high
    → Rising low (cond b (call ∷ calls) calls) high
filter-if low call calls high true le h = (le, h)
filter-if low call calls high false le h = Rising-lower low (call.number.0 + 1) calls high (omega arith) h

pub Rising-filter :
    (p : TransactionCall → Bool) (low : ℕ) (calls : List TransactionCall) (high : ℕ)
    → Rising low calls high
    → Rising low (filter p calls) high
Rising-filter p low [] high h = h
Rising-filter p low (call ∷ calls) high h =
    filter-if low call (filter p calls) high (p call) h.0 (Rising-filter p (call.number.0 + 1) calls high h.1)

pub Rising-length : (low : ℕ) (calls : List TransactionCall) (high : ℕ) → Rising low calls high → low + length calls ≤ high
Rising-length low [] high h = omega (arith, h)
Rising-length low (call ∷ calls) high h =
    let r = Rising-length (call.number.0 + 1) calls high h.1 in let k : low ≤ call.number.0 = h.0 in omega arith

-- a call that is found has the number, and stands somewhere
pub found-at :
    (calls : List TransactionCall) (n : ℕ) (call : TransactionCall)
    → call_numbered calls n ≡ Some call
    → (call.number.0 ≡ n) × ((j : ℕ) × (j < length calls) × (get_or calls j no_call ≡ call))
found-at [] n call h = cc
found-at (other ∷ calls) n call h = step (nat_eq other.number.0 n) refl h (λ rest. found-at calls n call rest)
  where
    step :
        (b : Bool)
        → nat_eq other.number.0 n ≡ b
        → cond b (Some other) (call_numbered calls n) ≡ Some call
        → (call_numbered calls n ≡ Some call → (call.number.0 ≡ n) × ((j : ℕ) × (j < length calls) × (get_or calls j no_call ≡ call)))
        → (call.number.0 ≡ n) × ((j : ℕ) × (j < length (other ∷ calls)) × (get_or (other ∷ calls) j no_call ≡ call))
    step true e h more =
        let same : other ≡ call = cc in
        (ap (λ (c : TransactionCall). c.number.0) (sym same) ∙ eqb-true other.number.0 n e, (0, omega arith, same))
    step false e h more =
        let r = more h in
        let lt : r.1.0 < length calls = r.1.1 in
        (r.0, (suc r.1.0, omega (arith, lt), r.1.2))

Rising-le : (low : ℕ) (calls : List TransactionCall) (high : ℕ) → Rising low calls high → low ≤ high
Rising-le low [] high h = h
Rising-le low (call ∷ calls) high h = let r = Rising-le (call.number.0 + 1) calls high h.1 in let k : low ≤ call.number.0 = h.0 in omega arith

-- each call has a number below
pub Rising-below : (low : ℕ) (calls : List TransactionCall) (high : ℕ) → Rising low calls high → All (λ call. call.number.0 < high) calls
Rising-below low [] high h = All-nil (λ call. call.number.0 < high)
Rising-below low (call ∷ calls) high h =
    let r = Rising-le (call.number.0 + 1) calls high h.1 in
    All-cons (λ c. c.number.0 < high) call calls (omega (arith, r)) (Rising-below (call.number.0 + 1) calls high h.1)

-- the next number is that of no call
pub unasked : (low : ℕ) (calls : List TransactionCall) (high : ℕ) → Rising low calls high → call_numbered calls high ≡ None
unasked low [] high h = refl
unasked low (call ∷ calls) high h =
    let le = Rising-le (call.number.0 + 1) calls high h.1 in
    rw (not-same call.number.0 high (omega (arith, le))) (unasked (call.number.0 + 1) calls high h.1)

-- what holds of each call that is found by its number
pub found-own : (call : TransactionCall) (calls : List TransactionCall) → call_numbered (call ∷ calls) call.number.0 ≡ Some call
found-own call calls = rw (same-number call.number.0) refl

pub found-behind : (call : TransactionCall) (calls : List TransactionCall) (n : ℕ) → call.number.0 < n → call_numbered (call ∷ calls) n ≡ call_numbered calls n
found-behind call calls n lt = rw (not-same call.number.0 n lt) refl

-- a test that fails of each call that is found by its number fails of all
pub none-found :
    (test : TransactionCall → Bool) (low : ℕ) (calls : List TransactionCall) (high : ℕ)
    → Rising low calls high
    → ((n : ℕ) (call : TransactionCall) → low ≤ n → call_numbered calls n ≡ Some call → test call ≡ false)
    → list_any test calls ≡ false
none-found test low [] high rising h = refl
none-found test low (call ∷ calls) high rising h =
    let from : low ≤ call.number.0 = rising.0 in
    both (test call) (list_any test calls) (h call.number.0 call from (found-own call calls))
    (none-found test (call.number.0 + 1) calls high rising.1
    (λ n other le found. h n other (omega (arith, from, le)) (found-behind call calls n (omega (arith, le)) ∙ found)))
  where
    both : (a b : Bool) → a ≡ false → b ≡ false → (a || b) ≡ false
    both true b e f = cc
    both false b e f = f

-- a filter makes no list longer
pub length-filtered : {A : Type 0} (p : A → Bool) (xs : List A) → length (filter p xs) ≤ length xs
length-filtered p [] = omega arith
length-filtered p (x ∷ xs) = step (p x) (length-filtered p xs)
  where
    step : (b : Bool) → length (filter p xs) ≤ length xs → length (cond b (x ∷ filter p xs) (filter p xs)) ≤ length (x ∷ xs)
    step true h = omega (arith, h)
    step false h = omega (arith, h)

-- where none passes, none is dropped that does
pub none-dropped : {A : Type 0} (p : A → Bool) (xs : List A) → filter p xs ≡ [] → filter (λ x. not (p x)) xs ≡ xs
none-dropped p [] h = refl
none-dropped p (x ∷ xs) h = step (p x) h (none-dropped p xs)
  where
    step : (b : Bool) → cond b (x ∷ filter p xs) (filter p xs) ≡ [] → (filter p xs ≡ [] → filter (λ y. not (p y)) xs ≡ xs) → cond (not b) (x ∷ filter (λ y. not (p y)) xs) (filter (λ y. not (p y)) xs) ≡ x ∷ xs
    step true h rest = cc
    step false h rest = ap (λ ys. x ∷ ys) (rest h)
