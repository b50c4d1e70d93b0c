-- Processes and the calls that are pending at them or served: a process of the state goes on, and a call is answered.
use Rattle.std.proofs.Common.{◌≡◌, ◌≢◌, ℕ, zero, suc, ◌+◌, ◌<◌, ◌≤◌, ◌⊎◌, inl, inr, List, [], ◌∷◌, length, get_or, set, refl, sym, ap, ◌∙◌, subst, arith, cond, Some}
use Rattle.std.specs.Prelude.{All, nat_eq}
use Rattle.std.specs.List.{Contains}
use Rattle.std.proofs.lemmas.Bool.{cases_eq}
use Rattle.std.proofs.lemmas.List.{get_or-set_other, get_or-set_same}
use Rattle.std.proofs.lemmas.List.Elements.{All-set}
use Rattle.std.proofs.lemmas.List.Sums.{sum_by-cons, sum_by-set, get_or-le-sum_by}
use Rattle.cc_base.specs.Meaning.{Meaning}
use Rattle.cc_rules.proofs.Bools.{same-number}
use Rattle.cc_base.specs.declared.names.CallId.{CallId}
use Rattle.cc_base.specs.declared.request.Request.{Request}
use Rattle.cc_rules.specs.Effects.{caller_of}
use Rattle.cc_rules.specs.Sound.{asks, SoundProcess, SoundCall, Stands, count_numbered, count_standing, IsAskedBy, IsAwaited}
use Rattle.cc_rules.specs.State.{Process, nobody, process_at}
use Rattle.cc_rules.specs.declared.process.ProcessStanding.TheVariants.{AtCall}
use Rattle.cc_rules.specs.declared.process.TransactionCall.{TransactionCall}
use Rattle.cc_rules.specs.declared.process.Waiting.{Waiting}
use Rattle.cc_rules.specs.declared.process.Waiting.TheVariants.{Nobody, Caller, Until}

-- what soundness says of processes and calls, where these calls are pending or about to be answered
pub record Held (m : Meaning) (ps : List Process) (calls : List TransactionCall) (drawn : ℕ) : Type 0 where
  pub each_process : All (SoundProcess m) ps
  pub once : (n : ℕ) → count_standing ps calls n ≤ 1
  pub each_call : (call : TransactionCall) → Stands ps calls call → SoundCall m ps drawn call
  pub awaited : (p : ℕ) (number : CallId) → (process_at ps p).standing ≡ AtCall number → IsAwaited m ps calls p number

-- the process isn't at a call
abbrev pub IsFree : Process → Type 0
IsFree x = (n : CallId) → x.standing ≡ AtCall n → ⊥

pub at-same : (ps : List Process) (q : ℕ) (x : Process) → q < length ps → process_at (set ps q x) q ≡ x
at-same ps q x lt = get_or-set_same ps q x nobody lt

pub at-other : (ps : List Process) (q p : ℕ) (x : Process) → p ≢ q → process_at (set ps q x) p ≡ process_at ps p
at-other ps q p x ne = get_or-set_other ps q p x nobody ne

pub at_call-within : (ps : List Process) (p : ℕ) (n : CallId) → (process_at ps p).standing ≡ AtCall n → p < length ps
at_call-within [] p n e = cc
at_call-within (x ∷ ps) zero n e = omega arith
at_call-within (x ∷ ps) (suc p) n e = let h = at_call-within ps p n e in omega arith

pub Contains-nil : (c : TransactionCall) → Contains [] c → ⊥
Contains-nil c h = omega (arith, h.1)

pub Contains-cons : (d : TransactionCall) (calls : List TransactionCall) (c : TransactionCall) → Contains (d ∷ calls) c → (d ≡ c) ⊎ Contains calls c
Contains-cons d calls c (zero, lt, e) = inl e
Contains-cons d calls c (suc k, lt, e) = inr (k, omega arith, e)

pub Contains-head : (c : TransactionCall) (calls : List TransactionCall) → Contains (c ∷ calls) c
Contains-head c calls = (0, omega arith, refl)

pub Contains-tail : (d : TransactionCall) (calls : List TransactionCall) (c : TransactionCall) → Contains calls c → Contains (d ∷ calls) c
Contains-tail d calls c (k, lt, e) = (suc k, omega arith, e)

pub serves-within : (ps : List Process) (p : ℕ) (c : TransactionCall) → Contains (process_at ps p).serving c → p < length ps
serves-within [] p c h = absurd (Contains-nil c h)
serves-within (x ∷ ps) zero c h = omega arith
serves-within (x ∷ ps) (suc p) c h = let k = serves-within ps p c h in omega arith

pub one-counted : (n k : ℕ) → k ≡ n → 1 ≤ cond (nat_eq k n) 1 0
one-counted n k e = subst (λ j. 1 ≤ cond (nat_eq j n) 1 0) (sym e) (rw same-number (omega arith))

-- a call of the list counts
pub is-counted : (n : ℕ) (calls : List TransactionCall) (c : TransactionCall) → Contains calls c → c.number.0 ≡ n → 1 ≤ count_numbered n calls
is-counted n calls c (k, lt, is) e =
    let le = get_or-le-sum_by (λ (call : TransactionCall). cond (nat_eq call.number.0 n) 1 0) calls k c lt in
    let one : 1 ≤ cond (nat_eq (get_or calls k c).number.0 n) 1 0 =
    one-counted n (get_or calls k c).number.0 (ap (λ (call : TransactionCall). call.number.0) is ∙ e) in
    omega arith

pub stands-counted : (n : ℕ) (ps : List Process) (calls : List TransactionCall) (c : TransactionCall) → Stands ps calls c → c.number.0 ≡ n → 1 ≤ count_standing ps calls n
stands-counted n ps calls c (inl h) e = let le = is-counted n calls c h e in omega arith
stands-counted n ps calls c (inr (p, h)) e =
    let one = is-counted n (process_at ps p).serving c h e in
    let le = get_or-le-sum_by (λ (q : Process). count_numbered n q.serving) ps p nobody (serves-within ps p c h) in
    omega arith

-- another call than the first of the list has another number
pub apart :
    (ps : List Process) (c : TransactionCall) (calls : List TransactionCall) (d : TransactionCall)
    → ((n : ℕ) → count_standing ps (c ∷ calls) n ≤ 1)
    → Stands ps calls d
    → d.number.0 ≡ c.number.0
    → ⊥
apart ps c calls d once there e =
    let one = stands-counted c.number.0 ps calls d there e in
    let first : 1 ≤ cond (nat_eq c.number.0 c.number.0) 1 0 = one-counted c.number.0 c.number.0 refl in
    let all = once c.number.0 in
    let split = sum_by-cons (λ (call : TransactionCall). cond (nat_eq call.number.0 c.number.0) 1 0) c calls in
    omega arith

pub Stands-tail : (ps : List Process) (c : TransactionCall) (calls : List TransactionCall) (d : TransactionCall) → Stands ps calls d → Stands ps (c ∷ calls) d
Stands-tail ps c calls d (inl h) = inl (Contains-tail c calls d h)
Stands-tail ps c calls d (inr h) = inr h

pub Stands-cons : (ps : List Process) (c : TransactionCall) (calls : List TransactionCall) (d : TransactionCall) → Stands ps (c ∷ calls) d → (c ≡ d) ⊎ Stands ps calls d
Stands-cons ps c calls d (inl h) =
    elim (Contains-cons c calls d h) [
      | inl e ↦ inl e
      | inr k ↦ inr (inl k)
    ]
Stands-cons ps c calls d (inr h) = inr (inr h)

-- a process that is set to another serves the same calls
pub serving-set :
    (ps : List Process) (q : ℕ) (x : Process)
    → q < length ps
    → x.serving ≡ (process_at ps q).serving
    → (p : ℕ) → (process_at (set ps q x) p).serving ≡ (process_at ps p).serving
serving-set ps q x lt same p =
    elim (cases_eq p q) [
      | inl e ↦
          ap (λ k. (process_at (set ps q x) k).serving) e
          ∙ ap (λ (y : Process). y.serving) (at-same ps q x lt)
          ∙ same
          ∙ ap (λ k. (process_at ps k).serving) (sym e)
      | inr d ↦ ap (λ (y : Process). y.serving) (at-other ps q p x d)
    ]

-- the same calls are served
pub Stands-served :
    (ps qs : List Process) (calls : List TransactionCall)
    → ((p : ℕ) → (process_at qs p).serving ≡ (process_at ps p).serving)
    → (c : TransactionCall) → Stands ps calls c → Stands qs calls c
Stands-served ps qs calls same c (inl h) = inl h
Stands-served ps qs calls same c (inr (p, h)) = inr (p, subst (λ xs. Contains xs c) (sym (same p)) h)

-- who waits for a call is its caller
pub asked-caller : (w : Waiting) (p : ℕ) (c : TransactionCall) (r : Request) → IsAskedBy w p c r → caller_of w ≡ Some (record { 0 = p })
asked-caller Nobody p c r h = absurd h
asked-caller (Caller q) p c r h = ap (λ n. Some (record { 0 = n })) h.0
asked-caller (Until q deadline) p c r h = ap (λ n. Some (record { 0 = n })) h.0

-- a process that may be set to x, with these calls in place of those, and the calls that it serves
pub record Resets (ps : List Process) (q : ℕ) (x : Process) (calls calls' : List TransactionCall) : Type 0 where
  pub within : q < length ps
  pub was_free : IsFree (process_at ps q)
  pub free : IsFree x
  pub back : (c : TransactionCall) → Contains calls' c ⊎ Contains x.serving c → Contains calls c ⊎ Contains (process_at ps q).serving c
  pub forth : (c : TransactionCall) → Contains calls c ⊎ Contains (process_at ps q).serving c → Contains calls' c ⊎ Contains x.serving c
  pub count : (n : ℕ) → count_numbered n calls' + count_numbered n x.serving ≤ count_numbered n calls + count_numbered n (process_at ps q).serving

near-stands : (ps : List Process) (q : ℕ) (calls : List TransactionCall) (c : TransactionCall) → Contains calls c ⊎ Contains (process_at ps q).serving c → Stands ps calls c
near-stands ps q calls c (inl h) = inl h
near-stands ps q calls c (inr h) = inr (q, h)

module _ (ps : List Process) (q : ℕ) (x : Process) (calls calls' : List TransactionCall) (r : Resets ps q x calls calls') where
  Stands-back : (c : TransactionCall) → Stands (set ps q x) calls' c → Stands ps calls c
  Stands-back c (inl h) = near-stands ps q calls c (r.back c (inl h))
  Stands-back c (inr (p, h)) =
      elim (cases_eq p q) [
        | inl e ↦
            near-stands ps q calls c
            (r.back c (inr (subst (λ (y : Process). Contains y.serving c) (ap (process_at (set ps q x)) e ∙ at-same ps q x r.within) h)))
        | inr d ↦ inr (p, subst (λ (y : Process). Contains y.serving c) (at-other ps q p x d) h)
      ]

  near-forth : (c : TransactionCall) → Contains calls' c ⊎ Contains x.serving c → Stands (set ps q x) calls' c
  near-forth c (inl h) = inl h
  near-forth c (inr h) = inr (q, subst (λ (y : Process). Contains y.serving c) (sym (at-same ps q x r.within)) h)

  Stands-forth : (c : TransactionCall) → Stands ps calls c → Stands (set ps q x) calls' c
  Stands-forth c (inl h) = near-forth c (r.forth c (inl h))
  Stands-forth c (inr (p, h)) =
      elim (cases_eq p q) [
        | inl e ↦ near-forth c (r.forth c (inr (subst (λ (y : Process). Contains y.serving c) (ap (process_at ps) e) h)))
        | inr d ↦ inr (p, subst (λ (y : Process). Contains y.serving c) (sym (at-other ps q p x d)) h)
      ]

  count-reset : (n : ℕ) → count_standing (set ps q x) calls' n ≤ count_standing ps calls n
  count-reset n =
      let sums = sum_by-set (λ (y : Process). count_numbered n y.serving) ps q x nobody r.within in
      let near = r.count n in
      omega arith

  module _ (m : Meaning) (drawn : ℕ) where
    SoundCall-reset : (c : TransactionCall) → SoundCall m ps drawn c → SoundCall m (set ps q x) drawn c
    SoundCall-reset c h =
        record {
          number_drawn = h.number_drawn;
          arguments = h.arguments;
          waits = λ p e.
              let st = h.waits p e in
              let ne : p.0 ≢ q = λ k. r.was_free c.number (ap (λ j. (process_at ps j).standing) (sym k) ∙ st) in
              ap (λ (y : Process). y.standing) (at-other ps q p.0 x ne) ∙ st;
        }

    awaited-reset :
        (p : ℕ) (number : CallId)
        → ((process_at ps p).standing ≡ AtCall number → IsAwaited m ps calls p number)
        → (process_at (set ps q x) p).standing ≡ AtCall number
        → IsAwaited m (set ps q x) calls' p number
    awaited-reset p number before st =
        let ne : p ≢ q = λ e. r.free number (ap (λ (y : Process). y.standing) (sym (ap (process_at (set ps q x)) e ∙ at-same ps q x r.within)) ∙ st) in
        let same = at-other ps q p x ne in
        let h = before (ap (λ (y : Process). y.standing) (sym same) ∙ st) in
        record {
          call = h.call;
          there = Stands-forth h.call h.there;
          same_number = h.same_number;
          asked = subst (λ y. IsAskedBy h.call.waiting p h.call (asks m y)) (sym same) h.asked;
        }

    -- a process that is at no call, before or after, stands in another way
    pub Held-set : Held m ps calls drawn → SoundProcess m x → Held m (set ps q x) calls' drawn
    Held-set h own =
        record {
          each_process = All-set (SoundProcess m) ps q x own h.each_process;
          once = λ n. (let before = h.once n in let less = count-reset n in omega arith);
          each_call = λ c there. SoundCall-reset c (h.each_call c (Stands-back c there));
          awaited = λ p number st. awaited-reset p number (h.awaited p number) st;
        }
