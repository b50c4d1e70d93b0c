-- A pending call is taken out of the list.
use Rattle.std.proofs.Common.{◌≡◌, ℕ, suc, ◌+◌, ◌≤◌, ◌⊎◌, inl, inr, Bool, true, false, not, List, [], ◌∷◌, refl, sym, ap, ◌∙◌, arith, rules, cond, Option, Some}
use Rattle.std.specs.Prelude.{filter, find, nat_eq, sum_by}
use Rattle.std.specs.List.{Contains}
use Rattle.std.proofs.lemmas.Bool.Decides.{Decides-eqb}
use Rattle.std.proofs.lemmas.List.Sums.{get_or-le-sum_by, sum_by-cons}
use Rattle.cc_base.specs.Meaning.{Meaning}
use Rattle.cc_rules.proofs.Filtered.{Contains-filter, filter-cases, filter-contains, filter-passes, sum_by-split}
use Rattle.cc_rules.proofs.Held.{Held, is-counted, one-counted, Contains-cons, Contains-nil}
use Rattle.cc_rules.specs.Events.{without_call}
use Rattle.cc_rules.specs.Sound.{Stands, count_numbered}
use Rattle.cc_rules.specs.State.{Process}
use Rattle.cc_rules.specs.declared.process.TransactionCall.{TransactionCall}

pub tail-contained : {X : Type 0} (y : X) (ys : List X) (x : X) → Contains ys x → Contains (y ∷ ys) x
tail-contained y ys x (k, lt, e) = (suc k, omega arith, e)

found-if : {X : Type 0} (y x : X) (ys : List X) (o : Option X) (b : Bool) → (o ≡ Some x → Contains ys x) → cond b (Some y) o ≡ Some x → Contains (y ∷ ys) x
found-if y x ys o true rest e = (0, omega arith, cc)
found-if y x ys o false rest e = tail-contained y ys x (rest e)

-- what is found stands in the list
pub find-contained : {X : Type 0} (test : X → Bool) (xs : List X) (x : X) → find test xs ≡ Some x → Contains xs x
find-contained test [] x e = absurd cc
find-contained test (y ∷ ys) x e = found-if y x ys (find test ys) (test y) (find-contained test ys x) e

contained-le : {X : Type 0} (f : X → ℕ) (xs : List X) (x : X) → Contains xs x → f x ≤ sum_by f xs
contained-le f xs x h = let le = get_or-le-sum_by f xs h.0 x h.1 in let same = ap f h.2 in omega (arith, le, same)

-- where a number is counted once, one call has it
pub unique : (n : ℕ) (calls : List TransactionCall) (c d : TransactionCall)
    → count_numbered n calls ≤ 1
    → Contains calls c
    → Contains calls d
    → c.number.0 ≡ n
    → d.number.0 ≡ n
    → c ≡ d
unique n [] c d once h k e e' = absurd (Contains-nil c h)
unique n (y ∷ ys) c d once h k e e' =
    let f : TransactionCall → ℕ = λ call. cond (nat_eq call.number.0 n) 1 0 in
    let split = sum_by-cons f y ys in
    elim (Contains-cons y ys c h) [
      | inl is ↦
          elim (Contains-cons y ys d k) [
            | inl is' ↦ sym is ∙ is'
            | inr there ↦
                (let one = is-counted n ys d there e' in
                let head : 1 ≤ f y = one-counted n y.number.0 (ap (λ (call : TransactionCall). call.number.0) is ∙ e) in
                absurd (omega arith))
          ]
      | inr here ↦
          elim (Contains-cons y ys d k) [
            | inl is' ↦
                (let one = is-counted n ys c here e in
                let head : 1 ≤ f y = one-counted n y.number.0 (ap (λ (call : TransactionCall). call.number.0) is' ∙ e') in
                absurd (omega arith))
            | inr there ↦ unique n ys c d (omega arith) here there e e'
          ]
    ]

module _ (pending : List TransactionCall) (c : TransactionCall) (here : Contains pending c) (once : count_numbered c.number.0 pending ≤ 1) where
  abbrev has-number : TransactionCall → Bool
  has-number = λ other. nat_eq other.number.0 c.number.0

  pub taken-back : (d : TransactionCall) → Contains (without_call pending c) d → Contains pending d
  taken-back d h = Contains-filter (λ other. not (has-number other)) pending d h

  pub taken-forth : (d : TransactionCall) → Contains pending d → (c ≡ d) ⊎ Contains (without_call pending c) d
  taken-forth d h =
      elim (filter-cases has-number pending d (has-number d) refl h) [
        | inl k ↦ inl (unique c.number.0 pending c d once here h refl ((Decides-eqb d.number.0 c.number.0).0 (filter-passes has-number pending d k)))
        | inr k ↦ inr k
      ]

  pub taken-count : (n : ℕ) → cond (nat_eq c.number.0 n) 1 0 + count_numbered n (without_call pending c) ≤ count_numbered n pending
  taken-count n =
      let f : TransactionCall → ℕ = λ call. cond (nat_eq call.number.0 n) 1 0 in
      let split = sum_by-split has-number f pending in
      let one = contained-le f (filter has-number pending) c (filter-contains has-number pending c here (search rules)) in
      omega arith

Stands-like : (ps : List Process) (calls calls' : List TransactionCall) → ((d : TransactionCall) → Contains calls d → Contains calls' d) → (d : TransactionCall) → Stands ps calls d → Stands ps calls' d
Stands-like ps calls calls' same d (inl h) = inl (same d h)
Stands-like ps calls calls' same d (inr h) = inr h

-- the same calls in another order
pub Held-moved :
    (m : Meaning) (ps : List Process) (calls calls' : List TransactionCall) (drawn : ℕ)
    → Held m ps calls drawn
    → ((d : TransactionCall) → Contains calls' d → Contains calls d)
    → ((d : TransactionCall) → Contains calls d → Contains calls' d)
    → ((n : ℕ) → count_numbered n calls' ≤ count_numbered n calls)
    → Held m ps calls' drawn
Held-moved m ps calls calls' drawn h back forth count =
    record {
      each_process = h.each_process;
      once = λ n. (let one = h.once n in let less = count n in omega arith);
      each_call = λ d there. h.each_call d (Stands-like ps calls' calls back d there);
      awaited = λ p n st.
          let w = h.awaited p n st in
          record { call = w.call; there = Stands-like ps calls calls' forth w.call w.there; same_number = w.same_number; asked = w.asked };
    }
