-- An alternative is found by its number.
use Rattle.std.proofs.Common.{rules, ◌≡◌, ℕ, zero, suc, ◌<◌, Bool, true, false, List, [], ◌∷◌, length, get_or, refl, arith, nat_eq, Some}
use Rattle.std.specs.Prelude.{slice_get}
use Rattle.std.proofs.lemmas.Bool.{eqb-true}
use Rattle.cc_base.specs.Alternatives.{NumbersRise, numbered}
use Rattle.cc_base.specs.declared.alternatives.Alt.{Alt}

same-number : (n : ℕ) → nat_eq n n ≡ true
same-number n = search rules

false-from : (b : Bool) → (b ≡ true → ⊥) → b ≡ false
false-from true h = absurd (h refl)
false-from false h = refl

rise-head : (b : ℕ × Alt) (alts : List (ℕ × Alt)) (j : ℕ) (a : ℕ × Alt) → NumbersRise (b ∷ alts) → slice_get alts j ≡ Some a → b.0 < a.0
rise-head b alts j a rise e =
    let r = got alts j a e in
    rw r.1 at (rise 0 (suc j) a (omega arith) (let lt : j < length alts = r.0 in omega arith))
  where
    got : (xs : List (ℕ × Alt)) (i : ℕ) (x : ℕ × Alt) → slice_get xs i ≡ Some x → (i < length xs) × (get_or xs i x ≡ x)
    got [] i x h = cc
    got (y ∷ xs) zero x h = (omega arith, cc)
    got (y ∷ xs) (suc i) x h = let r = got xs i x h in (let lt : i < length xs = r.0 in omega arith, r.1)

-- an alternative is found by its number
pub numbered-is : (alts : List (ℕ × Alt)) (j : ℕ) (a : ℕ × Alt) → NumbersRise alts → slice_get alts j ≡ Some a → numbered alts a.0 ≡ Some a.1
numbered-is [] j a rise e = cc
numbered-is (b ∷ alts) zero a rise e = here b a (cc)
  where
    here : (x y : ℕ × Alt) → x ≡ y → numbered (x ∷ alts) y.0 ≡ Some y.1
    here x y same = rw same (rw same-number refl)
numbered-is (b ∷ alts) (suc j) a rise e =
    let lt : b.0 < a.0 = rise-head b alts j a rise e in
    rw (false-from (nat_eq b.0 a.0) (λ k. let same = eqb-true b.0 a.0 k in omega (arith, same)))
    (numbered-is alts j a (λ i k d below within. rise (suc i) (suc k) d (omega arith) (omega arith)) e)
