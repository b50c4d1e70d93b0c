-- What the set of byte strings says of them, in the words of the numbers of names.
use Rattle.std.proofs.Common.{◌≡◌, ℕ, zero, suc, ◌+◌, ◌<◌, ◌≤◌, Bool, true, false, cond, not, ◌||◌, ◌&&◌, List, [], ◌∷◌, ◌++◌, Option, None, Some, length, map, position, refl, sym, ap, ◌∙◌, arith, true≢false}
use Rattle.std.proofs.lemmas.Bool.{eq-eqb, eqb-true, ltb-false}
use Rattle.std.proofs.lemmas.List.{map-append}
use Rattle.std.proofs.lemmas.List.Recursion.{is_position_or_len}
use Rattle.std.proofs.lemmas.List.Sums.{prefix_len-le-length}
use Rattle.std.proofs.lemmas.Option.{none-some}
use Rattle.std.specs.Cmp.Lexicographic.{pointwise}
use Rattle.std.specs.List.{list_any, position_or_len}
use Rattle.std.specs.Prelude.{if◌then◌else◌, nat_eq, nat_lt}
use Rattle.cc_names.specs.Names.{is_mentioned, is_same, number_in, with_mention}

either-way : (a b : ℕ) → nat_eq a b ≡ nat_eq b a
either-way a b = by (nat_eq a b) (nat_eq b a) refl refl
  where
    by : (s t : Bool) → nat_eq a b ≡ s → nat_eq b a ≡ t → s ≡ t
    by true true p q = refl
    by false false p q = refl
    by true false p q = absurd (true≢false (sym (eq-eqb b a (sym (eqb-true a b p))) ∙ q))
    by false true p q = absurd (true≢false (sym (eq-eqb a b (sym (eqb-true b a q))) ∙ p))

same-way : (xs ys : List ℕ) → pointwise nat_eq xs ys ≡ is_same ys xs
same-way [] [] = refl
same-way [] (y ∷ ys) = refl
same-way (x ∷ xs) [] = refl
same-way (x ∷ xs) (y ∷ ys) = λ i. either-way x y i && same-way xs ys i

one-more : (n : ℕ) → suc n ≡ 1 + n
one-more n = omega arith

abbrev or-zero : Option ℕ → ℕ
or-zero None = 0
or-zero (Some n) = n

module _ {X : Type 0} (f : X → List ℕ) (k : List ℕ) where
  mentioned : (ks : List X) → list_any (λ x. pointwise nat_eq k (f x)) ks ≡ is_mentioned (map f ks) k
  mentioned [] = refl
  mentioned (x ∷ ks) = λ i. same-way k (f x) i || mentioned ks i

  first-number : (ks : List X) → number_in (map f ks) k ≡ position_or_len (λ x. pointwise nat_eq k (f x)) ks
  first-number = is_position_or_len (λ ks. number_in (map f ks) k) (λ x. pointwise nat_eq k (f x)) refl step
    where
      by : (b c : Bool) (n : ℕ) → c ≡ b → (if b then 0 else suc n) ≡ cond c 0 (1 + n)
      by true c n e = ap (λ d. cond d 0 (1 + n)) (sym e)
      by false c n e = one-more n ∙ ap (λ d. cond d 0 (1 + n)) (sym e)

      step : (x : X) (ks : List X) → number_in (map f (x ∷ ks)) k ≡ cond (pointwise nat_eq k (f x)) 0 (1 + number_in (map f ks) k)
      step x ks = by (is_same (f x) k) (pointwise nat_eq k (f x)) (number_in (map f ks) k) (same-way k (f x))

module _ {X : Type 0} (f : X → List ℕ) where
  pub inserted : (k : X) (ks : List X) → map f (if list_any (λ x. pointwise nat_eq (f k) (f x)) ks then ks else ks ++ k ∷ []) ≡ with_mention (map f ks) (f k)
  inserted k ks = by (list_any (λ x. pointwise nat_eq (f k) (f x)) ks) ∙ ap (λ b. if b then map f ks else map f ks ++ f k ∷ []) (mentioned f (f k) ks)
    where
      by : (b : Bool) → map f (if b then ks else ks ++ k ∷ []) ≡ (if b then map f ks else map f ks ++ f k ∷ [])
      by true = refl
      by false = map-append f ks (k ∷ [])

  pub number-found : (k : List ℕ) (ks : List X) (i : ℕ) → position (λ x. pointwise nat_eq k (f x)) ks ≡ Some i → i ≡ number_in (map f ks) k
  number-found k ks i e = by (nat_lt n (length ks)) e ∙ sym (first-number f k ks)
    where
      n : ℕ
      n = position_or_len (λ x. pointwise nat_eq k (f x)) ks

      by : (b : Bool) → cond b (Some n) None ≡ Some i → i ≡ n
      by true e = sym (ap or-zero e)
      by false e = absurd (none-some i e)

  pub number-missing : (k : List ℕ) (ks : List X) → position (λ x. pointwise nat_eq k (f x)) ks ≡ None → length ks ≡ number_in (map f ks) k
  number-missing k ks e = by (nat_lt n (length ks)) refl e ∙ sym (first-number f k ks)
    where
      n : ℕ
      n = position_or_len (λ x. pointwise nat_eq k (f x)) ks

      at-most : n ≤ length ks
      at-most = prefix_len-le-length (λ x. not (pointwise nat_eq k (f x))) ks

      by : (b : Bool) → nat_lt n (length ks) ≡ b → cond b (Some n) None ≡ None → length ks ≡ n
      by true p e = absurd (none-some n (sym e))
      by false p e = omega (arith, ltb-false n (length ks) p, at-most)
