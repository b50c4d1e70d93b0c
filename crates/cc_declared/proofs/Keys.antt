-- What a set of names says of them, in the words of the definition.
use Rattle.std.proofs.Common.{◌≡◌, ℕ, ◌+◌, Bool, true, false, cond, not, ◌||◌, List, [], ◌∷◌, ◌++◌, None, Some, length, position, refl, sym, ap, ◌∙◌, arith, true≢false}
use Rattle.std.proofs.lemmas.Bool.{eq-eqb, eqb-true, lt-ltb, ltb-false, ltb-true}
use Rattle.std.specs.List.{list_any, position_or_len}
use Rattle.std.specs.Prelude.{if◌then◌else◌, nat_eq, nat_lt}
use Rattle.cc_faults.specs.Scopes.{is_among, one_behind, position as place_in}
use Rattle.cc_declared.specs.Lists.{and_once}

either-way : (a b : ℕ) → nat_eq a b ≡ nat_eq b a
either-way a b = by (nat_eq a b) (nat_eq b a) refl refl
  where
    by : (s t : Bool) → nat_eq a b ≡ s → nat_eq b a ≡ t → s ≡ t
    by true true p q = refl
    by false false p q = refl
    by true false p q = absurd (true≢false (sym (eq-eqb b a (sym (eqb-true a b p))) ∙ q))
    by false true p q = absurd (true≢false (sym (eq-eqb a b (sym (eqb-true b a q))) ∙ p))

pub twice-not : (b : Bool) → not (not b) ≡ b
twice-not true = refl
twice-not false = refl

module _ (k : ℕ) where
  pub among : (ks : List ℕ) → list_any (nat_eq k) ks ≡ is_among ks k
  among [] = refl
  among (x ∷ xs) = λ i. either-way k x i || among xs i

  pub inserted : (ks : List ℕ) → (if list_any (nat_eq k) ks then ks else ks ++ k ∷ []) ≡ and_once ks k
  unfolding and_once
  inserted ks = ap (λ b. if b then ks else ks ++ k ∷ []) (among ks)

  one-further : (n : ℕ) (x : ℕ) (xs : List ℕ) (b c : Bool) → nat_lt n (length xs) ≡ b → nat_lt (1 + n) (length (x ∷ xs)) ≡ c → cond c (Some (1 + n)) None ≡ one_behind (cond b (Some n) None)
  one-further n x xs true true e f = ap Some (omega arith)
  one-further n x xs false false e f = refl
  one-further n x xs true false e f = absurd (omega (arith, ltb-true n (length xs) e, ltb-false (1 + n) (length (x ∷ xs)) f))
  one-further n x xs false true e f = absurd (omega (arith, ltb-false n (length xs) e, ltb-true (1 + n) (length (x ∷ xs)) f))

  pub placed : (ks : List ℕ) → position (nat_eq k) ks ≡ place_in ks k
  placed [] = refl
  placed (x ∷ xs) = by (nat_eq k x) refl (placed xs)
    where
      n : ℕ
      n = position_or_len (nat_eq k) xs

      by : (b : Bool) → nat_eq k x ≡ b → position (nat_eq k) xs ≡ place_in xs k → position (nat_eq k) (x ∷ xs) ≡ place_in (x ∷ xs) k
      by true e rest =
          ap (λ c. cond (nat_lt (cond (not c) (1 + n) 0) (length (x ∷ xs))) (Some (cond (not c) (1 + n) 0)) None) e
          ∙ ap (λ b. cond b (Some 0) None) (lt-ltb 0 (length (x ∷ xs)) (omega arith))
          ∙ ap (λ c. if c then Some 0 else one_behind (place_in xs k)) (sym (sym (either-way k x) ∙ e))
      by false e rest =
          ap (λ c. cond (nat_lt (cond (not c) (1 + n) 0) (length (x ∷ xs))) (Some (cond (not c) (1 + n) 0)) None) e
          ∙ one-further n x xs (nat_lt n (length xs)) (nat_lt (1 + n) (length (x ∷ xs))) refl refl
          ∙ ap one_behind rest
          ∙ ap (λ c. if c then Some 0 else one_behind (place_in xs k)) (sym (sym (either-way k x) ∙ e))
