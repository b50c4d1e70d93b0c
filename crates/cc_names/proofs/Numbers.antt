-- Numbers tell names apart.
use Rattle.std.proofs.Common.{◌≡◌, ℕ, suc, Bool, true, false, ◌&&◌, ◌||◌, if◌then◌else◌, nat_eq, List, [], ◌∷◌, ◌++◌, refl, ap, sym, ◌∙◌, arith}
use Rattle.std.proofs.lemmas.Bool.Decides.{nat_tests}
use Rattle.cc_names.specs.Laws.{MainIsFirst, NumbersTellNames}
use Rattle.cc_names.specs.Names.{is_mentioned, is_same, main_bytes, number_in, once}

heads-same : (x y : ℕ) (b : Bool) → (nat_eq x y && b) ≡ true → x ≡ y
heads-same x y true e = grind (arith, nat_tests)
heads-same x y false e = grind (arith, nat_tests)

tails-same : (a b : Bool) → (a && b) ≡ true → b ≡ true
tails-same true b e = e
tails-same false b e = absurd (cc)

pair-same : (x y : ℕ) (xs ys : List ℕ) → x ≡ y → xs ≡ ys → (x ∷ xs) ≡ (y ∷ ys)
pair-same x y xs ys e i = ap (λ (n : ℕ). n ∷ xs) e ∙ ap (λ (ns : List ℕ). y ∷ ns) i

same-is : (x y : List ℕ) → is_same x y ≡ true → x ≡ y
same-is [] [] e = refl
same-is [] (y ∷ ys) e = absurd (cc)
same-is (x ∷ xs) [] e = absurd (cc)
same-is (x ∷ xs) (y ∷ ys) e =
    pair-same x y xs ys (heads-same x y (is_same xs ys) e) (same-is xs ys (tails-same (nat_eq x y) (is_same xs ys) e))

no-zero : (n : ℕ) → suc n ≡ 0 → ⊥
no-zero n e = grind (arith)

suc-one : (m n : ℕ) → suc m ≡ suc n → m ≡ n
suc-one m n e = grind (arith)

one-cases : (z x y : List ℕ) (a b : Bool) (m n : ℕ) (p q : Bool) → is_same z x ≡ a → is_same z y ≡ b → (a || p) ≡ true → (b || q) ≡ true
    → (p ≡ true → q ≡ true → m ≡ n → x ≡ y) → (if a then 0 else suc m) ≡ (if b then 0 else suc n) → x ≡ y
one-cases z x y true true m n p q i j u v go e = sym (same-is z x i) ∙ same-is z y j
one-cases z x y true false m n p q i j u v go e = absurd (no-zero n (sym e))
one-cases z x y false true m n p q i j u v go e = absurd (no-zero m e)
one-cases z x y false false m n p q i j u v go e = go u v (suc-one m n e)

one-name : (zs : List (List ℕ)) (x y : List ℕ) → is_mentioned zs x ≡ true → is_mentioned zs y ≡ true → number_in zs x ≡ number_in zs y → x ≡ y
one-name [] x y u v e = absurd (cc)
one-name (z ∷ zs) x y u v e =
    one-cases z x y (is_same z x) (is_same z y) (number_in zs x) (number_in zs y) (is_mentioned zs x) (is_mentioned zs y) refl refl u v
    (one-name zs x y) e

pub numbers-tell : NumbersTellNames
numbers-tell zs x y u v = (one-name zs x y u v, λ e. ap (number_in zs) e)

stays-cases : (more : List (List ℕ)) (x : List ℕ) (b : Bool) → (rest : List (List ℕ)) × ((if b then main_bytes ∷ more else (main_bytes ∷ more) ++ x ∷ []) ≡ main_bytes ∷ rest)
stays-cases more x true = (more, refl)
stays-cases more x false = (more ++ x ∷ [], refl)

first-stays : (more ms : List (List ℕ)) → (rest : List (List ℕ)) × (once (main_bytes ∷ more) ms ≡ main_bytes ∷ rest)
first-stays more [] = (more, refl)
first-stays more (m ∷ ms) =
    let next = stays-cases more m (is_mentioned (main_bytes ∷ more) m) in
    let all = first-stays next.0 ms in
    (all.0, ap (λ (seen : List (List ℕ)). once seen ms) next.1 ∙ all.1)

pub main-first : MainIsFirst
main-first ms =
    let all = first-stays [] ms in
    ap (λ (seen : List (List ℕ)). number_in seen main_bytes) all.1
