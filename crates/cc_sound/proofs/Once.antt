-- Each site stands in one accept of the bodies, in whatever order the bodies are written.
use Rattle.std.proofs.Common.{◌≡◌, ℕ, zero, suc, ◌+◌, ◌≤◌, ◌<◌, Bool, true, false, List, [], ◌∷◌, ◌++◌, refl, ap, sym, ◌∙◌, arith}
use Rattle.std.proofs.lemmas.Bool.{and_from, eq-eqb, eqb-true}
use Rattle.std.specs.Prelude.{if◌then◌else◌, nat_eq}
use Rattle.cc_typed.specs.Accepts.{are_once_from, sites_of_body, sites_of_kinds, times}
use Rattle.cc_typed.specs.declared.tree.Kind.{Kind}
use Rattle.cc_faults.specs.Programs.{Piece, NoPiece, OneFunction, OneKind, Transactions, kind_among, kinds_among}
use Rattle.cc_sound.specs.Typing.{counted}

-- ---- numbers in a row

times-on : (i : ℕ) (xs ys : List ℕ) → times i (xs ++ ys) ≡ times i xs + times i ys
times-on i [] ys = omega arith
times-on i (x ∷ xs) ys = let e = times-on i xs ys in omega (arith, e)

counted-before : (i n k : ℕ) → i < n → times i (counted n k) ≡ 0
counted-before i n zero lt = refl
counted-before i n (suc k) lt = cases (nat_eq i n) refl (counted-before i (suc n) k (omega (arith, lt)))
  where
    cases : (b : Bool) → nat_eq i n ≡ b → times i (counted (suc n) k) ≡ 0 → (if b then 1 else 0) + times i (counted (suc n) k) ≡ 0
    cases true e f = let same = eqb-true i n e in absurd (omega (arith, same, lt))
    cases false e f = omega (arith, f)

counted-there : (i n k : ℕ) → n ≤ i → i < n + k → times i (counted n k) ≡ 1
counted-there i n zero le lt = absurd (omega (arith, le, lt))
counted-there i n (suc k) le lt = cases (nat_eq i n) refl (λ more. counted-there i (suc n) k more (omega (arith, lt)))
  where
    cases : (b : Bool) → nat_eq i n ≡ b → (suc n ≤ i → times i (counted (suc n) k) ≡ 1) → (if b then 1 else 0) + times i (counted (suc n) k) ≡ 1
    cases true e go =
        let same = eqb-true i n e in
        let none = counted-before i (suc n) k (omega (arith, same)) in omega (arith, none)
    cases false e go = let one = go (above (λ same. true-false (sym (eq-eqb i n same) ∙ e))) in omega (arith, one)
      where
        true-false : true ≡ false → ⊥
        true-false f = cc

        above : ((i ≡ n) → ⊥) → suc n ≤ i
        above no_same = omega (arith, le, no_same)

once-from : (k n : ℕ) (xs : List ℕ) → ((i : ℕ) → k ≤ i → i < k + n → times i xs ≡ 1) → are_once_from k n xs ≡ true
once-from k zero xs go = refl
once-from k (suc n) xs go =
    and_from _ _ (eq-eqb (times k xs) 1 (go k (omega arith) (omega arith))) (once-from (suc k) n xs (λ i le lt. go i (omega (arith, le)) (omega (arith, lt))))

-- ---- the kinds of pieces

abbrev pub sites_of_pieces : List Piece → List ℕ
sites_of_pieces [] = []
sites_of_pieces (OneKind k c ∷ ys) = sites_of_body c.body ++ sites_of_pieces ys
sites_of_pieces (NoPiece ∷ ys) = sites_of_pieces ys
sites_of_pieces (OneFunction f ∷ ys) = sites_of_pieces ys
sites_of_pieces (Transactions ds ∷ ys) = sites_of_pieces ys

-- each kind is one of so many, and none behind it has its number and an accept
abbrev pub AreApart : ℕ → List Piece → Type 0
AreApart n [] = Unit {0}
AreApart n (OneKind k c ∷ ys) = (k < n) × (sites_of_body (kind_among k ys).body ≡ []) × AreApart n ys
AreApart n (NoPiece ∷ ys) = AreApart n ys
AreApart n (OneFunction f ∷ ys) = AreApart n ys
AreApart n (Transactions ds ∷ ys) = AreApart n ys

-- how often a number stands among the sites of these kinds
abbrev total : ℕ → ℕ → ℕ → List Piece → ℕ
total i k n ys = times i (sites_of_kinds (kinds_among k n ys))

total-first : (i k n : ℕ) (ys : List Piece) → total i k (suc n) ys ≡ times i (sites_of_body (kind_among k ys).body) + total i (suc k) n ys
total-first i k n ys = times-on i (sites_of_body (kind_among k ys).body) (sites_of_kinds (kinds_among (suc k) n ys))

total-none : (i k n : ℕ) → total i k n [] ≡ 0
total-none i k zero = refl
total-none i k (suc n) = total-none i (suc k) n

kinds-same : (n k : ℕ) (ys zs : List Piece) → ((j : ℕ) → kind_among j ys ≡ kind_among j zs) → kinds_among k n ys ≡ kinds_among k n zs
kinds-same zero k ys zs go = refl
kinds-same (suc n) k ys zs go =
    ap (λ c. c ∷ kinds_among (suc k) n ys) (go k) ∙ ap (λ l. kind_among k zs ∷ l) (kinds-same n (suc k) ys zs go)

total-before : (i n k j : ℕ) (c : Kind) (ys : List Piece) → j < k → total i k n (OneKind j c ∷ ys) ≡ total i k n ys
total-before i zero k j c ys lt = refl
total-before i (suc n) k j c ys lt =
    let a = total-first i k n (OneKind j c ∷ ys) in
    let b = total-first i k n ys in
    let d = total-before i n (suc k) j c ys (omega (arith, lt)) in
    let e = other (nat_eq j k) refl in omega (arith, a, b, d, e)
  where
    other : (b : Bool) → nat_eq j k ≡ b → times i (sites_of_body (if b then c else kind_among k ys).body) ≡ times i (sites_of_body (kind_among k ys).body)
    other true e = let same = eqb-true j k e in absurd (omega (arith, same, lt))
    other false e = refl

total-one : (i n k j : ℕ) (c : Kind) (ys : List Piece) → k ≤ j → j < k + n → sites_of_body (kind_among j ys).body ≡ [] → total i k n (OneKind j c ∷ ys) ≡ times i (sites_of_body c.body) + total i k n ys
total-one i zero k j c ys le lt none = absurd (omega (arith, le, lt))
total-one i (suc n) k j c ys le lt none =
    cases (nat_eq j k) refl (total-first i k n (OneKind j c ∷ ys)) (λ more. total-one i n (suc k) j c ys more (omega (arith, lt)) none)
  where
    cases : (b : Bool) → nat_eq j k ≡ b → total i k (suc n) (OneKind j c ∷ ys) ≡ times i (sites_of_body (if b then c else kind_among k ys).body) + total i (suc k) n (OneKind j c ∷ ys)
        → (suc k ≤ j → total i (suc k) n (OneKind j c ∷ ys) ≡ times i (sites_of_body c.body) + total i (suc k) n ys) → total i k (suc n) (OneKind j c ∷ ys) ≡ times i (sites_of_body c.body) + total i k (suc n) ys
    cases true e first go =
        let same = eqb-true j k e in
        let rest = total-before i n (suc k) j c ys (omega (arith, same)) in
        let all = total-first i k n ys in
        let empty = ap (λ m. times i (sites_of_body (kind_among m ys).body)) (sym same) ∙ ap (times i) none in omega (arith, first, rest, all, empty)
    cases false e first go =
        let rest = go (above (λ same. true-false (sym (eq-eqb j k same) ∙ e))) in
        let all = total-first i k n ys in omega (arith, first, rest, all)
      where
        true-false : true ≡ false → ⊥
        true-false f = cc

        above : ((j ≡ k) → ⊥) → suc k ≤ j
        above no_same = omega (arith, le, no_same)

total-all : (i n : ℕ) (ys : List Piece) → AreApart n ys → total i 0 n ys ≡ times i (sites_of_pieces ys)
total-all i n [] h = total-none i 0 n
total-all i n (NoPiece ∷ ys) h =
    ap (λ l. times i (sites_of_kinds l)) (kinds-same n 0 (NoPiece ∷ ys) ys (λ j. refl)) ∙ total-all i n ys h
total-all i n (OneFunction f ∷ ys) h =
    ap (λ l. times i (sites_of_kinds l)) (kinds-same n 0 (OneFunction f ∷ ys) ys (λ j. refl)) ∙ total-all i n ys h
total-all i n (Transactions ds ∷ ys) h =
    ap (λ l. times i (sites_of_kinds l)) (kinds-same n 0 (Transactions ds ∷ ys) ys (λ j. refl)) ∙ total-all i n ys h
total-all i n (OneKind k c ∷ ys) h =
    let lt = h.0 in
    let a = total-one i n 0 k c ys (omega arith) (omega (arith, lt)) h.1 in
    let b = total-all i n ys h.2 in
    let d = times-on i (sites_of_body c.body) (sites_of_pieces ys) in omega (arith, a, b, d)

pub each-once : (n m : ℕ) (ys : List Piece) → AreApart n ys → sites_of_pieces ys ≡ counted 0 m → are_once_from 0 m (sites_of_kinds (kinds_among 0 n ys)) ≡ true
each-once n m ys apart numbered =
    once-from 0 m (sites_of_kinds (kinds_among 0 n ys)) (λ i le lt. total-all i n ys apart ∙ ap (times i) numbered ∙ counted-there i 0 m le lt)
