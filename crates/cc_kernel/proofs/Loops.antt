-- Loops over a list that is read by index.
use Rattle.std.proofs.Common.{◌≡◌, ℕ, zero, suc, ◌+◌, ◌<◌, ◌≤◌, Bool, true, false, ◌&&◌, ◌||◌, List, [], ◌∷◌, ◌++◌, length, get_or, take, drop, refl, sym, ap, ◌∙◌, arith, add-one, Some, cond, nat_eq}
use Rattle.std.specs.Prelude.{slice_get}
use Rattle.std.specs.List.{list_all, list_any}
use Rattle.std.proofs.lemmas.List.{take_all}
use Rattle.cc_base.specs.Alternatives.{numbered}
use Rattle.cc_base.specs.declared.alternatives.Alt.{Alt}

pub got : {X : Type 0} (xs : List X) (i : ℕ) (x : X) → slice_get xs i ≡ Some x → (i < length xs) × (get_or xs i x ≡ x)
got [] i x h = cc
got (y ∷ xs) zero x h = (omega arith, cc)
got (y ∷ xs) (suc i) x h = let r = got xs i x h in (let lt : i < length xs = r.0 in omega arith, r.1)

-- an element passes, so some element does
pub any-here : {X : Type 0} (p : X → Bool) (xs : List X) (i : ℕ) (x : X) → slice_get xs i ≡ Some x → p x ≡ true → list_any p xs ≡ true
any-here p [] i x h k = cc
any-here p (y ∷ xs) zero x h k = let e : y ≡ x = cc in rw (e, k) refl
any-here p (y ∷ xs) (suc i) x h k = behind (p y) (list_any p xs) (any-here p xs i x h k)
  where
    behind : (a b : Bool) → b ≡ true → (a || b) ≡ true
    behind true b h = refl
    behind false b h = h

any-suc : {X : Type 0} (p : X → Bool) (xs : List X) (i : ℕ) (x : X) → slice_get xs i ≡ Some x → list_any p (take i xs) ≡ false → p x ≡ false → list_any p (take (suc i) xs) ≡ false
any-suc p [] i x h none k = cc
any-suc p (y ∷ xs) zero x h none k = let e : y ≡ x = cc in rw (e, k) refl
any-suc p (y ∷ xs) (suc i) x h none k = both (p y) (list_any p (take i xs)) none (λ rest. any-suc p xs i x h rest k)
  where
    both : (a b : Bool) → (a || b) ≡ false → (b ≡ false → list_any p (take (suc i) xs) ≡ false) → (a || list_any p (take (suc i) xs)) ≡ false
    both true b h f = cc
    both false b h f = f h

pub any-more : {X : Type 0} (p : X → Bool) (xs : List X) (i : ℕ) (x : X) → slice_get xs i ≡ Some x → list_any p (take i xs) ≡ false → p x ≡ false → list_any p (take (i + 1) xs) ≡ false
any-more p xs i x h none k = rw add-one (any-suc p xs i x h none k)

-- an element fails, so not all pass
pub all-here : {X : Type 0} (p : X → Bool) (xs : List X) (i : ℕ) (x : X) → slice_get xs i ≡ Some x → p x ≡ false → list_all p xs ≡ false
all-here p [] i x h k = cc
all-here p (y ∷ xs) zero x h k = let e : y ≡ x = cc in rw (e, k) refl
all-here p (y ∷ xs) (suc i) x h k = behind (p y) (list_all p xs) (all-here p xs i x h k)
  where
    behind : (a b : Bool) → b ≡ false → (a && b) ≡ false
    behind true b h = h
    behind false b h = refl

all-suc : {X : Type 0} (p : X → Bool) (xs : List X) (i : ℕ) (x : X) → slice_get xs i ≡ Some x → list_all p (take i xs) ≡ true → p x ≡ true → list_all p (take (suc i) xs) ≡ true
all-suc p [] i x h all k = cc
all-suc p (y ∷ xs) zero x h all k = let e : y ≡ x = cc in rw (e, k) refl
all-suc p (y ∷ xs) (suc i) x h all k = both (p y) (list_all p (take i xs)) all (λ rest. all-suc p xs i x h rest k)
  where
    both : (a b : Bool) → (a && b) ≡ true → (b ≡ true → list_all p (take (suc i) xs) ≡ true) → (a && list_all p (take (suc i) xs)) ≡ true
    both false b h f = cc
    both true b h f = f h

pub all-more : {X : Type 0} (p : X → Bool) (xs : List X) (i : ℕ) (x : X) → slice_get xs i ≡ Some x → list_all p (take i xs) ≡ true → p x ≡ true → list_all p (take (i + 1) xs) ≡ true
all-more p xs i x h all k = rw add-one (all-suc p xs i x h all k)

take-suc-got : {X : Type 0} (xs : List X) (i : ℕ) (x : X) → slice_get xs i ≡ Some x → take (suc i) xs ≡ take i xs ++ x ∷ []
take-suc-got [] i x h = cc
take-suc-got (y ∷ xs) zero x h = let e : y ≡ x = cc in rw e refl
take-suc-got (y ∷ xs) (suc i) x h = ap (λ ys. y ∷ ys) (take-suc-got xs i x h)

-- one more element
pub take-got : {X : Type 0} (xs : List X) (i : ℕ) (x : X) → slice_get xs i ≡ Some x → take (i + 1) xs ≡ take i xs ++ x ∷ []
take-got xs i x h = rw add-one (take-suc-got xs i x h)

drop-suc-got : {X : Type 0} (xs : List X) (i : ℕ) (x : X) → slice_get xs i ≡ Some x → drop i xs ≡ x ∷ drop (suc i) xs
drop-suc-got [] i x h = cc
drop-suc-got (y ∷ xs) zero x h = let e : y ≡ x = cc in rw e refl
drop-suc-got (y ∷ xs) (suc i) x h = drop-suc-got xs i x h

pub drop-got : {X : Type 0} (xs : List X) (i : ℕ) (x : X) → slice_get xs i ≡ Some x → drop i xs ≡ x ∷ drop (i + 1) xs
drop-got xs i x h = rw add-one (drop-suc-got xs i x h)

if-so : {A : Type 0} (b : Bool) (x y : A) → b ≡ true → cond b x y ≡ x
if-so true x y h = refl
if-so false x y h = cc

if-not : {A : Type 0} (b : Bool) (x y : A) → b ≡ false → cond b x y ≡ y
if-not true x y h = cc
if-not false x y h = refl

-- an alternative is found by its number
pub numbered-here : (alts : List (ℕ × Alt)) (i n : ℕ) (a : ℕ × Alt) → slice_get alts i ≡ Some a → numbered (drop i alts) n ≡ numbered alts n → nat_eq a.0 n ≡ true → numbered alts n ≡ Some a.1
numbered-here alts i n a h same e =
    sym same ∙ ap (λ xs. numbered xs n) (drop-got alts i a h) ∙ if-so (nat_eq a.0 n) (Some a.1) (numbered (drop (i + 1) alts) n) e

pub numbered-more : (alts : List (ℕ × Alt)) (i n : ℕ) (a : ℕ × Alt) → slice_get alts i ≡ Some a → numbered (drop i alts) n ≡ numbered alts n → nat_eq a.0 n ≡ false → numbered (drop (i + 1) alts) n ≡ numbered alts n
numbered-more alts i n a h same e =
    sym (if-not (nat_eq a.0 n) (Some a.1) (numbered (drop (i + 1) alts) n) e) ∙ ap (λ xs. numbered xs n) (sym (drop-got alts i a h)) ∙ same

-- the loop has gone over all
pub any-whole : {X : Type 0} (p : X → Bool) (xs : List X) (i : ℕ) → length xs ≤ i → list_any p (take i xs) ≡ false → list_any p xs ≡ false
any-whole p xs i le none = ap (list_any p) (sym (take_all i xs le)) ∙ none
