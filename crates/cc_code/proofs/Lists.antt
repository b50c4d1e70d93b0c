-- Lists by index.
use Rattle.std.proofs.Common.{◌≡◌, ℕ, ◌+◌, ◌<◌, ◌≤◌, List, [], ◌∷◌, ◌++◌, length, get_or, take, map, Contains, inl, inr, Option, Some, None, refl, sym, ◌∙◌, ap, subst, arith, unwrap_or, slice_get}
use native.Mathlib.Decide.{ℕ_discrete}
use Rattle.std.proofs.lemmas.Option.{unwrap_or-slice_get}
use Rattle.std.proofs.lemmas.Grind.{common_steps}
use Rattle.std.proofs.lemmas.List.Elements.{Contains-append_left, Contains-append_right, Contains-append_cases}
use Rattle.cc_code.proofs.Marked.{itself, nothing, only}
use Rattle.std.proofs.lemmas.List.{take_more}
use Rattle.std.proofs.lemmas.Option.{get_or_from_slice_get, slice_get-get_or, slice_get_read, slice_get_within}

-- what stands where nothing does
pub absent : {X : Type 0} (xs : List X) (i : ℕ) (d : X) → None ≡ slice_get xs i → d ≡ get_or xs i d
absent xs i d e = ap (λ (o : Option _). unwrap_or o d) e ∙ unwrap_or-slice_get xs i d

-- what holds of each item holds of one more that is put at the end
pub pushed : {X : Type 0} (d : X) (P : ℕ → X → Type 0) (xs : List X) (i : ℕ) (x : X) → length xs ≡ i → ((j : ℕ) → j < i → P j (get_or xs j d)) → P i x → (j : ℕ) → j < i + 1 → P j (get_or (xs ++ x ∷ []) j d)
pushed d P xs i x long below here j b = elim (ℕ_discrete j i) [
  | yes e ↦ (let f : get_or (xs ++ x ∷ []) j d ≡ x = grind (arith, common_steps) in
      subst (λ (y : _). P j y) (sym f) (subst (λ (n : ℕ). P n x) (sym e) here))
  | no n ↦ (let b' : j < i = omega arith in
      let f : get_or (xs ++ x ∷ []) j d ≡ get_or xs j d = grind (arith, common_steps) in
      subst (λ (y : _). P j y) (sym f) (below j b'))
]

-- one more item
pub take_next : {X : Type 0} (xs : List X) (i : ℕ) (x : X) → slice_get xs i ≡ Some x → take (i + 1) xs ≡ take i xs ++ x ∷ []
take_next xs i x e = take_more xs i x (slice_get_within xs i x e) ∙ ap (λ (y : _). take i xs ++ y ∷ []) (get_or_from_slice_get xs i x x e)

-- a member of a mapped list
pub in-map : {X Y : Type 0} (f : X → Y) (xs : List X) (x : X) → Contains xs x → Contains (map f xs) (f x)
in-map f [] x c = absurd (nothing x c)
in-map f (y ∷ ys) x c = elim (Contains-append_cases (y ∷ []) ys x c) [
  | inl h ↦ subst (λ (z : _). Contains (map f (y ∷ ys)) (f z)) (only y x h) (Contains-append_left (f y ∷ []) (map f ys) (f y) (itself (f y)))
  | inr h ↦ Contains-append_right (f y ∷ []) (map f ys) (f x) (in-map f ys x h)
]

pub from-map : {X Y : Type 0} (f : X → Y) (xs : List X) (y : Y) → Contains (map f xs) y → (x : X) × Contains xs x × (y ≡ f x)
from-map f [] y c = absurd (nothing y c)
from-map f (x ∷ xs) y c = elim (Contains-append_cases (f x ∷ []) (map f xs) y c) [
  | inl h ↦ (x, Contains-append_left (x ∷ []) xs x (itself x), sym (only (f x) y h))
  | inr h ↦ (let r : (z : _) × Contains xs z × (y ≡ f z) = from-map f xs y h in (r.0, Contains-append_right (x ∷ []) xs r.0 r.1, r.2))
]

-- a member stands at an index, and what does is a member
pub place-of : {X : Type 0} (xs : List X) (x : X) → Contains xs x → (i : ℕ) × (slice_get xs i ≡ Some x)
place-of xs x c = (c.0, slice_get-get_or xs c.0 x c.1 ∙ ap (λ (y : _). Some y) c.2)

pub member : {X : Type 0} (xs : List X) (i : ℕ) (x : X) → slice_get xs i ≡ Some x → Contains xs x
member xs i x e = (i, slice_get_within xs i x e, get_or_from_slice_get xs i x x e)

pub all-taken : {X : Type 0} (xs : List X) (i : ℕ) → length xs ≤ i → take i xs ≡ xs
all-taken xs i b = grind (arith, common_steps)

-- the item of a loop stands in the list over which it goes
pub item : {X : Type 0} (xs ys : List X) (i : ℕ) (x : X) → xs ≡ ys → i < length xs → x ≡ get_or xs i x → slice_get ys i ≡ Some x
item xs ys i x same b e = subst (λ (l : List _). slice_get l i ≡ Some x) same (slice_get_read xs (length xs) i x refl b e)

pub one-longer : {X : Type 0} (xs ys : List X) (x : X) (i : ℕ) → ys ≡ xs ++ x ∷ [] → length xs ≡ i → length ys ≡ i + 1
one-longer xs ys x i e l = grind (arith, common_steps)
