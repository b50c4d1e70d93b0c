-- Tables whose alternatives rise.
use Rattle.std.proofs.Common.{◌≡◌, ℕ, zero, suc, ◌+◌, ◌-◌, ◌<◌, ◌≤◌, inl, inr, List, [], ◌∷◌, slice_get, Some, None, Bool, true, false, nat_eq, refl, sym, ◌∙◌, subst, arith}
use Rattle.std.specs.Prelude.{if◌then◌else◌}
use native.Mathlib.Decide.{ℕ_discrete}
use Rattle.std.proofs.lemmas.Bool.{cases_lt}
use Rattle.std.proofs.lemmas.Bool.Decides.{nat_tests}
use Rattle.cc_code.specs.Waiting.{AreBelow, AreFrom, IsAscending}
use Rattle.cc_code.specs.Works.{entry_of}
use Rattle.cc_code.specs.declared.code.TableEntry.{TableEntry}

-- the alternatives below a place rise
abbrev pub RisesBelow : List TableEntry → ℕ → Type 0
RisesBelow t n = (a b : ℕ) (x y : TableEntry) → b < n → a < b → slice_get t a ≡ Some x → slice_get t b ≡ Some y → x.alt < y.alt

same : (t : List TableEntry) (a : ℕ) (x y : TableEntry) → slice_get t a ≡ Some x → slice_get t a ≡ Some y → x ≡ y
same t a x y e f = let g : Some x ≡ Some y = sym e ∙ f in cc

at-same : (t : List TableEntry) (a b : ℕ) (x y : TableEntry) → a ≡ b → slice_get t a ≡ Some x → slice_get t b ≡ Some y → x ≡ y
at-same t a b x y h e f = same t b x y (subst (λ (n : ℕ). slice_get t n ≡ Some x) h e) f

rises-last : (t : List TableEntry) (n a : ℕ) (u x y : TableEntry) → slice_get t (n - 1) ≡ Some x → slice_get t n ≡ Some y → x.alt < y.alt → RisesBelow t n → a < n → slice_get t a ≡ Some u → u.alt < y.alt
rises-last t n a u x y e f less below b h = elim (ℕ_discrete a (n - 1)) [
  | yes s ↦ (let g : u ≡ x = at-same t a (n - 1) u x s h e in subst (λ (z : TableEntry). z.alt < y.alt) (sym g) less)
  | no s ↦ (let g : u.alt < x.alt = below a (n - 1) u x (omega arith) (omega arith) h e in omega arith)
]

-- one more entry
pub rises-more : (t : List TableEntry) (n : ℕ) (x y : TableEntry) → 1 ≤ n → slice_get t (n - 1) ≡ Some x → slice_get t n ≡ Some y → x.alt < y.alt → RisesBelow t n → RisesBelow t (n + 1)
rises-more t n x y p e f less below a b u v bound order g h = elim (ℕ_discrete b n) [
  | yes s ↦ (let i : v ≡ y = at-same t b n v y s h f in
      subst (λ (z : TableEntry). u.alt < z.alt) (sym i) (rises-last t n a u x y e f less below (omega arith) g))
  | no s ↦ below a b u v (omega arith) order g h
]

not-equal : (a b : ℕ) → (a ≡ b → ⊥) → nat_eq a b ≡ false
not-equal a b n = go (nat_eq a b) refl
  where
    go : (r : Bool) → nat_eq a b ≡ r → nat_eq a b ≡ false
    go false e = e
    go true e = absurd (n (grind (arith, nat_tests)))

is-equal : (a b : ℕ) → a ≡ b → nat_eq a b ≡ true
is-equal a b e = grind (arith, nat_tests)

skipped : (i : ℕ) (e : TableEntry) (es : List TableEntry) → (e.alt ≡ i → ⊥) → entry_of i (e ∷ es) ≡ entry_of i es
skipped i e es n = subst (λ (b : Bool). (if b then Some e else entry_of i es) ≡ entry_of i es) (sym (not-equal e.alt i n)) refl

found : (i : ℕ) (e : TableEntry) (es : List TableEntry) → e.alt ≡ i → entry_of i (e ∷ es) ≡ Some e
found i e es h = subst (λ (b : Bool). (if b then Some e else entry_of i es) ≡ Some e) (sym (is-equal e.alt i h)) refl

-- the first entry of an alternative, after others of less
pub entry-found : (t : List TableEntry) (i n : ℕ) (e : TableEntry) → slice_get t n ≡ Some e → e.alt ≡ i → AreBelow t i n → entry_of i t ≡ Some e
entry-found [] i n e h a below = absurd (let f : None ≡ Some e = h in cc)
entry-found (x ∷ xs) i zero e h a below = let f : x ≡ e = cc in found i x xs (subst (λ (z : TableEntry). z.alt ≡ i) (sym f) a) ∙ h
entry-found (x ∷ xs) i (suc n) e h a below =
    let less : x.alt < i = below 0 x (omega arith) refl in
    skipped i x xs (λ f. omega arith) ∙ entry-found xs i n e h a (λ j y b g. below (suc j) y (omega arith) g)

-- no entry, where all are others
pub entry-none : (t : List TableEntry) (i : ℕ) → ((j : ℕ) (x : TableEntry) → slice_get t j ≡ Some x → x.alt ≡ i → ⊥) → entry_of i t ≡ None
entry-none [] i others = refl
entry-none (x ∷ xs) i others = skipped i x xs (others 0 x refl) ∙ entry-none xs i (λ j y g. others (suc j) y g)

-- where the place of the least that is not below holds another, there is none
pub entry-passed : (t : List TableEntry) (i n : ℕ) (e : TableEntry) → IsAscending t → slice_get t n ≡ Some e → (e.alt ≡ i → ⊥) → AreBelow t i n → AreFrom t i n → entry_of i t ≡ None
entry-passed t i n e rises here other below above = entry-none t i (λ j x g f. elim (ℕ_discrete j n) [
  | yes s ↦ other (let h : x ≡ e = at-same t j n x e s g here in subst (λ (z : TableEntry). z.alt ≡ i) h f)
  | no s ↦ later j x g f s
])
  where
    later : (j : ℕ) (x : TableEntry) → slice_get t j ≡ Some x → x.alt ≡ i → (j ≡ n → ⊥) → ⊥
    later j x g f s = elim (cases_lt j n) [
      | inl l ↦ (let h : x.alt < i = below j x l g in absurd (omega arith))
      | inr l ↦ (let h : e.alt < x.alt = rises n j e x (omega arith) here g in
          let k : i ≤ e.alt = above n e (omega arith) here in absurd (omega arith))
    ]

-- what is before an entry whose alternative is below is below too, and what is after one that is not is not
pub below-up-to : (t : List TableEntry) (alt n : ℕ) (e : TableEntry) → IsAscending t → slice_get t n ≡ Some e → e.alt < alt → AreBelow t alt (n + 1)
below-up-to t alt n e rises here less i x b g = elim (ℕ_discrete i n) [
  | yes s ↦ (let h : x ≡ e = at-same t i n x e s g here in subst (λ (z : TableEntry). z.alt < alt) (sym h) less)
  | no s ↦ (let h : x.alt < e.alt = rises i n x e (omega arith) g here in omega arith)
]

pub from-on : (t : List TableEntry) (alt n : ℕ) (e : TableEntry) → IsAscending t → slice_get t n ≡ Some e → alt ≤ e.alt → AreFrom t alt n
from-on t alt n e rises here least i x b g = elim (ℕ_discrete i n) [
  | yes s ↦ (let h : x ≡ e = at-same t i n x e s g here in subst (λ (z : TableEntry). alt ≤ z.alt) (sym h) least)
  | no s ↦ (let h : e.alt < x.alt = rises n i e x (omega arith) here g in omega arith)
]
