-- What instructions name, one after another.
use Rattle.std.proofs.Common.{◌≡◌, ℕ, ◌+◌, ◌<◌, ◌⊎◌, inl, inr, List, [], ◌∷◌, ◌++◌, length, slice_get, Option, Some, None, Bool, Contains, sym, ◌∙◌, ap, subst, arith}
use Rattle.std.specs.Prelude.{◌↔◌}
use native.Mathlib.Decide.{ℕ_discrete}
use Rattle.std.proofs.lemmas.List.Elements.{Contains-append_left, Contains-push, Contains-push_cases}
use Rattle.cc_code.proofs.Lists.{member, place-of}
use Rattle.cc_code.proofs.Marked.{itself, nothing, only}
use Rattle.cc_code.specs.Checked.{AreNamed, IsSet, Names, Noted}
use Rattle.cc_code.specs.Control.{optional}
use Rattle.cc_code.specs.declared.instr.Instr.{Instr}
use Rattle.cc_code.specs.declared.unnamed.Thing.{Thing}

pub in-optional : (o : Option ℕ) (n : ℕ) → Contains (optional o) n ↔ (o ≡ Some n)
in-optional None n = (λ c. absurd (nothing n c), λ e. absurd (let f : None ≡ Some n = e in cc))
in-optional (Some a) n = (λ c. ap (λ (z : ℕ). Some z) (only a n c), λ e. (let f : a ≡ n = cc in subst (λ (z : ℕ). Contains (a ∷ []) z) f (itself a)))

pub none-named : (t : Thing) (n : ℕ) → AreNamed [] t n → ⊥
none-named t n h = nothing h.1 (member [] h.0 h.1 h.2)

pub one-more-named : (xs : List Instr) (j : Instr) (t : Thing) (n : ℕ) → AreNamed (xs ++ j ∷ []) t n ↔ (AreNamed xs t n ⊎ Names t n j)
one-more-named xs j t n = (
  λ h. elim (Contains-push_cases xs j h.1 (member (xs ++ j ∷ []) h.0 h.1 h.2)) [
    | inl c ↦ (let p : (i : ℕ) × (slice_get xs i ≡ Some h.1) = place-of xs h.1 c in inl (p.0, h.1, p.1, h.3))
    | inr e ↦ inr (subst (λ (i : Instr). Names t n i) (sym e) h.3)
  ],
  λ h. elim h [
    | inl g ↦ (let p : (i : ℕ) × (slice_get (xs ++ j ∷ []) i ≡ Some g.1) = place-of (xs ++ j ∷ []) g.1 (Contains-append_left xs (j ∷ []) g.1 (member xs g.0 g.1 g.2)) in (p.0, g.1, p.1, g.3))
    | inr g ↦ (let p : (i : ℕ) × (slice_get (xs ++ j ∷ []) i ≡ Some j) = place-of (xs ++ j ∷ []) j (Contains-push xs j) in (p.0, j, p.1, g))
  ],
)

-- the bits of what is named, after one more instruction
pub named-step : (xs : List Instr) (j : Instr) (t : Thing) (count : ℕ) (old new : List Bool) (o : Option ℕ) → length old ≡ count
    → ((n : ℕ) → n < count → IsSet old n ↔ AreNamed xs t n) → ((n : ℕ) → Names t n j ↔ (o ≡ Some n)) → Noted (optional o) old new
    → (n : ℕ) → n < count → IsSet new n ↔ AreNamed (xs ++ j ∷ []) t n
named-step xs j t count old new o long before by noted n b =
    let b' : n < length old = subst (λ (m : ℕ). n < m) (sym long) b in (
      λ h. elim ((noted.exact n b').0 h) [
        | inl g ↦ (one-more-named xs j t n).1 (inl ((before n b).0 g))
        | inr g ↦ (one-more-named xs j t n).1 (inr ((by n).1 ((in-optional o n).0 g)))
      ],
      λ h. (noted.exact n b').1 (elim ((one-more-named xs j t n).0 h) [
        | inl g ↦ inl ((before n b).1 g)
        | inr g ↦ inr ((in-optional o n).1 ((by n).0 g))
      ]),
    )

-- what holds of each item below an index and of the one there
pub more-below : {X : Type 0} (P : ℕ → X → Type 0) (xs : List X) (n : ℕ) (x : X) → ((i : ℕ) (y : X) → i < n → slice_get xs i ≡ Some y → P i y)
    → slice_get xs n ≡ Some x → P n x → (i : ℕ) (y : X) → i < n + 1 → slice_get xs i ≡ Some y → P i y
more-below P xs n x below here p i y b e = elim (ℕ_discrete i n) [
  | yes f ↦ (let same : Some x ≡ Some y = sym here ∙ subst (λ (m : ℕ). slice_get xs m ≡ Some y) f e in
      let is : x ≡ y = cc in
      subst (λ (m : ℕ). P m y) (sym f) (subst (λ (z : _). P n z) is p))
  | no ne ↦ below i y (omega arith) e
]
