-- What is known of the selects at which control may come to wait.
use Rattle.std.specs.List.{AllByRecursion}
use Rattle.std.proofs.Common.{◌≡◌, ℕ, zero, suc, ◌+◌, ◌<◌, ◌≤◌, ◌⊎◌, inl, inr, List, [], ◌∷◌, length, get_or, set, replicate, slice_get, Option, Some, Contains, refl, sym, ◌∙◌, subst, arith}
use native.Mathlib.Decide.{ℕ_discrete}
use Rattle.std.proofs.lemmas.Bool.{cases_lt}
use Rattle.std.proofs.lemmas.List.{get_or-set_same, get_or-set_other}
use Rattle.std.proofs.lemmas.List.Elements.{Contains-append_cases}
use Rattle.std.proofs.lemmas.Option.{slice_get_within, slice_get_past}
use Rattle.cc_code.proofs.Marked.{itself, nothing, only}
use Rattle.cc_code.specs.Control.{Reaches, start, onward, GoesWithin, successors_within}
use Rattle.cc_code.specs.Rules.{AgreesIn, AgreesThere, Agrees}
use Rattle.cc_code.specs.Waiting.{Allows, AreWaits, Covers, IsKnown}
use Rattle.cc_code.specs.Works.{entry_of, table_at}
use Rattle.cc_code.specs.declared.code.RawCode.{RawCode}
use Rattle.cc_code.specs.declared.instr.Instr.{Instr}
use Rattle.cc_code.specs.declared.instr.Instr.TheVariants as instr
use Rattle.cc_code.specs.declared.waits.Waits.{Waits}
use Rattle.cc_code.specs.declared.waits.Waits.TheVariants as waits

-- the first step of a way
pub first-step : (L : ℕ → ℕ → Type 0) (a x : ℕ) → Reaches L (a ∷ []) x → (a ≡ x) ⊎ ((y : ℕ) × L a y × Reaches L (y ∷ []) x)
first-step L a x (Reaches.start c) = inl (only a x c)
first-step L a y (Reaches.onward {x = z} r d) = elim (first-step L a z r) [
  | inl e ↦ inr (y, subst (λ (n : ℕ). L n y) (sym e) d, start (itself y))
  | inr h ↦ inr (h.0, h.1, onward h.2 d)
]

-- what holds of each of a list holds of its members
pub member-holds : (P : ℕ → Type 0) (xs : List ℕ) (x : ℕ) → AllByRecursion P xs → Contains xs x → P x
member-holds P [] x h c = absurd (nothing x c)
member-holds P (y ∷ ys) x h c = elim (Contains-append_cases (y ∷ []) ys x c) [
  | inl d ↦ subst (λ (z : ℕ). P z) (only y x d) h.0
  | inr d ↦ member-holds P ys x h.1 d
]

unknown-at : (n y : ℕ) → y < n → get_or (replicate n waits.Unknown) y waits.Never ≡ waits.Unknown
unknown-at zero y b = absurd (omega arith)
unknown-at (suc n) zero b = refl
unknown-at (suc n) (suc y) b = unknown-at n y (omega arith)

module _ (k : RawCode) (known : List Waits) where
  -- behind the code nothing waits
  pub known-past : (at : ℕ) (w : Waits) → length k.instrs ≤ at → IsKnown k at w
  known-past at w b x j r e = absurd (elim (first-step (GoesWithin k) at x r) [
    | inl f ↦ (let h : x < length k.instrs = slice_get_within k.instrs x (instr.SelWait j) e in omega arith)
    | inr f ↦ nothing f.0 (subst (λ (o : Option Instr). Contains (successors_within k at o) f.0) (slice_get_past k.instrs at b) f.1)
  ])

  -- what is known of an instruction's successors says what is known of it
  pub known-step : (at : ℕ) (i : Instr) (w : Waits) → slice_get k.instrs at ≡ Some i → AreWaits k known → AllByRecursion (Covers known w) (successors_within k at (Some i))
      → ((j : ℕ) → i ≡ instr.SelWait j → Allows w j) → IsKnown k at w
  known-step at i w here are covers wait x j r e = elim (first-step (GoesWithin k) at x r) [
    | inl f ↦ (let same : Some i ≡ Some (instr.SelWait j) = sym here ∙ subst (λ (n : ℕ). slice_get k.instrs n ≡ Some (instr.SelWait j)) (sym f) e in
        let is : i ≡ instr.SelWait j = cc in wait j is)
    | inr f ↦ (let c : Contains (successors_within k at (Some i)) f.0 = subst (λ (o : Option Instr). Contains (successors_within k at o) f.0) here f.1 in
        member-holds (Covers known w) (successors_within k at (Some i)) f.0 covers c j (are f.0 x j f.2 e))
  ]

  pub known-set : (at : ℕ) (w : Waits) → at < length known → AreWaits k known → IsKnown k at w → AreWaits k (set known at w)
  known-set at w b are here y = elim (ℕ_discrete y at) [
    | yes e ↦ subst (λ (n : ℕ). IsKnown k n (get_or (set known at w) n waits.Never)) (sym e) (subst (λ (v : Waits). IsKnown k at v) (sym (get_or-set_same known at w waits.Never b)) here)
    | no n ↦ subst (λ (v : Waits). IsKnown k y v) (sym (get_or-set_other known at y w waits.Never n)) (are y)
  ]

  -- a table with which an offer agrees, where control may come to wait for that table alone
  agrees-there : (i : ℕ) (site : Option ℕ) (o : Option Instr) → ((j : ℕ) → o ≡ Some (instr.SelWait j) → AgreesIn i site (entry_of i (table_at k j))) → AgreesThere k i site o
  agrees-there i site (Some (instr.SelWait j)) h = h j refl
  agrees-there i site other h = tt

  pub agrees-known : (at i : ℕ) (site : Option ℕ) (w : Waits) → successors_within k at (slice_get k.instrs at) ≡ (at + 1) ∷ [] → IsKnown k (at + 1) w
      → ((j : ℕ) → Allows w j → AgreesIn i site (entry_of i (table_at k j))) → Agrees k at i site
  agrees-known at i site w offer is agree wait comes = agrees-there i site (slice_get k.instrs wait)
      (λ j e. agree j (is wait j (subst (λ (l : List ℕ). Reaches (GoesWithin k) l wait) offer comes) e))

-- nothing is known of the code at first
pub known-first : (k : RawCode) (known : List Waits) (n : ℕ) → known ≡ replicate n waits.Unknown → n ≡ length k.instrs → AreWaits k known
known-first k known n e long y = elim (cases_lt y n) [
  | inl b ↦ subst (λ (w : Waits). IsKnown k y w) (sym (subst (λ (l : List Waits). get_or l y waits.Never ≡ waits.Unknown) (sym e) (unknown-at n y b))) (λ x j r f. tt)
  | inr b ↦ known-past k known y (get_or known y waits.Never) (omega arith)
]
