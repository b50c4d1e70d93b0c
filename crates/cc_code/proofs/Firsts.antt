-- The first rule that is broken, of the code and of its instructions.
use Rattle.std.proofs.Common.{◌≡◌, ℕ, ◌+◌, ◌<◌, ◌≤◌, inl, inr, List, [], length, slice_get, Option, Some, None, refl, sym, ◌∙◌, subst, arith}
use native.Mathlib.Decide.{ℕ_discrete}
use Rattle.std.proofs.lemmas.Option.{slice_get_within}
use Rattle.cc_code.specs.Judged.{IsEarlier, IsLeast, Judged, KeepsStart}
use Rattle.cc_code.specs.Rules.{IsFirst, IsVerified, Keeps, KeepsAt, KeepsWhole}
use Rattle.cc_code.specs.declared.code.RawCode.{RawCode}
use Rattle.cc_code.specs.declared.instr.Instr.{Instr}
use Rattle.cc_code.specs.declared.rule.Rule.{Rule}

module _ (k : RawCode) where
  earlier-case : (w e r : Option Rule) → Judged (KeepsWhole k) w → Judged (KeepsStart k) e → IsEarlier w e r → Judged (Keeps k 0) r
  earlier-case None None r w e is = subst (λ (o : Option Rule). Judged (Keeps k 0) o) (sym is) (λ q. record { whole = λ z. w q; each = e q })
  earlier-case None (Some b) r w e is = subst (λ (o : Option Rule). Judged (Keeps k 0) o) (sym is) (record {
    broken = λ keeps. e.broken keeps.each;
    lower = λ q l. record { whole = λ z. w q; each = e.lower q l };
  })
  earlier-case (Some a) None r w e is = subst (λ (o : Option Rule). Judged (Keeps k 0) o) (sym is) (record {
    broken = λ keeps. w.broken (keeps.whole refl);
    lower = λ q l. record { whole = λ z. w.lower q l; each = e q };
  })
  earlier-case (Some a) (Some b) r w e is = elim is [
    | inl f ↦ subst (λ (o : Option Rule). Judged (Keeps k 0) o) (sym f.0) (record {
      broken = λ keeps. w.broken (keeps.whole refl);
      lower = λ q l. record { whole = λ z. w.lower q l; each = e.lower q (omega (arith, f.1)) };
    })
    | inr f ↦ subst (λ (o : Option Rule). Judged (Keeps k 0) o) (sym f.0) (record {
      broken = λ keeps. e.broken keeps.each;
      lower = λ q l. record { whole = λ z. w.lower q (omega (arith, f.1)); each = e.lower q l };
    })
  ]

  -- the first rule that is broken at address 0
  pub joined : (w e r : Option Rule) → Judged (KeepsWhole k) w → Judged (KeepsStart k) e → IsEarlier w e r → Judged (Keeps k 0) r
  joined w e r a b is = earlier-case w e r a b is

  same : (at : ℕ) (i j : Instr) → slice_get k.instrs at ≡ Some i → slice_get k.instrs at ≡ Some j → i ≡ j
  same at i j e f = let g : Some i ≡ Some j = sym e ∙ f in cc

  each-of : (at : ℕ) (i : Instr) (q : Rule) → slice_get k.instrs at ≡ Some i → KeepsAt k at i q → (j : Instr) → slice_get k.instrs at ≡ Some j → KeepsAt k at j q
  each-of at i q here h j e = subst (λ (z : Instr). KeepsAt k at z q) (same at i j here e) h

  -- what is broken by the instruction at address 0
  pub at-start : (i : Instr) (o : Option Rule) → slice_get k.instrs 0 ≡ Some i → Judged (KeepsAt k 0 i) o → Judged (KeepsStart k) o
  at-start i None here h = λ q. each-of 0 i q here (h q)
  at-start i (Some r) here h = record {
    broken = λ keeps. h.broken (keeps i here);
    lower = λ q l. each-of 0 i q here (h.lower q l);
  }

  pub no-start : k.instrs ≡ [] → Judged (KeepsStart k) None
  no-start e q i f = absurd (let g : None ≡ Some i = subst (λ (l : List Instr). slice_get l 0 ≡ Some i) e f in cc)

  keeps-there : (at : ℕ) (i : Instr) (q : Rule) → 1 ≤ at → slice_get k.instrs at ≡ Some i → KeepsAt k at i q → Keeps k at q
  keeps-there at i q b here h = record { whole = λ z. absurd (omega arith); each = each-of at i q here h }

  -- nothing is broken up to an address, and at it
  pub more-kept : (at : ℕ) (i : Instr) → 1 ≤ at → slice_get k.instrs at ≡ Some i → ((b : ℕ) (q : Rule) → b < at → Keeps k b q) → ((q : Rule) → KeepsAt k at i q) → (b : ℕ) (q : Rule) → b < at + 1 → Keeps k b q
  more-kept at i p here below now b q l = elim (ℕ_discrete b at) [
    | yes e ↦ subst (λ (n : ℕ). Keeps k n q) (sym e) (keeps-there at i q p here (now q))
    | no n ↦ below b q (omega arith)
  ]

  pub first-there : (at : ℕ) (i : Instr) (r : Rule) → 1 ≤ at → slice_get k.instrs at ≡ Some i → ((b : ℕ) (q : Rule) → b < at → Keeps k b q) → IsLeast (KeepsAt k at i) r → IsFirst k at r
  first-there at i r p here below least = record {
    broken = λ keeps. least.broken (keeps.each i here);
    earlier = below;
    lower = λ q l. keeps-there at i q p here (least.lower q l);
  }

  pub first-start : (r : Rule) → IsLeast (Keeps k 0) r → IsFirst k 0 r
  first-start r least = record { broken = least.broken; earlier = λ b q l. absurd (omega arith); lower = least.lower }

  -- nothing is broken where there is no instruction
  pub all-kept : (n : ℕ) → 1 ≤ n → length k.instrs ≤ n → ((b : ℕ) (q : Rule) → b < n → Keeps k b q) → IsVerified k
  all-kept n p past below at r = elim (ℕ_discrete at 0) [
    | yes e ↦ below at r (omega arith)
    | no f ↦ record {
      whole = λ e. absurd (f e);
      each = λ i e. (let b : at < length k.instrs = slice_get_within k.instrs at i e in (below at r (omega arith)).each i e);
    }
  ]
