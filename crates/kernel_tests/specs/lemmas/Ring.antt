-- A ring is well formed, and asks nothing with a deadline.
use Rattle.std.proofs.Common.{◌≡◌, ◌≢◌, ℕ, zero, suc, ◌+◌, ◌-◌, ◌≤◌, ◌<◌, Bool, true, false, List, [], ◌∷◌, length, refl, subst, Some, None, replicate, nat_lt, arith}
use Rattle.std.proofs.Math.Nat.{not-suc-le-zero, zero-lt-suc}
use Rattle.std.specs.Prelude.{All, slice_get, if◌then◌else◌}
use Rattle.std.proofs.lemmas.Bool.{ltb-true}
use Rattle.std.proofs.lemmas.List.Elements.{All-cons, All-nil}
use Rattle.std.proofs.lemmas.List.Kept.{AllPairs-cons}
use Rattle.cc_base.specs.Alternatives.{NumbersRise}
use Rattle.cc_base.specs.Requests.{HasSites, IsAlternativeOf, IsAtSite, IsRequestOf, NamesSites, WellFormed}
use Rattle.cc_base.specs.declared.alternatives.Alt.{Alt}
use Rattle.cc_base.specs.declared.alternatives.Alt.TheVariants.{Accept}
use Rattle.cc_base.specs.declared.request.Request.TheVariants.{Create}
use Rattle.cc_kernel.specs.Untimed.{AsksNoDeadline, HasNoDeadline}
use Rattle.kernel_tests.specs.Ring.{asked_at, asked_in, rank_at, ring, stage_after}
use Rattle.kernel_tests.specs.declared.ring.Phase.{Phase}
use Rattle.kernel_tests.specs.declared.ring.Phase.TheVariants as phase
use Rattle.kernel_tests.specs.declared.ring.Stage.{Stage}

-- each of so many kinds is without arguments
kind-there : (n k : ℕ) → k < n → slice_get {X = ℕ} (replicate n 0) k ≡ Some 0
kind-there zero k lt = absurd (not-suc-le-zero lt)
kind-there (suc n) zero lt = refl
kind-there (suc n) (suc k) lt = kind-there n k (omega (arith, lt))

one-more : (a b : ℕ) → a < b → a + 1 < b + 1
one-more a b lt = omega (arith, lt)

abbrev one-alternative : List (ℕ × Alt)
one-alternative = (0, Accept 0 0 []) ∷ []

one-rises : NumbersRise one-alternative
one-rises =
    AllPairs-cons (λ (b c : ℕ × Alt). b.0 < c.0) (0, Accept 0 0 []) [] (All-nil (λ (b : ℕ × Alt). 0 < b.0)) (λ i j d lt within. absurd (not-suc-le-zero within))

some-there : one-alternative ≢ []
some-there e = subst some e tt
  where
    some : List (ℕ × Alt) → Type 0
    some [] = ⊥
    some (b ∷ more) = Unit {0}

one-of : (F : ℕ × Alt → Type 0) → F (0, Accept 0 0 []) → All F one-alternative
one-of F h = All-cons F (0, Accept 0 0 []) [] h (All-nil F)

module _ (others : ℕ) where
  phase-asks : (kind : ℕ) (x : Phase) → IsRequestOf (ring others) (asked_in others kind x)
  phase-asks kind phase.Call = refl
  phase-asks kind phase.Wait = (some-there, one-rises, one-of (λ a. IsAlternativeOf (ring others) a.1) refl)
  phase-asks kind phase.Answer = tt

  stage-asks : (kind : ℕ) (x : Stage) → IsRequestOf (ring others) (asked_at others kind x)
  stage-asks kind x = by-made (nat_lt x.made others) refl
    where
      by-made : (b : Bool) → nat_lt x.made others ≡ b → IsRequestOf (ring others) (if b then Create (x.made + 1) [] else asked_in others kind x.phase)
      by-made true e = kind-there (others + 1) (x.made + 1) (one-more x.made others (ltb-true x.made others e))
      by-made false e = phase-asks kind x.phase

  pub ring_well_formed : WellFormed (ring others)
  ring_well_formed =
      record {
        main = kind-there (others + 1) 0 (zero-below others);
        requests = λ kind args grants exists proper. stage-asks kind (stage_after others kind (length grants - 1));
      }
    where
      zero-below : (n : ℕ) → 0 < n + 1
      zero-below n = omega arith

  phase-at-sites : (kind : ℕ) (x : Phase) → NamesSites 1 (asked_in others kind x)
  phase-at-sites kind phase.Call = tt
  phase-at-sites kind phase.Wait = one-of (λ a. IsAtSite 1 a.1) (zero-lt-suc 0)
  phase-at-sites kind phase.Answer = tt

  stage-at-sites : (kind : ℕ) (x : Stage) → NamesSites 1 (asked_at others kind x)
  stage-at-sites kind x = by-made (nat_lt x.made others)
    where
      by-made : (b : Bool) → NamesSites 1 (if b then Create (x.made + 1) [] else asked_in others kind x.phase)
      by-made true = tt
      by-made false = phase-at-sites kind x.phase

  pub ring_has_sites : HasSites (ring others) 1
  ring_has_sites =
      record {
        names = λ kind args grants exists proper. stage-at-sites kind (stage_after others kind (length grants - 1));
        fits = λ site env args past. none site past;
      }
    where
      none : (site : ℕ) → 1 ≤ site → rank_at site ≡ None
      none zero past = absurd (not-suc-le-zero past)
      none (suc site) past = refl

  phase-untimed : (kind : ℕ) (x : Phase) → HasNoDeadline (asked_in others kind x)
  phase-untimed kind phase.Call = tt
  phase-untimed kind phase.Wait = (tt, tt)
  phase-untimed kind phase.Answer = tt

  -- it asks nothing with a deadline
  pub ring_no_deadline : AsksNoDeadline (ring others)
  ring_no_deadline kind args grants exists proper = by-made (nat_lt (stage_after others kind (length grants - 1)).made others) (stage_after others kind (length grants - 1))
    where
      by-made : (b : Bool) (x : Stage) → HasNoDeadline (if b then Create (x.made + 1) [] else asked_in others kind x.phase)
      by-made true x = tt
      by-made false x = phase-untimed kind x.phase
