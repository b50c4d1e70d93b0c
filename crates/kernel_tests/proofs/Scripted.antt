-- A program that is written out by hand is well formed where each of its steps is.
use Rattle.std.proofs.Common.{◌≡◌, ℕ, zero, suc, ◌+◌, ◌-◌, ◌<◌, ◌≤◌, ℤ, Bool, true, ◌&&◌, List, [], ◌∷◌, length, get_or, arith, Option, Some}
use Rattle.std.specs.Prelude.{All, is_some, nat_le, slice_get}
use Rattle.std.specs.List.{list_all}
use Rattle.std.proofs.lemmas.Bool.{and_parts}
use Rattle.std.proofs.lemmas.Bool.Decides.{nat_tests}
use Rattle.std.proofs.lemmas.List.Elements.{All-cons, All-nil, All-weaker}
use Rattle.std.proofs.lemmas.List.Kept.{AllPairs-cons}
use Rattle.cc_base.specs.Alternatives.{NumbersRise}
use Rattle.cc_base.specs.Meaning.{Meaning}
use Rattle.cc_base.specs.declared.alternatives.Alt.{Alt}
use Rattle.cc_base.specs.declared.alternatives.Alt.TheVariants.{Accept, After, Now, Terminate}
use Rattle.cc_base.specs.declared.names.Shape.{Shape}
use Rattle.cc_base.specs.declared.request.Grant.{Grant}
use Rattle.cc_base.specs.declared.request.Grant.TheVariants.{Go}
use Rattle.cc_base.specs.declared.request.Request.TheVariants.{Select, Done}
use Rattle.cc_base.specs.Requests.{IsAlternativeOf, IsRequestOf, WellFormed}
use Rattle.kernel_tests.specs.Worked.Script.{Step, scripted, then_ask}

-- each step asks a request of the program
abbrev pub EachStep : Meaning → List Step → Type 0
EachStep m [] = Unit {0}
EachStep m (step ∷ steps) = ((grant : Grant) → IsRequestOf m (step grant)) × EachStep m steps

abbrev pub EachScript : Meaning → List (List Step) → Type 0
EachScript m [] = Unit {0}
EachScript m (script ∷ scripts) = EachStep m script × EachScript m scripts

step-at : (m : Meaning) (steps : List Step) (i : ℕ) (grant : Grant) → EachStep m steps → IsRequestOf m (get_or steps i (then_ask Done) grant)
step-at m [] i grant h = tt
step-at m (step ∷ steps) zero grant h = h.0 grant
step-at m (step ∷ steps) (suc i) grant h = step-at m steps i grant h.1

script-at : (m : Meaning) (scripts : List (List Step)) (kind : ℕ) → EachScript m scripts → EachStep m (get_or scripts kind [])
script-at m [] kind h = tt
script-at m (script ∷ scripts) zero h = h.0
script-at m (script ∷ scripts) (suc kind) h = script-at m scripts kind h.1

pub WellFormed-scripted :
    (kinds : List ℕ) (shapes : List Shape) (scripts : List (List Step)) (fit : ℕ → List ℤ → List ℤ → Option ℤ)
    → slice_get kinds 0 ≡ Some 0
    → EachScript (scripted kinds shapes scripts fit) scripts
    → WellFormed (scripted kinds shapes scripts fit)
WellFormed-scripted kinds shapes scripts fit main each =
    let m = scripted kinds shapes scripts fit in
    record {
      main = main;
      requests = λ kind args grants exists proper.
          step-at m (get_or scripts kind []) (length grants - 1) (get_or grants (length grants - 1) Go) (script-at m scripts kind each);
    }

-- the numbers rise, from this one on
abbrev pub rises_from : ℕ → List (ℕ × Alt) → Bool
rises_from low [] = true
rises_from low (a ∷ alts) = nat_le low a.0 && rises_from (a.0 + 1) alts

not-below : (a b : ℕ) → nat_le a b ≡ true → a ≤ b
not-below a b h = grind (arith, nat_tests)

numbers-rise : (low : ℕ) (alts : List (ℕ × Alt)) → rises_from low alts ≡ true → All (λ a. low ≤ a.0) alts × NumbersRise alts
numbers-rise low [] h = (All-nil (λ (a : ℕ × Alt). low ≤ a.0), λ i j d lt lj. absurd (omega arith))
numbers-rise low (a ∷ alts) h =
    let parts = and_parts (nat_le low a.0) (rises_from (a.0 + 1) alts) h in
    let here : low ≤ a.0 = not-below low a.0 parts.0 in
    let rest = numbers-rise (a.0 + 1) alts parts.1 in (
      All-cons (λ (b : ℕ × Alt). low ≤ b.0) a alts here (All-weaker (λ (b : ℕ × Alt). a.0 + 1 ≤ b.0) (λ (b : ℕ × Alt). low ≤ b.0) (λ b le. omega arith) alts rest.0),
      AllPairs-cons (λ (b c : ℕ × Alt). b.0 < c.0) a alts
          (All-weaker (λ (b : ℕ × Alt). a.0 + 1 ≤ b.0) (λ (b : ℕ × Alt). a.0 < b.0) (λ b le. omega arith) alts rest.0)
          rest.1,
    )

abbrev pub is_alternative_of : Meaning → Alt → Bool
is_alternative_of m (Accept trans site env) = is_some (slice_get m.shapes trans)
is_alternative_of m (After wait) = true
is_alternative_of m Now = true
is_alternative_of m Terminate = true

alternative-of : (m : Meaning) (a : Alt) → is_alternative_of m a ≡ true → IsAlternativeOf m a
alternative-of m (Accept trans site env) h = h
alternative-of m (After wait) h = tt
alternative-of m Now h = tt
alternative-of m Terminate h = tt

alternatives-of : (m : Meaning) (alts : List (ℕ × Alt)) → list_all (λ a. is_alternative_of m a.1) alts ≡ true → All (λ a. IsAlternativeOf m a.1) alts
alternatives-of m [] h = All-nil (λ (a : ℕ × Alt). IsAlternativeOf m a.1)
alternatives-of m (a ∷ alts) h =
    let parts = and_parts (is_alternative_of m a.1) (list_all (λ (b : ℕ × Alt). is_alternative_of m b.1) alts) h in
    All-cons (λ (b : ℕ × Alt). IsAlternativeOf m b.1) a alts (alternative-of m a.1 parts.0) (alternatives-of m alts parts.1)

-- a select of the program, by tests
pub select-of :
    (m : Meaning) (a : ℕ × Alt) (alts : List (ℕ × Alt))
    → rises_from 0 (a ∷ alts) ≡ true
    → list_all (λ b. is_alternative_of m b.1) (a ∷ alts) ≡ true
    → IsRequestOf m (Select (a ∷ alts))
select-of m a alts rise exist = (λ e. cc, (numbers-rise 0 (a ∷ alts) rise).1, alternatives-of m (a ∷ alts) exist)
