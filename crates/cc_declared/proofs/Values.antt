-- Values of constants, where a rule applies.
use Rattle.std.proofs.Common.{◌≡◌, Bool, true, false, ℤ, pos, sym, ap, ◌∙◌, [], Option, Result, Ok, Err, refl}
use Rattle.std.specs.Prelude.{if◌then◌else◌}
use Rattle.cc_base.specs.Numbers.{fits, in_range, is_int, is_long, operated}
use Rattle.cc_base.specs.declared.names.FaultKind.{FaultKind}
use Rattle.cc_base.specs.declared.names.FaultKind.TheVariants.{Overflow}
use Rattle.cc_base.specs.declared.numbers.NumberType.TheVariants as numeric
use Rattle.cc_base.specs.declared.numbers.Operator.TheVariants.{Add}
use Rattle.cc_faults.specs.Declarations.{one_above}
use Rattle.cc_faults.specs.Faults.{noted}
use Rattle.cc_faults.specs.Judged.{Judged, Good, Bad, faults, known, map, checked, outcome}
use Rattle.cc_faults.specs.Rows.{unless, value_in_range}
use Rattle.cc_faults.specs.declared.fault.FaultAt.{FaultAt}
use Rattle.cc_faults.specs.declared.fault.TypeKind.TheVariants as kind
use Rattle.cc_faults.specs.declared.plain.Identifier.{Identifier}
use Rattle.cc_faults.proofs.Judged.{noted-end, noted-more, faults-Good, faults-Bad}
use Rattle.cc_declared.specs.Lists.{faults_ruled, ruled}
use Rattle.cc_declared.specs.Walks.{int_at}

-- an `int`, or the fault
pub in-int : (x : Identifier) (n : ℤ) → value_in_range x n ≡ int_at x (in_range numeric.Int n)
unfolding in_range is_int is_long
in-int x n = by (fits 31 n)
  where
    by : (b : Bool) → unless b x.place kind.EnumRange n ≡ int_at x (if b then Ok n else Err Overflow)
    by true = refl
    by false = refl

pub next-int : (x : Identifier) (n : ℤ) (r : Result ℤ FaultKind) → r ≡ operated Add numeric.Int n (pos 1) → int_at x r ≡ checked (map one_above (known (Ok n))) (value_in_range x)
unfolding checked map operated
next-int x n r e = ap (int_at x) e ∙ sym (in-int x (one_above n))

pub signed-int : (x : Identifier) (n : ℤ) (r : Result ℤ FaultKind) → r ≡ in_range numeric.Int n → int_at x r ≡ value_in_range x n
signed-int x n r e = ap (int_at x) e ∙ sym (in-int x n)

module _ (x : Identifier) where
  pub next-Ok : (n : ℤ) → checked (map one_above (known (Ok n))) (value_in_range x) ≡ value_in_range x (one_above n)
  unfolding checked map
  next-Ok n = refl

  pub next-Err : (f : FaultAt) → checked (map one_above (known (Err f))) (value_in_range x) ≡ Bad false f []
  unfolding checked map
  next-Err f = refl

-- a rule of what is made
module _ {A B C : Type 0} (f : A → B) (j : Judged A) (r : B → Judged C) where
  pub outcome-made : outcome (checked (map f j) r) ≡ ruled (outcome j) (λ v. outcome (r (f v)))
  unfolding checked map ruled
  outcome-made = by j
    where
      by : (k : Judged A) → outcome (checked (map f k) r) ≡ ruled (outcome k) (λ v. outcome (r (f v)))
      by (Good v) = refl
      by (Bad own g gs) = refl

  pub noted-made : (m : Option FaultAt) → noted m (faults (checked (map f j) r)) ≡ noted (noted m (faults j)) (faults_ruled (outcome j) (λ v. r (f v)))
  unfolding checked map faults noted faults_ruled
  noted-made m = by j
    where
      by : (k : Judged A) → noted m (faults (checked (map f k) r)) ≡ noted (noted m (faults k)) (faults_ruled (outcome k) (λ v. r (f v)))
      by (Good v) = refl
      by (Bad own g gs) = refl

pub ruleset values = (noted-end, noted-more, faults-Good, faults-Bad, in-int, next-Ok, next-Err)

pub ruleset made = (outcome-made, noted-made)
