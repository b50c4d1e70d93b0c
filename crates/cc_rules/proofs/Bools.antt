-- Tests, one from another.
use Rattle.std.proofs.Common.{◌≡◌, ℕ, Bool, true, false, ◌||◌, not, refl, rules}
use Rattle.std.specs.Prelude.{nat_eq}

pub same-number : (n : ℕ) → nat_eq n n ≡ true
same-number n = search rules

pub both-ways : (b : Bool) → b ≡ true → b ≡ false → ⊥
both-ways b h k = cc

pub false-from : (b : Bool) → (b ≡ true → ⊥) → b ≡ false
false-from true h = absurd (h refl)
false-from false h = refl

pub is-not : (b : Bool) → not b ≡ true → b ≡ false
is-not true h = cc
is-not false h = refl

pub or-left : (a b : Bool) → a ≡ true → (a || b) ≡ true
or-left true b h = refl
or-left false b h = cc

pub or-right : (a b : Bool) → b ≡ true → (a || b) ≡ true
or-right true b h = refl
or-right false b h = h

pub or-false : (b : Bool) → (b || false) ≡ true → b ≡ true
or-false true h = refl
or-false false h = cc
