-- A clock that follows a script answers its next moment.
use Rattle.std.proofs.Common.{◌≡◌, ℕ, zero, suc, ◌+◌, ◌-◌, ◌<◌, min, Bool, true, false, ◌&&◌, List, [], ◌∷◌, ◌++◌, length, get_or, Option, Some, None, refl, sym, ap, ◌∙◌, arith}
use Rattle.std.specs.Prelude.{if◌then◌else◌, nat_lt, slice_get}
use Rattle.std.proofs.lemmas.Bool.Decides.{nat_tests}
use Rattle.cc_world.specs.ScriptClock.{answer_at, first_answers, is_below_last}
use Rattle.cc_world.specs.Told.{Tells}

pub got-some : (xs : List ℕ) (i moment : ℕ) → Some moment ≡ slice_get xs i → moment ≡ get_or xs i 0
got-some [] zero moment e = cc
got-some [] (suc i) moment e = cc
got-some (x ∷ xs) zero moment e = cc
got-some (x ∷ xs) (suc i) moment e = got-some xs i moment e

pub got-none : (xs : List ℕ) (i : ℕ) → None ≡ slice_get xs i → 0 ≡ get_or xs i 0
got-none [] zero e = refl
got-none [] (suc i) e = refl
got-none (x ∷ xs) zero e = cc
got-none (x ∷ xs) (suc i) e = got-none xs i e

one-less : (n r : ℕ) → r ≡ min (n + 1) 18446744073709551615 → nat_lt r 18446744073709551615 ≡ true → r ≡ suc n
one-less n r e h = grind (arith, nat_tests)

still-below : (n r : ℕ) → r ≡ suc n → nat_lt r 18446744073709551615 ≡ true → nat_lt n 18446744073709551615 ≡ true
still-below n r e h = grind (arith, nat_tests)

-- it tells one answer more, while it tells them
pub tells-next :
    (script : List ℕ) (n r rests moment : ℕ)
    → r ≡ min (n + 1) 18446744073709551615
    → moment ≡ answer_at script n
    → Tells (if is_below_last n && is_below_last rests then Some (first_answers script n) else None)
    (if is_below_last r && is_below_last rests then Some (first_answers script r) else None)
    (λ was is. is ≡ was ++ moment ∷ [])
tells-next script n r rests moment e next =
    by (is_below_last r) (is_below_last n) (is_below_last rests)
    (λ h.
    let more = one-less n r e h in (
      still-below n r more h,
      ap (first_answers script) more ∙ ap (λ k. first_answers script n ++ k ∷ []) (sym next),
    ))
  where
    by :
        (x y c : Bool)
        → (x ≡ true → (y ≡ true) × (first_answers script r ≡ first_answers script n ++ moment ∷ []))
        → Tells (if y && c then Some (first_answers script n) else None) (if x && c then Some (first_answers script r) else None) (λ was is. is ≡ was ++ moment ∷ [])
    by false y c h = tt
    by true y false h = tt
    by true y true h = let p = h refl in rw p.0 p.1
