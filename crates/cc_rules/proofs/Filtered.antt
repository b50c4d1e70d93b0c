-- What stands in a list stands in it after a filter, or in what the filter left out.
use Rattle.std.proofs.Common.{◌≡◌, ℕ, zero, suc, ◌+◌, ◌⊎◌, inl, inr, Bool, true, false, not, List, [], ◌∷◌, refl, sym, ap, ◌∙◌, subst, arith, cond}
use Rattle.std.specs.Prelude.{filter, sum_by}
use Rattle.std.specs.List.{Contains}
use Rattle.std.proofs.lemmas.List.Elements.{All-contains, All-contains_itself, All-filter, filter_passes}
use Rattle.std.proofs.lemmas.List.Filters.{sum_by-filter_both}

module _ {X : Type 0} (test : X → Bool) where
  pub Contains-filter : (xs : List X) (x : X) → Contains (filter test xs) x → Contains xs x
  Contains-filter xs x h = All-contains (Contains xs) (filter test xs) x (All-filter test (Contains xs) xs (All-contains_itself xs)) h

  pub filter-passes : (xs : List X) (x : X) → Contains (filter test xs) x → test x ≡ true
  filter-passes xs x h = All-contains (λ y. test y ≡ true) (filter test xs) x (filter_passes test xs) h

  more-contained : (y : X) (xs : List X) (x : X) (b : Bool) → Contains xs x → Contains (cond b (y ∷ xs) xs) x
  more-contained y xs x true (k, lt, e) = (suc k, omega arith, e)
  more-contained y xs x false h = h

  pub filter-contains : (xs : List X) (x : X) → Contains xs x → test x ≡ true → Contains (filter test xs) x
  filter-contains [] x (k, lt, e) t = absurd (omega arith)
  filter-contains (y ∷ xs) x (zero, lt, e) t =
      subst (λ b. Contains (cond b (y ∷ filter test xs) (filter test xs)) x) (sym (ap test e ∙ t)) (0, omega arith, e)
  filter-contains (y ∷ xs) x (suc k, lt, e) t =
      more-contained y (filter test xs) x (test y) (filter-contains xs x (k, omega arith, e) t)

pub filter-cases : {X : Type 0} (test : X → Bool) (xs : List X) (x : X) (b : Bool) → test x ≡ b → Contains xs x → Contains (filter test xs) x ⊎ Contains (filter (λ y. not (test y)) xs) x
filter-cases test xs x true e h = inl (filter-contains test xs x h e)
filter-cases test xs x false e h = inr (filter-contains (λ y. not (test y)) xs x h (ap not e))

-- a sum over what passes and over what does not is the sum over all
pub sum_by-split : {X : Type 0} (test : X → Bool) (f : X → ℕ) (xs : List X) → sum_by f (filter test xs) + sum_by f (filter (λ y. not (test y)) xs) ≡ sum_by f xs
sum_by-split test f xs = sum_by-filter_both test (λ y. not (test y)) (λ y. refl) f xs
