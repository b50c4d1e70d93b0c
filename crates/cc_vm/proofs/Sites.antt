-- The fragments of a site are among those of the code.
use Rattle.std.proofs.Common.{ℕ, List, [], ◌∷◌, Option, Some, None, Contains, inl, inr, sym, subst}
use Rattle.std.specs.Prelude.{MatchOption}
use Rattle.std.proofs.lemmas.List.Elements.{Contains-append_left, Contains-append_right, Contains-append_cases}
use Rattle.cc_code.proofs.Marked.{itself, nothing, only}
use Rattle.cc_code.specs.Control.{fragments, fragments_of, optional}
use Rattle.cc_code.specs.declared.code.Site.{Site}

in-fragments : (sites : List Site) (t : Site) (a : ℕ) → Contains sites t → Contains (fragments_of t) a → Contains (fragments sites) a
in-fragments [] t a c h = absurd (nothing t c)
in-fragments (s ∷ sites) t a c h = elim (Contains-append_cases (s ∷ []) sites t c) [
  | inl e ↦ Contains-append_left (fragments_of s) (fragments sites) a (subst (λ (x : Site). Contains (fragments_of x) a) (sym (only s t e)) h)
  | inr e ↦ Contains-append_right (fragments_of s) (fragments sites) a (in-fragments sites t a e h)
]

module _ (sites : List Site) (t : Site) (c : Contains sites t) where
  pub such-there : MatchOption t.such (Unit {0}) (Contains (fragments sites))
  such-there = by t.such (λ a h. in-fragments sites t a c (Contains-append_left (optional t.such) (optional t.by) a h))
    where
      by : (o : Option ℕ) → ((a : ℕ) → Contains (optional o) a → Contains (fragments sites) a) → MatchOption o (Unit {0}) (Contains (fragments sites))
      by None h = tt
      by (Some a) h = h a (itself a)

  pub by-there : MatchOption t.by (Unit {0}) (Contains (fragments sites))
  by-there = by t.by (λ a h. in-fragments sites t a c (Contains-append_right (optional t.such) (optional t.by) a h))
    where
      by : (o : Option ℕ) → ((a : ℕ) → Contains (optional o) a → Contains (fragments sites) a) → MatchOption o (Unit {0}) (Contains (fragments sites))
      by None h = tt
      by (Some a) h = h a (itself a)
