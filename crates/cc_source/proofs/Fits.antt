-- Accepts without clauses: a call fits where it has the number of cells.
use Rattle.std.proofs.Common.{◌≡◌, ℕ, ℤ, pos, Bool, true, ◌&&◌, nat_eq, List, [], ◌∷◌, length, Option, Some, None, refl}
use Rattle.std.specs.Prelude.{slice_get, if◌then◌else◌}
use Rattle.cc_typed.specs.Missing.{parameters_at}
use Rattle.cc_typed.specs.Parts.{Parts}
use Rattle.cc_source.specs.Programs.{cells_all, fit, site_rank}
use Rattle.cc_source.specs.Straight.{is_nothing, is_straight_site}
use Rattle.cc_typed.specs.Sequences.{is_empty}
use Rattle.cc_typed.specs.Table.{element_within}
use Rattle.cc_typed.specs.Values.{zero_of}
use Rattle.cc_typed.specs.declared.tree.Site.{Site}

nothing : {X : Type 0} (o : Option X) (test : Option X → Bool) → test o ≡ true → Unit {0}
nothing o test e = tt

-- the rank at a site without clauses
pub straight-rank : (p : Parts) (s : Site) (env args : List ℤ) → is_straight_site s ≡ true
    → site_rank p (Some s) env args
    ≡ (if nat_eq (length args) (cells_all p (parameters_at (slice_get p.transactions s.transaction))) && nat_eq (length env) 0 then Some (pos 0) else None)
unfolding zero_of element_within
straight-rank p s env args h = go s.such_that s.least_by s.environment refl refl refl h
  where
    go : (such least : _) (xs : List ℕ) → s.such_that ≡ such → s.least_by ≡ least → s.environment ≡ xs
        → (is_nothing such && is_nothing least && is_empty xs) ≡ true
        → site_rank p (Some s) env args ≡ (if nat_eq (length args) (cells_all p (parameters_at (slice_get p.transactions s.transaction))) && nat_eq (length env) 0 then Some (pos 0) else None)
    go None None [] a b c h = rw a (rw b (rw c refl))
    go None None (x ∷ xs) a b c h = cc
    go None (Some e) xs a b c h = cc
    go (Some e) least xs a b c h = cc

pub fit-is : (p : Parts) (site : ℕ) (env args : List ℤ) → fit p site env args ≡ site_rank p (slice_get p.sites site) env args
unfolding fit
fit-is p site env args = refl

pub ruleset fitting = (straight-rank, fit-is)
