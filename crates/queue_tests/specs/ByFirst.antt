-- A program of the tests, of which nothing runs: its accept site 0 takes every call, and site 1 ranks a call by its first cell.
use Rattle.std.specs.Prelude.{ℕ, ℤ, pos, if◌then◌else◌, List, [], ◌∷◌, slice_get, Option, Some, None, nat_eq, refl, true}
use Rattle.std.proofs.Common.{◌∙◌, arith}
use Rattle.std.proofs.lemmas.Bool.{cond-false, ne_eqb}
use Rattle.cc_base.specs.Meaning.{Meaning}
use Rattle.cc_base.specs.Requests.{HasSites, WellFormed}
use Rattle.cc_base.specs.declared.names.Shape.{Shape}
use Rattle.cc_base.specs.declared.request.Request.TheVariants.{Done}

abbrev pub fit_first : ℕ → List ℤ → List ℤ → Option ℤ
fit_first site env args = if nat_eq site 0 then Some (pos 0) else (if nat_eq site 1 then slice_get args 0 else None)

abbrev pub two_cells : Shape
two_cells = record { is_async = true; args = 2; value = 0 }

abbrev pub by_first : Meaning
by_first = record { kinds = 0 ∷ []; shapes = two_cells ∷ []; act = λ kind args grants. Done; fit = fit_first }

pub by_first_well_formed : WellFormed by_first
by_first_well_formed = record { main = refl; requests = λ kind args grants exists proper. tt }

pub by_first_has_sites : HasSites by_first 2
by_first_has_sites =
    record {
      names = λ kind args grants exists proper. tt;
      fits = λ site env args past.
          cond-false (nat_eq site 0) (Some (pos 0)) (if nat_eq site 1 then slice_get args 0 else None) (ne_eqb site 0 (λ e. omega arith))
          ∙ cond-false (nat_eq site 1) (slice_get args 0) None (ne_eqb site 1 (λ e. omega arith));
    }
