-- A program that prints one byte after the other: the tests have it, to show that programs need no text.
use Rattle.std.specs.Prelude.{ℕ, ◌-◌, List, [], ◌∷◌, length, slice_get, Option, Some, None, refl, false}
use Rattle.cc_base.specs.Meaning.{Meaning}
use Rattle.cc_base.specs.Requests.{HasSites, IsRequestOf, NamesSites, WellFormed}
use Rattle.cc_base.specs.declared.names.Shape.{Shape}
use Rattle.cc_base.specs.declared.request.Request.{Request}
use Rattle.cc_base.specs.declared.request.Request.TheVariants.{Print, Done}

abbrev pub print_or_done : Option ℕ → Request
print_or_done (Some byte) = Print (byte ∷ [])
print_or_done None = Done

-- a transaction that no one calls
abbrev pub one_cell : Shape
one_cell = record { is_async = false; args = 1; value = 1 }

-- each grant lets the next byte be asked
abbrev pub printing : List ℕ → Meaning
printing bytes =
    record {
      kinds = 0 ∷ [];
      shapes = one_cell ∷ [];
      act = λ kind args grants. print_or_done (slice_get bytes (length grants - 1));
      fit = λ site env args. None;
    }

pub printing_well_formed : (bytes : List ℕ) → WellFormed (printing bytes)
printing_well_formed bytes = record { main = refl; requests = λ kind args grants exists proper. asked (slice_get bytes (length grants - 1)) }
  where
    asked : (byte : Option ℕ) → IsRequestOf (printing bytes) (print_or_done byte)
    asked (Some byte) = tt
    asked None = tt

pub printing_has_sites : (bytes : List ℕ) → HasSites (printing bytes) 0
printing_has_sites bytes =
    record {
      names = λ kind args grants exists proper. asked (slice_get bytes (length grants - 1));
      fits = λ site env args past. refl;
    }
  where
    asked : (byte : Option ℕ) → NamesSites 0 (print_or_done byte)
    asked (Some byte) = tt
    asked None = tt
