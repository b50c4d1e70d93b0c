-- That what is found is typed.
use Rattle.std.specs.List.{list_all}
use Rattle.std.specs.Prelude.{◌≡◌, ◌+◌, ◌&&◌, ℕ, zero, suc, Bool, true, false, List, [], ◌∷◌, length, slice_get, Some}
use Rattle.cc_typed.specs.Parts.{Parts}
use Rattle.cc_faults.specs.Judged.{Judged, faults, found}
use Rattle.cc_faults.specs.Scopes.{Scope}
use Rattle.cc_typed.specs.Missing.{parameters_at}
use Rattle.cc_typed.specs.Sequences.{is_empty}
use Rattle.cc_typed.specs.Typed.{Surroundings, is_called, is_place, is_typed, is_typed_program, is_typed_site}
use Rattle.cc_typed.specs.TypedLists.{arguments_typed, is_part_first, is_typed_location, steps_typed}
use Rattle.cc_typed.specs.Types.{type_of}
use Rattle.cc_typed.specs.declared.tree.ChainStep.{ChainStep}
use Rattle.cc_typed.specs.declared.tree.Expression.{Expression}
use Rattle.cc_typed.specs.declared.types.DataType.{DataType}
use Rattle.cc_faults.specs.declared.scope.Found.{Found}
use Rattle.cc_faults.specs.declared.scope.Found.TheVariants as found

module _ (a : Surroundings) where
  -- a typed expression with typed steps behind it that lead to this type; a part of a place is a place
  abbrev pub IsRow : Expression → List ChainStep → DataType → Type 0
  IsRow e steps t =
      (is_typed a e ≡ true) × (steps_typed a (type_of e) steps t ≡ true) × ((is_place e && is_part_first steps) ≡ false)

  -- what is found is typed, and no value is a place
  abbrev pub IsFound : Found → Type 0
  IsFound (found.Place l) = is_typed_location a l ≡ true
  IsFound (found.Value e) = (is_typed a e ≡ true) × (is_place e ≡ false)
  IsFound (found.Chain e steps t) = IsRow e steps t × (is_empty steps ≡ false)
  IsFound (found.Call e steps process trans args t) =
      IsRow e steps process
      × (is_called (slice_get a.parts.transactions trans) process t ≡ true)
      × (arguments_typed a args (parameters_at (slice_get a.parts.transactions trans)) ≡ true)

-- so many numbers, from this one on
abbrev pub counted : ℕ → ℕ → List ℕ
counted n zero = []
counted n (suc k) = n ∷ counted (suc n) k

-- the numbers from the first to the second
abbrev pub AreNumbered : ℕ → ℕ → List ℕ → Type 0
AreNumbered n m xs = (k : ℕ) × (xs ≡ counted n k) × (n + k ≡ m)

-- what is made between two points of a text is typed, and so are the sites, of which it has each once
abbrev pub IsSound : Parts → Scope → Scope → Bool → List ℕ → Type 0
IsSound p s r typed sites =
    (typed ≡ true)
    × (list_all (is_typed_site p) s.sites ≡ true → list_all (is_typed_site p) r.sites ≡ true)
    × AreNumbered (length s.sites) (length r.sites) sites

-- without a fault it means a program, which is typed
abbrev pub MeansTyped : Judged Parts → Type 0
MeansTyped j = faults j ≡ [] → (p : Parts) × (found j ≡ Some p) × (is_typed_program p ≡ true)
