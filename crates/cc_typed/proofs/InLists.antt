-- Types in lists, sums of their cells, and tables of structures.
use Rattle.std.proofs.Common.{◌≡◌, ℕ, ◌+◌, ◌<◌, suc, Bool, true, false, ◌&&◌, List, [], ◌∷◌, length, drop, get_or, refl, ap, ◌∙◌, arith}
use Rattle.std.proofs.Math.Bool.{and-false}
use Rattle.std.proofs.lemmas.List.{drop_all}
use Rattle.std.specs.Prelude.{nat_le}
use Rattle.cc_typed.specs.Sequences.{drop-at}
use Rattle.cc_typed.specs.Table.{are_fields, are_structures, cells_in, cells_in_all, is_field}
use Rattle.cc_typed.specs.Types.{is_same, is_same_all}
use Rattle.cc_typed.specs.declared.types.DataType.{DataType}
use Rattle.cc_typed.specs.declared.types.Field.{Field}
use Rattle.cc_typed.specs.declared.types.Structure.{Structure}

pub same-lengths : (ts us : List DataType) → (length ts ≡ length us → ⊥) → is_same_all ts us ≡ false
same-lengths [] [] differ = absurd (differ refl)
same-lengths [] (u ∷ us) differ = refl
same-lengths (t ∷ ts) [] differ = refl
same-lengths (t ∷ ts) (u ∷ us) differ = ap (λ b. is_same t u && b) (same-lengths ts us (λ e. differ (ap suc e))) ∙ and-false (is_same t u)

pub same-step : (ts us : List DataType) (k : ℕ) (d : DataType) → k < length ts → k < length us → is_same_all (drop k ts) (drop k us) ≡ (is_same (get_or ts k d) (get_or us k d) && is_same_all (drop (k + 1) ts) (drop (k + 1) us))
same-step ts us k d lt mt = ap (λ xs. is_same_all xs (drop k us)) (drop-at ts k d lt) ∙ ap (λ xs. is_same_all (get_or ts k d ∷ drop (k + 1) ts) xs) (drop-at us k d mt)

pub same-end : (ts us : List DataType) (k : ℕ) → k ≡ length ts → k ≡ length us → is_same_all (drop k ts) (drop k us) ≡ true
same-end ts us k e f = ap (λ xs. is_same_all xs (drop k us)) (drop_all k ts (omega (arith, e))) ∙ ap (λ xs. is_same_all [] xs) (drop_all k us (omega (arith, f)))

pub ruleset sames = (same-lengths, same-step, same-end)

pub cells-step : (structures : List Structure) (ts : List DataType) (k : ℕ) (d : DataType) → k < length ts → cells_in_all structures (drop k ts) ≡ cells_in structures (get_or ts k d) + cells_in_all structures (drop (k + 1) ts)
cells-step structures ts k d lt = ap (cells_in_all structures) (drop-at ts k d lt)

pub too-many : (b : Bool) (n most : ℕ) → most < n → (b && nat_le n most) ≡ false
too-many b n most lt = ap (λ c. b && c) (ltb-leb n most lt) ∙ and-false b
  where
    ltb-leb : (n most : ℕ) → most < n → nat_le n most ≡ false
    ltb-leb n most lt = grind arith

pub ruleset sums = (cells-step, too-many)

pub structures-step : (structures all : List Structure) (k : ℕ) (d : Structure) → k < length all
    → are_structures structures k (drop k all) ≡ (are_fields structures k 0 (get_or all k d).fields (get_or all k d).cells && are_structures structures (k + 1) (drop (k + 1) all))
structures-step structures all k d lt =
    let e : suc k ≡ k + 1 = omega arith in
    ap (are_structures structures k) (drop-at all k d lt) ∙ ap (λ n. are_fields structures k 0 (get_or all k d).fields (get_or all k d).cells && are_structures structures n (drop (k + 1) all)) e

pub ruleset tables = (structures-step)
