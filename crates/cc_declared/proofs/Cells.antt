-- Sums of the cells of types in order, and the fields with these types.
use Rattle.std.proofs.Common.{◌≡◌, ℕ, ◌+◌, ◌<◌, ◌≤◌, List, [], ◌∷◌, length, drop, get_or, ap}
use Rattle.std.proofs.lemmas.List.{drop_all}
use Rattle.cc_typed.specs.Sequences.{drop-at}
use Rattle.cc_typed.specs.Table.{cells_in, cells_in_all}
use Rattle.cc_typed.specs.declared.types.DataType.{DataType}
use Rattle.cc_typed.specs.declared.types.Structure.{Structure}
use Rattle.cc_faults.specs.Declarations.{laid_out}

module _ (structures : List Structure) (ts : List DataType) (k : ℕ) where
  pub cells-step : (d : DataType) → k < length ts → cells_in_all structures (drop k ts) ≡ cells_in structures (get_or ts k d) + cells_in_all structures (drop (k + 1) ts)
  cells-step d lt = ap (cells_in_all structures) (drop-at ts k d lt)

  pub cells-end : length ts ≤ k → cells_in_all structures (drop k ts) ≡ 0
  cells-end le = ap (cells_in_all structures) (drop_all k ts le)

  pub laid-step : (n : ℕ) (d : DataType) → k < length ts → laid_out structures n (drop k ts) ≡ record { data_type = get_or ts k d; offset = n } ∷ laid_out structures (n + cells_in structures (get_or ts k d)) (drop (k + 1) ts)
  laid-step n d lt = ap (laid_out structures n) (drop-at ts k d lt)

  pub laid-end : (n : ℕ) → length ts ≤ k → laid_out structures n (drop k ts) ≡ []
  laid-end n le = ap (laid_out structures n) (drop_all k ts le)

pub ruleset sums = (cells-step, cells-end, laid-step, laid-end)
