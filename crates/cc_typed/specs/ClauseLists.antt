-- The variables that phrases in a list name.
use Rattle.std.specs.Prelude.{ℕ, List, [], ◌∷◌}
use Rattle.cc_typed.specs.Clauses.{all_noted, part_noted}
use Rattle.cc_typed.specs.declared.clauses.Own.{Own}
use Rattle.cc_typed.specs.declared.tree.Compared.{Compared}
use Rattle.cc_typed.specs.declared.tree.Expression.{Expression}
use Rattle.cc_typed.specs.declared.tree.Operation.{Operation}
use Rattle.cc_typed.specs.declared.tree.PartStep.{PartStep}

abbrev pub operations_noted_in : Own → List ℕ → List Operation → List ℕ
operations_noted_in own seen [] = seen
operations_noted_in own seen (o ∷ rest) = operations_noted_in own (all_noted own seen o.operand) rest

abbrev pub comparisons_noted_in : Own → List ℕ → List Compared → List ℕ
comparisons_noted_in own seen [] = seen
comparisons_noted_in own seen (c ∷ rest) = comparisons_noted_in own (all_noted own seen c.operand) rest

abbrev pub row_noted_in : Own → List ℕ → List Expression → List ℕ
row_noted_in own seen [] = seen
row_noted_in own seen (e ∷ rest) = row_noted_in own (all_noted own seen e) rest

abbrev pub parts_noted_in : Own → List ℕ → List PartStep → List ℕ
parts_noted_in own seen [] = seen
parts_noted_in own seen (s ∷ rest) = parts_noted_in own (part_noted own seen s) rest
