-- The clauses of an accept: pure expressions, and the variables that they name.
use Rattle.std.specs.Prelude.{ℕ, ◌-◌, Bool, true, false, ◌&&◌, ◌||◌, if◌then◌else◌, nat_eq, nat_le, nat_lt, List, [], ◌∷◌, ◌++◌, Option, None, Some}
use Rattle.cc_typed.specs.Phrases.{negate, not_of, plus, parenthesized, choose}
use Rattle.cc_typed.specs.declared.clauses.Own.{Own}
use Rattle.cc_typed.specs.declared.tree.Expression.{Expression, Constant, Read', Arithmetic', Compare', Both', Either', end_of-Expression, more_of-Expression, Row_of-Expression, Row_of-PartStep, end_of-PartStep, more_of-PartStep, Row_of-Operation, end_of-Operation, more_of-Operation, Row_of-Compared, end_of-Compared, more_of-Compared}
use Rattle.cc_typed.specs.declared.tree.PartStep.{PartStep, Field, Element}

-- pure, and of a depth of at most n: a constant and a variable have depth 1, an index and the right operand of an operation
-- stand one deeper
unfoldable mutual
  pub is_pure_part : ℕ → PartStep → Bool
  is_pure_part n (Field k t) = true
  is_pure_part n (Element e t) = is_pure n e

  pub are_pure_parts : {m : _} → ℕ → Row_of-PartStep m → Bool
  are_pure_parts n end_of-PartStep = true
  are_pure_parts n (more_of-PartStep s rest) = is_pure_part n s && are_pure_parts n rest

  pub is_pure : ℕ → Expression → Bool
  is_pure n (Constant v t) = nat_lt 0 n
  is_pure n (Read' x t _ steps u) = nat_lt 0 n && are_pure_parts (n - 1) steps
  is_pure n (negate e t) = is_pure n e
  is_pure n (not_of e) = is_pure n e
  is_pure n (plus e t) = is_pure n e
  is_pure n (parenthesized e t) = is_pure n e
  is_pure n (Arithmetic' _ (more_of-Expression a end_of-Expression) _ rest t) = is_pure n a && are_pure_operations (n - 1) rest
  is_pure n (Compare' _ (more_of-Expression a end_of-Expression) _ rest) = is_pure n a && are_pure_comparisons (n - 1) rest
  is_pure n (Both' _ (more_of-Expression a end_of-Expression) _ rest) = is_pure n a && are_pure n rest
  is_pure n (Either' _ (more_of-Expression a end_of-Expression) _ rest) = is_pure n a && are_pure n rest
  is_pure n (choose c a b t) = is_pure n c && is_pure n a && is_pure n b
  is_pure n _ = false

  pub are_pure_operations : {m : _} → ℕ → Row_of-Operation m → Bool
  are_pure_operations n end_of-Operation = true
  are_pure_operations n (more_of-Operation o b t rest) = is_pure n b && are_pure_operations n rest

  pub are_pure_comparisons : {m : _} → ℕ → Row_of-Compared m → Bool
  are_pure_comparisons n end_of-Compared = true
  are_pure_comparisons n (more_of-Compared o b rest) = is_pure n b && are_pure_comparisons n rest

  pub are_pure : {m : _} → ℕ → Row_of-Expression m → Bool
  are_pure n end_of-Expression = true
  are_pure n (more_of-Expression b rest) = is_pure n b && are_pure n rest

abbrev pub is_among : List ℕ → ℕ → Bool
is_among [] x = false
is_among (y ∷ ys) x = nat_eq y x || is_among ys x

-- the variable is one of an accept's own
abbrev pub is_own : Own → ℕ → Bool
is_own own x = nat_le own.first x && nat_lt (x - own.first) own.count

-- the variables seen so far and this one, unless it is among them or is the accept's own
abbrev pub noted : Own → List ℕ → ℕ → List ℕ
noted own seen x = if is_own own x || is_among seen x then seen else seen ++ x ∷ []

-- the variables seen so far and those of a pure expression, in the order of first mention
unfoldable mutual
  pub part_noted : Own → List ℕ → PartStep → List ℕ
  part_noted own seen (Field k t) = seen
  part_noted own seen (Element e t) = all_noted own seen e

  pub parts_noted : {m : _} → Own → List ℕ → Row_of-PartStep m → List ℕ
  parts_noted own seen end_of-PartStep = seen
  parts_noted own seen (more_of-PartStep s rest) = parts_noted own (part_noted own seen s) rest

  pub all_noted : Own → List ℕ → Expression → List ℕ
  all_noted own seen (Read' x t _ steps u) = parts_noted own (noted own seen x) steps
  all_noted own seen (negate e t) = all_noted own seen e
  all_noted own seen (not_of e) = all_noted own seen e
  all_noted own seen (plus e t) = all_noted own seen e
  all_noted own seen (parenthesized e t) = all_noted own seen e
  all_noted own seen (Arithmetic' _ (more_of-Expression a end_of-Expression) _ rest t) = operations_noted own (all_noted own seen a) rest
  all_noted own seen (Compare' _ (more_of-Expression a end_of-Expression) _ rest) = comparisons_noted own (all_noted own seen a) rest
  all_noted own seen (Both' _ (more_of-Expression a end_of-Expression) _ rest) = row_noted own (all_noted own seen a) rest
  all_noted own seen (Either' _ (more_of-Expression a end_of-Expression) _ rest) = row_noted own (all_noted own seen a) rest
  all_noted own seen (choose c a b t) = all_noted own (all_noted own (all_noted own seen c) a) b
  all_noted own seen _ = seen

  pub operations_noted : {m : _} → Own → List ℕ → Row_of-Operation m → List ℕ
  operations_noted own seen end_of-Operation = seen
  operations_noted own seen (more_of-Operation o b t rest) = operations_noted own (all_noted own seen b) rest

  pub comparisons_noted : {m : _} → Own → List ℕ → Row_of-Compared m → List ℕ
  comparisons_noted own seen end_of-Compared = seen
  comparisons_noted own seen (more_of-Compared o b rest) = comparisons_noted own (all_noted own seen b) rest

  pub row_noted : {m : _} → Own → List ℕ → Row_of-Expression m → List ℕ
  row_noted own seen end_of-Expression = seen
  row_noted own seen (more_of-Expression b rest) = row_noted own (all_noted own seen b) rest

abbrev pub clause_noted : Own → List ℕ → Option Expression → List ℕ
clause_noted own seen None = seen
clause_noted own seen (Some e) = all_noted own seen e

abbrev pub are_numbers : List ℕ → List ℕ → Bool
are_numbers [] [] = true
are_numbers [] (y ∷ ys) = false
are_numbers (x ∷ xs) [] = false
are_numbers (x ∷ xs) (y ∷ ys) = nat_eq x y && are_numbers xs ys
