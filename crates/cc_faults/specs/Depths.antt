-- How deep a pure expression is: an index stands one deeper than its variable, and a right operand of arithmetic or of a comparison
-- one deeper than the operation.
use Rattle.std.specs.Prelude.{ℕ, suc, max}
use Rattle.cc_faults.specs.Phrases.{choose, negate, not_of, parenthesized, plus}
use Rattle.cc_faults.specs.declared.plain.Phrase.{Phrase, Number, Name, Chain', Arithmetic', Compare', Both', Either', Row_of-Phrase, end_of-Phrase, more_of-Phrase, Row_of-Step, end_of-Step, more_of-Step, Row_of-Operation, end_of-Operation, more_of-Operation, Row_of-Compared, end_of-Compared, more_of-Compared}
use Rattle.cc_faults.specs.declared.plain.Step.{Step, Index'}

unfoldable mutual
  pub depth_of : Phrase → ℕ
  depth_of (Number p v t) = 1
  depth_of (Name x) = 1
  depth_of (parenthesized p e) = depth_of e
  depth_of (Chain' _ (more_of-Phrase e end_of-Phrase) _ steps) = max (depth_of e) (depth_of_steps steps)
  depth_of (negate p e) = depth_of e
  depth_of (plus p e) = depth_of e
  depth_of (not_of p e) = depth_of e
  depth_of (Arithmetic' _ (more_of-Phrase a end_of-Phrase) _ rest) = max (depth_of a) (depth_of_operations rest)
  depth_of (Compare' _ (more_of-Phrase a end_of-Phrase) _ rest) = max (depth_of a) (depth_of_comparisons rest)
  depth_of (Both' _ (more_of-Phrase a end_of-Phrase) _ rest) = max (depth_of a) (depth_of_row rest)
  depth_of (Either' _ (more_of-Phrase a end_of-Phrase) _ rest) = max (depth_of a) (depth_of_row rest)
  depth_of (choose c a b) = max (depth_of c) (max (depth_of a) (depth_of b))
  -- no pure expression is made of others
  depth_of _ = 0

  pub depth_of_step : Step → ℕ
  depth_of_step (Index' _ (more_of-Phrase e end_of-Phrase)) = suc (depth_of e)
  depth_of_step _ = 0

  pub depth_of_steps : {n : _} → Row_of-Step n → ℕ
  depth_of_steps end_of-Step = 0
  depth_of_steps (more_of-Step s rest) = max (depth_of_step s) (depth_of_steps rest)

  pub depth_of_operations : {n : _} → Row_of-Operation n → ℕ
  depth_of_operations end_of-Operation = 0
  depth_of_operations (more_of-Operation o b rest) = max (suc (depth_of b)) (depth_of_operations rest)

  pub depth_of_comparisons : {n : _} → Row_of-Compared n → ℕ
  depth_of_comparisons end_of-Compared = 0
  depth_of_comparisons (more_of-Compared c b rest) = max (suc (depth_of b)) (depth_of_comparisons rest)

  pub depth_of_row : {n : _} → Row_of-Phrase n → ℕ
  depth_of_row end_of-Phrase = 0
  depth_of_row (more_of-Phrase e rest) = max (depth_of e) (depth_of_row rest)
