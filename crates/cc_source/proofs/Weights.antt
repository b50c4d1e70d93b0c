-- A number that falls from a straight phrase to its parts.
use Rattle.std.proofs.Common.{◌≡◌, ℕ, ◌+◌, ◌<◌, zero, suc, List, [], ◌∷◌, length, get_or, refl, ap, ◌∙◌, arith}
use Rattle.cc_typed.specs.Phrases.{parenthesized, put_char}
use Rattle.cc_typed.specs.declared.tree.AcceptPart.{AcceptPart}
use Rattle.cc_typed.specs.declared.tree.Argument.{Argument}
use Rattle.cc_typed.specs.declared.tree.ChainStep.{ChainStep, Call, Call', Row_of-Argument, end_of-Argument, more_of-Argument, items-the_row-Argument, items_hidden-the_row-Argument-0}
use Rattle.cc_typed.specs.declared.tree.ChainStep.TheBlock as E
use Rattle.cc_typed.specs.declared.tree.Choice.TheBlock as S
use Rattle.cc_typed.specs.declared.tree.Expression.{Expression, Assign, Assign', Chain, Chain', CreateProcess, CreateProcess', Parenthesized, PutChar, end_of-Expression, more_of-Expression, Row_of-ChainStep, end_of-ChainStep, more_of-ChainStep, items-the_row-ChainStep, items_hidden-the_row-ChainStep-3}
use Rattle.cc_typed.specs.declared.tree.Location.{Location}
use Rattle.cc_typed.specs.declared.tree.Statement.{Statement, Block, Block', Accept, Accept', Row_of-Statement, end_of-Statement, more_of-Statement, items-the_row-Statement, items_hidden-the_row-Statement-0}
use Rattle.cc_typed.specs.declared.types.DataType.{DataType}
use denote.Hole.Carrier.{hidden}

unfoldable mutual
  pub weight : Expression → ℕ
  weight (Chain' _ (more_of-Expression e end_of-Expression) _ steps u) = 1 + weight e + steps_weight steps
  weight (parenthesized e t) = 1 + weight e
  weight (Assign' x t _ steps u _ (more_of-Expression e end_of-Expression)) = 1 + weight e
  weight (CreateProcess' k _ args) = 2 + row_weight args
  weight (put_char e) = 1 + weight e
  weight _ = 1

  pub step_weight : ChainStep → ℕ
  step_weight (Call' trans _ args u) = 1 + row_weight args
  step_weight _ = 1

  steps_weight : {n : _} → Row_of-ChainStep n → ℕ
  steps_weight end_of-ChainStep = 0
  steps_weight (more_of-ChainStep s rest) = 1 + step_weight s + steps_weight rest

  row_weight : {n : _} → Row_of-Argument n → ℕ
  row_weight end_of-Argument = 0
  row_weight (more_of-Argument e t rest) = 1 + weight e + row_weight rest

unfoldable pub weights : List Argument → ℕ
weights [] = 0
weights (a ∷ rest) = 1 + weight a.value + weights rest

unfoldable pub step_weights : List ChainStep → ℕ
step_weights [] = 0
step_weights (s ∷ rest) = 1 + step_weight s + step_weights rest

weights-row : {n : _} (row : Row_of-Argument n) → row_weight row ≡ weights (items-the_row-Argument n row)
unfolding weight weights
weights-row end_of-Argument = refl
weights-row (more_of-Argument e t rest) = ap (λ k. 1 + weight e + k) (weights-row rest)

weights-hidden : (args : List Argument) → row_weight (E.hidden-the_row-Argument-0 args) ≡ weights args
weights-hidden args = weights-row (E.hidden-the_row-Argument-0 args) ∙ ap weights (items_hidden-the_row-Argument-0 args)

step_weights-row : {n : _} (row : Row_of-ChainStep n) → steps_weight row ≡ step_weights (items-the_row-ChainStep n row)
unfolding weight step_weights
step_weights-row end_of-ChainStep = refl
step_weights-row (more_of-ChainStep s rest) = ap (λ k. 1 + step_weight s + k) (step_weights-row rest)

step_weights-hidden : (steps : List ChainStep) → steps_weight (E.hidden-the_row-ChainStep-3 steps) ≡ step_weights steps
step_weights-hidden steps = step_weights-row (E.hidden-the_row-ChainStep-3 steps) ∙ ap step_weights (items_hidden-the_row-ChainStep-3 steps)

pub weight-Chain : (e : Expression) (steps : List ChainStep) (u : DataType) → weight (Chain e steps u) ≡ 1 + weight e + step_weights steps
unfolding weight E.shape-the_row-Expression-2 E.hidden-the_row-Expression-2 hidden
weight-Chain e steps u = ap (λ n. 1 + weight e + n) (step_weights-hidden steps)

pub weight-Parenthesized : (e : Expression) (t : DataType) → weight (Parenthesized e t) ≡ 1 + weight e
unfolding weight E.shape-the_row-Expression-2 E.hidden-the_row-Expression-2 hidden
weight-Parenthesized e t = refl

pub weight-Assign : (l : Location) (e : Expression) → weight (Assign l e) ≡ 1 + weight e
unfolding weight E.shape-the_row-Expression-2 E.hidden-the_row-Expression-2 hidden
weight-Assign l e = refl

pub weight-PutChar : (e : Expression) → weight (PutChar e) ≡ 1 + weight e
unfolding weight E.shape-the_row-Expression-2 E.hidden-the_row-Expression-2 hidden
weight-PutChar e = refl

pub weight-CreateProcess : (k : ℕ) (args : List Argument) → weight (CreateProcess k args) ≡ 2 + weights args
unfolding weight
weight-CreateProcess k args = ap (λ n. 2 + n) (weights-hidden args)

pub step_weight-Call : (trans : ℕ) (args : List Argument) (u : DataType) → step_weight (Call trans args u) ≡ 1 + weights args
unfolding weight
step_weight-Call trans args u = ap (λ n. 1 + n) (weights-hidden args)

pub weights-member : (args : List Argument) (k : ℕ) (d : Argument) → k < length args → weight (get_or args k d).value < weights args
unfolding weights
weights-member [] k d lt = absurd (omega arith)
weights-member (a ∷ rest) zero d lt = omega arith
weights-member (a ∷ rest) (suc k) d lt = omega (arith, weights-member rest k d (omega arith))

pub step_weights-member : (steps : List ChainStep) (k : ℕ) (d : ChainStep) → k < length steps → step_weight (get_or steps k d) < step_weights steps
unfolding step_weights
step_weights-member [] k d lt = absurd (omega arith)
step_weights-member (s ∷ rest) zero d lt = omega arith
step_weights-member (s ∷ rest) (suc k) d lt = omega (arith, step_weights-member rest k d (omega arith))

unfoldable mutual
  pub statement_weight : Statement → ℕ
  statement_weight (Block' _ all) = 1 + row_statement_weight all
  statement_weight (Accept' site _ block) = 2 + row_statement_weight block
  statement_weight _ = 1

  row_statement_weight : {n : _} → Row_of-Statement n → ℕ
  row_statement_weight end_of-Statement = 0
  row_statement_weight (more_of-Statement s rest) = 1 + statement_weight s + row_statement_weight rest

unfoldable pub statement_weights : List Statement → ℕ
statement_weights [] = 0
statement_weights (s ∷ rest) = 1 + statement_weight s + statement_weights rest

statement_weights-row : {n : _} (row : Row_of-Statement n) → row_statement_weight row ≡ statement_weights (items-the_row-Statement n row)
unfolding statement_weight statement_weights
statement_weights-row end_of-Statement = refl
statement_weights-row (more_of-Statement s rest) = ap (λ k. 1 + statement_weight s + k) (statement_weights-row rest)

statement_weights-hidden : (all : List Statement) → row_statement_weight (S.hidden-the_row-Statement-0 all) ≡ statement_weights all
statement_weights-hidden all = statement_weights-row (S.hidden-the_row-Statement-0 all) ∙ ap statement_weights (items_hidden-the_row-Statement-0 all)

pub statement_weight-Block : (all : List Statement) → statement_weight (Block all) ≡ 1 + statement_weights all
unfolding statement_weight
statement_weight-Block all = ap (λ k. 1 + k) (statement_weights-hidden all)

pub statement_weight-Accept : (part : AcceptPart) → statement_weight (Accept part) ≡ 2 + statement_weights part.block
unfolding statement_weight
statement_weight-Accept part = ap (λ k. 2 + k) (statement_weights-hidden part.block)

pub statement_weights-member : (all : List Statement) (k : ℕ) (d : Statement) → k < length all → statement_weight (get_or all k d) < statement_weights all
unfolding statement_weights
statement_weights-member [] k d lt = absurd (omega arith)
statement_weights-member (s ∷ rest) zero d lt = omega arith
statement_weights-member (s ∷ rest) (suc k) d lt = omega (arith, statement_weights-member rest k d (omega arith))

pub ruleset weighs =
    (weight-Chain, weight-Parenthesized, weight-Assign, weight-PutChar, weight-CreateProcess, step_weight-Call, weights-member, step_weights-member, statement_weight-Block, statement_weight-Accept, statement_weights-member)
