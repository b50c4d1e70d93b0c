-- The plain form of each expression, by the names that the code has.
use Rattle.std.proofs.Common.{◌≡◌, ℕ, List, [], ◌∷◌, ◌++◌, Option, map, pos, refl, sym, ap, ◌∙◌, append_assoc, append-nil}
use Rattle.std.specs.Prelude.{ℤ}
use Rattle.cc_base.specs.declared.names.Place.{Place}
use Rattle.cc_base.specs.declared.numbers.NumberType.TheVariants as numeric
use Rattle.cc_grammar.specs.declared.tree.EqualityStep.{EqualityStep}
use Rattle.cc_grammar.specs.declared.tree.OrderStep.{OrderStep}
use Rattle.cc_grammar.specs.declared.tree.SumStep.{SumStep}
use Rattle.cc_grammar.specs.declared.tree.TermStep.{TermStep}
use Rattle.cc_grammar.specs.declared.tree.AssignOperator.{AssignOperator}
use Rattle.cc_grammar.specs.declared.tree.Expression.{Expression, Within, Store, Choice, Disjunction, Conjunction, Equality, Order, Sum, Term, Prefixed, Postfix, Number, Character, Name, Call, Create, Putchar, Getchar, Printf, Parenthesised, Row_of-Expression, end_of-Expression, more_of-Expression, items-the_row-Expression, items_hidden-the_row-Expression-1, Row_of-EqualityStep, end_of-EqualityStep, more_of-EqualityStep, items-the_row-EqualityStep, items_hidden-the_row-EqualityStep-2, Row_of-OrderStep, end_of-OrderStep, more_of-OrderStep, items-the_row-OrderStep, items_hidden-the_row-OrderStep-3, Row_of-SumStep, end_of-SumStep, more_of-SumStep, items-the_row-SumStep, items_hidden-the_row-SumStep-4, Row_of-TermStep, end_of-TermStep, more_of-TermStep, items-the_row-TermStep, items_hidden-the_row-TermStep-5, Row_of-Step, end_of-Step, more_of-Step, items-the_row-Step, items_hidden-the_row-Step-6}
use Rattle.cc_grammar.specs.declared.tree.Expression.TheBlock as E
use Rattle.cc_grammar.specs.declared.tree.Format.{Format}
use Rattle.cc_grammar.specs.declared.tree.Identifier.{Identifier}
use Rattle.cc_grammar.specs.declared.tree.Prefix.{Prefix}
use Rattle.cc_grammar.specs.declared.tree.Step.{Step, Field as FieldStep, Call as CallStep, Index as IndexStep}
use Rattle.cc_grammar.specs.declared.tree.SuffixOperator.{SuffixOperator}
use Rattle.cc_lex.specs.declared.token.Size.{Size}
use Rattle.cc_faults.specs.declared.plain.Compared.{Compared}
use Rattle.cc_faults.specs.declared.plain.Operation.{Operation}
use Rattle.cc_faults.specs.declared.plain.Phrase.{Phrase}
use Rattle.cc_faults.specs.declared.plain.Phrase.TheVariants as phrase
use Rattle.cc_faults.specs.declared.plain.Step.{Step as PlainStep}
use Rattle.cc_faults.specs.declared.plain.Step.TheVariants as step
use Rattle.cc_names.specs.PlainLists.{equality_step, order_step, sum_step, term_step}
use Rattle.cc_names.specs.Plains.{chain, compared, equality_comparison, equality_steps, format, identifier, number_type, operation, order_comparison, order_steps, plain_expression, plain_expressions, plain_step, plain_steps, prefixed_by, storing, suffixed, sum_operation, sum_steps, term_operation, term_steps}
use denote.Hole.Carrier.{hidden}

module _ (names : List (List ℕ)) (formats : List (List ℕ)) where
  expressions-row : {n : _} (row : Row_of-Expression n) → plain_expressions names formats row ≡ map (plain_expression names formats) (items-the_row-Expression n row)
  unfolding plain_expression
  expressions-row end_of-Expression = refl
  expressions-row (more_of-Expression e rest) = ap (λ xs. (plain_expression names formats e) ∷ xs) (expressions-row rest)

  expressions-hidden : (all : List Expression) → plain_expressions names formats (E.hidden-the_row-Expression-1 all) ≡ map (plain_expression names formats) all
  expressions-hidden all = expressions-row (E.hidden-the_row-Expression-1 all) ∙ ap (map (plain_expression names formats)) (items_hidden-the_row-Expression-1 all)

  equality_steps-row : {n : _} (row : Row_of-EqualityStep n) → equality_steps names formats row ≡ map (equality_step names formats) (items-the_row-EqualityStep n row)
  unfolding plain_expression
  equality_steps-row end_of-EqualityStep = refl
  equality_steps-row (more_of-EqualityStep o e rest) = ap (λ xs. (compared (equality_comparison o) (plain_expression names formats e)) ∷ xs) (equality_steps-row rest)

  equality_steps-hidden : (all : List EqualityStep) → equality_steps names formats (E.hidden-the_row-EqualityStep-2 all) ≡ map (equality_step names formats) all
  equality_steps-hidden all = equality_steps-row (E.hidden-the_row-EqualityStep-2 all) ∙ ap (map (equality_step names formats)) (items_hidden-the_row-EqualityStep-2 all)

  order_steps-row : {n : _} (row : Row_of-OrderStep n) → order_steps names formats row ≡ map (order_step names formats) (items-the_row-OrderStep n row)
  unfolding plain_expression
  order_steps-row end_of-OrderStep = refl
  order_steps-row (more_of-OrderStep o e rest) = ap (λ xs. (compared (order_comparison o) (plain_expression names formats e)) ∷ xs) (order_steps-row rest)

  order_steps-hidden : (all : List OrderStep) → order_steps names formats (E.hidden-the_row-OrderStep-3 all) ≡ map (order_step names formats) all
  order_steps-hidden all = order_steps-row (E.hidden-the_row-OrderStep-3 all) ∙ ap (map (order_step names formats)) (items_hidden-the_row-OrderStep-3 all)

  sum_steps-row : {n : _} (row : Row_of-SumStep n) → sum_steps names formats row ≡ map (sum_step names formats) (items-the_row-SumStep n row)
  unfolding plain_expression
  sum_steps-row end_of-SumStep = refl
  sum_steps-row (more_of-SumStep o e rest) = ap (λ xs. (operation (sum_operation o) (plain_expression names formats e)) ∷ xs) (sum_steps-row rest)

  sum_steps-hidden : (all : List SumStep) → sum_steps names formats (E.hidden-the_row-SumStep-4 all) ≡ map (sum_step names formats) all
  sum_steps-hidden all = sum_steps-row (E.hidden-the_row-SumStep-4 all) ∙ ap (map (sum_step names formats)) (items_hidden-the_row-SumStep-4 all)

  term_steps-row : {n : _} (row : Row_of-TermStep n) → term_steps names formats row ≡ map (term_step names formats) (items-the_row-TermStep n row)
  unfolding plain_expression
  term_steps-row end_of-TermStep = refl
  term_steps-row (more_of-TermStep o e rest) = ap (λ xs. (operation (term_operation o) (plain_expression names formats e)) ∷ xs) (term_steps-row rest)

  term_steps-hidden : (all : List TermStep) → term_steps names formats (E.hidden-the_row-TermStep-5 all) ≡ map (term_step names formats) all
  term_steps-hidden all = term_steps-row (E.hidden-the_row-TermStep-5 all) ∙ ap (map (term_step names formats)) (items_hidden-the_row-TermStep-5 all)

  steps-row : {n : _} (row : Row_of-Step n) → plain_steps names formats row ≡ map (plain_step names formats) (items-the_row-Step n row)
  unfolding plain_expression
  steps-row end_of-Step = refl
  steps-row (more_of-Step s rest) = ap (λ xs. (plain_step names formats s) ∷ xs) (steps-row rest)

  steps-hidden : (all : List Step) → plain_steps names formats (E.hidden-the_row-Step-6 all) ≡ map (plain_step names formats) all
  steps-hidden all = steps-row (E.hidden-the_row-Step-6 all) ∙ ap (map (plain_step names formats)) (items_hidden-the_row-Step-6 all)

  pub plain-Within : (p : Place) (d m e : Expression) → plain_expression names formats (Within p d m e) ≡ phrase.Within p (plain_expression names formats d) (plain_expression names formats m) (plain_expression names formats e)
  unfolding plain_expression E.shape-the_row-Expression-0 E.hidden-the_row-Expression-0 hidden
  plain-Within p d m e = refl

  pub plain-Store : (a : Expression) (o : AssignOperator) (b : Expression) → plain_expression names formats (Store a o b) ≡ storing (plain_expression names formats a) o (plain_expression names formats b)
  unfolding plain_expression E.shape-the_row-Expression-0 E.hidden-the_row-Expression-0 hidden
  plain-Store a o b = refl

  pub plain-Choice : (c a b : Expression) → plain_expression names formats (Choice c a b) ≡ phrase.Choose (plain_expression names formats c) (plain_expression names formats a) (plain_expression names formats b)
  unfolding plain_expression E.shape-the_row-Expression-0 E.hidden-the_row-Expression-0 hidden
  plain-Choice c a b = refl

  pub plain-Disjunction : (a : Expression) (rest : List Expression) → plain_expression names formats (Disjunction a rest) ≡ phrase.Either (plain_expression names formats a) (map (plain_expression names formats) rest)
  unfolding plain_expression E.shape-the_row-Expression-0 E.hidden-the_row-Expression-0 hidden
  plain-Disjunction a rest = ap (λ xs. phrase.Either (plain_expression names formats a) xs) (expressions-hidden rest)

  pub plain-Conjunction : (a : Expression) (rest : List Expression) → plain_expression names formats (Conjunction a rest) ≡ phrase.Both (plain_expression names formats a) (map (plain_expression names formats) rest)
  unfolding plain_expression E.shape-the_row-Expression-0 E.hidden-the_row-Expression-0 hidden
  plain-Conjunction a rest = ap (λ xs. phrase.Both (plain_expression names formats a) xs) (expressions-hidden rest)

  pub plain-Equality : (a : Expression) (rest : List EqualityStep) → plain_expression names formats (Equality a rest) ≡ phrase.Compare (plain_expression names formats a) (map (equality_step names formats) rest)
  unfolding plain_expression E.shape-the_row-Expression-0 E.hidden-the_row-Expression-0 hidden
  plain-Equality a rest = ap (λ xs. phrase.Compare (plain_expression names formats a) xs) (equality_steps-hidden rest)

  pub plain-Order : (a : Expression) (rest : List OrderStep) → plain_expression names formats (Order a rest) ≡ phrase.Compare (plain_expression names formats a) (map (order_step names formats) rest)
  unfolding plain_expression E.shape-the_row-Expression-0 E.hidden-the_row-Expression-0 hidden
  plain-Order a rest = ap (λ xs. phrase.Compare (plain_expression names formats a) xs) (order_steps-hidden rest)

  pub plain-Sum : (a : Expression) (rest : List SumStep) → plain_expression names formats (Sum a rest) ≡ phrase.Arithmetic (plain_expression names formats a) (map (sum_step names formats) rest)
  unfolding plain_expression E.shape-the_row-Expression-0 E.hidden-the_row-Expression-0 hidden
  plain-Sum a rest = ap (λ xs. phrase.Arithmetic (plain_expression names formats a) xs) (sum_steps-hidden rest)

  pub plain-Term : (a : Expression) (rest : List TermStep) → plain_expression names formats (Term a rest) ≡ phrase.Arithmetic (plain_expression names formats a) (map (term_step names formats) rest)
  unfolding plain_expression E.shape-the_row-Expression-0 E.hidden-the_row-Expression-0 hidden
  plain-Term a rest = ap (λ xs. phrase.Arithmetic (plain_expression names formats a) xs) (term_steps-hidden rest)

  pub plain-Prefixed : (x : Prefix) (e : Expression) → plain_expression names formats (Prefixed x e) ≡ prefixed_by x.place x.operator (plain_expression names formats e)
  unfolding plain_expression E.shape-the_row-Expression-0 E.hidden-the_row-Expression-0 hidden
  plain-Prefixed x e = refl

  pub plain-Postfix : (e : Expression) (steps : List Step) (suffix : Option SuffixOperator) → plain_expression names formats (Postfix e steps suffix) ≡ suffixed (chain (plain_expression names formats e) (map (plain_step names formats) steps)) suffix
  unfolding plain_expression E.shape-the_row-Expression-0 E.hidden-the_row-Expression-0 hidden
  plain-Postfix e steps suffix = ap (λ xs. suffixed (chain (plain_expression names formats e) xs) suffix) (steps-hidden steps)

  pub plain-Number : (p : Place) (n : ℤ) (s : Size) → plain_expression names formats (Number p n s) ≡ phrase.Number p n (number_type s)
  unfolding plain_expression
  plain-Number p n s = refl

  pub plain-Character : (p : Place) (n : ℕ) → plain_expression names formats (Character p n) ≡ phrase.Number p (pos n) numeric.Int
  unfolding plain_expression
  plain-Character p n = refl

  pub plain-Name : (x : Identifier) → plain_expression names formats (Name x) ≡ phrase.Name (identifier names formats x)
  unfolding plain_expression
  plain-Name x = refl

  pub plain-Call : (x : Identifier) (args : List Expression) → plain_expression names formats (Call x args) ≡ phrase.Call (identifier names formats x) (map (plain_expression names formats) args)
  unfolding plain_expression E.shape-the_row-Expression-0 E.hidden-the_row-Expression-0 hidden
  plain-Call x args = ap (λ xs. phrase.Call (identifier names formats x) xs) (expressions-hidden args)

  pub plain-Create : (p : Place) (x : Identifier) (args : List Expression) → plain_expression names formats (Create p x args) ≡ phrase.Create p (identifier names formats x) (map (plain_expression names formats) args)
  unfolding plain_expression E.shape-the_row-Expression-0 E.hidden-the_row-Expression-0 hidden
  plain-Create p x args = ap (λ xs. phrase.Create p (identifier names formats x) xs) (expressions-hidden args)

  pub plain-Putchar : (p : Place) (e : Expression) → plain_expression names formats (Putchar p e) ≡ phrase.PutChar p (plain_expression names formats e)
  unfolding plain_expression E.shape-the_row-Expression-0 E.hidden-the_row-Expression-0 hidden
  plain-Putchar p e = refl

  pub plain-Getchar : (p : Place) → plain_expression names formats (Getchar p) ≡ phrase.GetChar p
  unfolding plain_expression
  plain-Getchar p = refl

  pub plain-Printf : (p : Place) (f : Format) (args : List Expression) → plain_expression names formats (Printf p f args) ≡ phrase.PrintFormat p (format names formats f) (map (plain_expression names formats) args)
  unfolding plain_expression E.shape-the_row-Expression-0 E.hidden-the_row-Expression-0 hidden
  plain-Printf p f args = ap (λ xs. phrase.PrintFormat p (format names formats f) xs) (expressions-hidden args)

  pub plain-Parenthesised : (p : Place) (e : Expression) → plain_expression names formats (Parenthesised p e) ≡ phrase.Parenthesized p (plain_expression names formats e)
  unfolding plain_expression E.shape-the_row-Expression-0 E.hidden-the_row-Expression-0 hidden
  plain-Parenthesised p e = refl

  pub step-Field : (x : Identifier) → plain_step names formats (FieldStep x) ≡ step.Field (identifier names formats x)
  unfolding plain_expression
  step-Field x = refl

  pub step-Call : (x : Identifier) (args : List Expression) → plain_step names formats (CallStep x args) ≡ step.Call (identifier names formats x) (map (plain_expression names formats) args)
  unfolding plain_expression
  step-Call x args = ap (λ xs. step.Call (identifier names formats x) xs) (expressions-hidden args)

  pub step-Index : (e : Expression) → plain_step names formats (IndexStep e) ≡ step.Index (plain_expression names formats e)
  unfolding plain_expression E.shape-the_row-Expression-0 E.hidden-the_row-Expression-0 hidden
  step-Index e = refl

pub ruleset plain_phrases = (plain-Within, plain-Store, plain-Choice, plain-Disjunction, plain-Conjunction, plain-Equality, plain-Order, plain-Sum, plain-Term, plain-Prefixed, plain-Postfix, plain-Number, plain-Character, plain-Name, plain-Call, plain-Create, plain-Putchar, plain-Getchar, plain-Printf, plain-Parenthesised, step-Field, step-Call, step-Index)
