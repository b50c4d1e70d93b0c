-- What is mentioned after parts in a row, and what each expression mentions, by the names that the code has.
use Rattle.std.proofs.Common.{◌≡◌, ℕ, ◌+◌, ◌<◌, ◌≤◌, List, [], ◌∷◌, ◌++◌, Option, length, drop, get_or, refl, sym, ap, ◌∙◌, append_assoc, append-nil}
use Rattle.std.proofs.lemmas.List.{drop_all}
use Rattle.std.specs.Prelude.{ℤ}
use Rattle.cc_base.specs.declared.names.Place.{Place}
use Rattle.cc_grammar.specs.declared.tree.AssignOperator.{AssignOperator}
use Rattle.cc_grammar.specs.declared.tree.EqualityStep.{EqualityStep}
use Rattle.cc_grammar.specs.declared.tree.OrderStep.{OrderStep}
use Rattle.cc_grammar.specs.declared.tree.SumStep.{SumStep}
use Rattle.cc_grammar.specs.declared.tree.TermStep.{TermStep}
use Rattle.cc_grammar.specs.declared.tree.Step.{Step}
use Rattle.cc_grammar.specs.declared.tree.Step as step
use Rattle.cc_grammar.specs.declared.tree.Expression.{Expression, Within, Store, Choice, Disjunction, Conjunction, Equality, Order, Sum, Term, Prefixed, Postfix, Number, Character, Name, Call, Create, Putchar, Getchar, Printf, Parenthesised, Row_of-Expression, end_of-Expression, more_of-Expression, items-the_row-Expression, items_hidden-the_row-Expression-1, Row_of-EqualityStep, end_of-EqualityStep, more_of-EqualityStep, items-the_row-EqualityStep, items_hidden-the_row-EqualityStep-2, Row_of-OrderStep, end_of-OrderStep, more_of-OrderStep, items-the_row-OrderStep, items_hidden-the_row-OrderStep-3, Row_of-SumStep, end_of-SumStep, more_of-SumStep, items-the_row-SumStep, items_hidden-the_row-SumStep-4, Row_of-TermStep, end_of-TermStep, more_of-TermStep, items-the_row-TermStep, items_hidden-the_row-TermStep-5, Row_of-Step, end_of-Step, more_of-Step, items-the_row-Step, items_hidden-the_row-Step-6}
use Rattle.cc_grammar.specs.declared.tree.Expression.TheBlock as E
use Rattle.cc_grammar.specs.declared.tree.Format.{Format}
use Rattle.cc_grammar.specs.declared.tree.Identifier.{Identifier}
use Rattle.cc_grammar.specs.declared.tree.Prefix.{Prefix}
use Rattle.cc_grammar.specs.declared.tree.SuffixOperator.{SuffixOperator}
use Rattle.cc_lex.specs.declared.token.Size.{Size}
use Rattle.cc_typed.specs.Sequences.{drop-at}
use Rattle.cc_names.specs.declared.mentions.Numbers.{Numbers}
use Rattle.cc_names.specs.Mentions.{Mention, Named, Formatted, formats_among, names_among, in_equality_steps, in_expression, in_expressions, in_name, in_order_steps, in_step, in_steps, in_sum_steps, in_term_steps}
use Rattle.cc_names.specs.Names.{once}
use Rattle.cc_names.specs.Seen.{after, in_all_equalities, in_all_expressions, in_all_orders, in_all_steps, in_all_sums, in_all_terms, in_format, with}
use denote.Hole.Carrier.{hidden}

pub after-after : (n : Numbers) (xs ys : List Mention) → after (after n xs) ys ≡ after n (xs ++ ys)
unfolding after
after-after n [] ys = refl
after-after n (x ∷ xs) ys = after-after (with n x) xs ys

pub after-nothing : (n : Numbers) → after n [] ≡ n
unfolding after
after-nothing n = refl

pub after-one : (n : Numbers) (m : Mention) → after n (m ∷ []) ≡ with n m
unfolding after
after-one n m = refl

expressions-row : {n : _} (row : Row_of-Expression n) → in_expressions row ≡ in_all_expressions (items-the_row-Expression n row)
unfolding in_expression
expressions-row end_of-Expression = refl
expressions-row (more_of-Expression e rest) = ap (λ xs. in_expression e ++ xs) (expressions-row rest)

expressions-hidden : (all : List Expression) → in_expressions (E.hidden-the_row-Expression-1 all) ≡ in_all_expressions all
expressions-hidden all = expressions-row (E.hidden-the_row-Expression-1 all) ∙ ap in_all_expressions (items_hidden-the_row-Expression-1 all)

equality_steps-row : {n : _} (row : Row_of-EqualityStep n) → in_equality_steps row ≡ in_all_equalities (items-the_row-EqualityStep n row)
unfolding in_expression
equality_steps-row end_of-EqualityStep = refl
equality_steps-row (more_of-EqualityStep o e rest) = ap (λ xs. in_expression e ++ xs) (equality_steps-row rest)

equality_steps-hidden : (all : List EqualityStep) → in_equality_steps (E.hidden-the_row-EqualityStep-2 all) ≡ in_all_equalities all
equality_steps-hidden all = equality_steps-row (E.hidden-the_row-EqualityStep-2 all) ∙ ap in_all_equalities (items_hidden-the_row-EqualityStep-2 all)

order_steps-row : {n : _} (row : Row_of-OrderStep n) → in_order_steps row ≡ in_all_orders (items-the_row-OrderStep n row)
unfolding in_expression
order_steps-row end_of-OrderStep = refl
order_steps-row (more_of-OrderStep o e rest) = ap (λ xs. in_expression e ++ xs) (order_steps-row rest)

order_steps-hidden : (all : List OrderStep) → in_order_steps (E.hidden-the_row-OrderStep-3 all) ≡ in_all_orders all
order_steps-hidden all = order_steps-row (E.hidden-the_row-OrderStep-3 all) ∙ ap in_all_orders (items_hidden-the_row-OrderStep-3 all)

sum_steps-row : {n : _} (row : Row_of-SumStep n) → in_sum_steps row ≡ in_all_sums (items-the_row-SumStep n row)
unfolding in_expression
sum_steps-row end_of-SumStep = refl
sum_steps-row (more_of-SumStep o e rest) = ap (λ xs. in_expression e ++ xs) (sum_steps-row rest)

sum_steps-hidden : (all : List SumStep) → in_sum_steps (E.hidden-the_row-SumStep-4 all) ≡ in_all_sums all
sum_steps-hidden all = sum_steps-row (E.hidden-the_row-SumStep-4 all) ∙ ap in_all_sums (items_hidden-the_row-SumStep-4 all)

term_steps-row : {n : _} (row : Row_of-TermStep n) → in_term_steps row ≡ in_all_terms (items-the_row-TermStep n row)
unfolding in_expression
term_steps-row end_of-TermStep = refl
term_steps-row (more_of-TermStep o e rest) = ap (λ xs. in_expression e ++ xs) (term_steps-row rest)

term_steps-hidden : (all : List TermStep) → in_term_steps (E.hidden-the_row-TermStep-5 all) ≡ in_all_terms all
term_steps-hidden all = term_steps-row (E.hidden-the_row-TermStep-5 all) ∙ ap in_all_terms (items_hidden-the_row-TermStep-5 all)

steps-row : {n : _} (row : Row_of-Step n) → in_steps row ≡ in_all_steps (items-the_row-Step n row)
unfolding in_expression
steps-row end_of-Step = refl
steps-row (more_of-Step s rest) = ap (λ xs. in_step s ++ xs) (steps-row rest)

steps-hidden : (all : List Step) → in_steps (E.hidden-the_row-Step-6 all) ≡ in_all_steps all
steps-hidden all = steps-row (E.hidden-the_row-Step-6 all) ∙ ap in_all_steps (items_hidden-the_row-Step-6 all)

pub mentions-Within : (p : Place) (d m e : Expression) → in_expression (Within p d m e) ≡ in_expression d ++ (in_expression m ++ in_expression e)
unfolding in_expression E.shape-the_row-Expression-0 E.hidden-the_row-Expression-0 hidden
mentions-Within p d m e = refl

pub mentions-Store : (a : Expression) (o : AssignOperator) (b : Expression) → in_expression (Store a o b) ≡ in_expression a ++ in_expression b
unfolding in_expression E.shape-the_row-Expression-0 E.hidden-the_row-Expression-0 hidden
mentions-Store a o b = refl

pub mentions-Choice : (c a b : Expression) → in_expression (Choice c a b) ≡ in_expression c ++ (in_expression a ++ in_expression b)
unfolding in_expression E.shape-the_row-Expression-0 E.hidden-the_row-Expression-0 hidden
mentions-Choice c a b = refl

pub mentions-Disjunction : (a : Expression) (rest : List Expression) → in_expression (Disjunction a rest) ≡ in_expression a ++ in_all_expressions rest
unfolding in_expression E.shape-the_row-Expression-0 E.hidden-the_row-Expression-0 hidden
mentions-Disjunction a rest = ap (λ xs. in_expression a ++ xs) (expressions-hidden rest)

pub mentions-Conjunction : (a : Expression) (rest : List Expression) → in_expression (Conjunction a rest) ≡ in_expression a ++ in_all_expressions rest
unfolding in_expression E.shape-the_row-Expression-0 E.hidden-the_row-Expression-0 hidden
mentions-Conjunction a rest = ap (λ xs. in_expression a ++ xs) (expressions-hidden rest)

pub mentions-Equality : (a : Expression) (rest : List EqualityStep) → in_expression (Equality a rest) ≡ in_expression a ++ in_all_equalities rest
unfolding in_expression E.shape-the_row-Expression-0 E.hidden-the_row-Expression-0 hidden
mentions-Equality a rest = ap (λ xs. in_expression a ++ xs) (equality_steps-hidden rest)

pub mentions-Order : (a : Expression) (rest : List OrderStep) → in_expression (Order a rest) ≡ in_expression a ++ in_all_orders rest
unfolding in_expression E.shape-the_row-Expression-0 E.hidden-the_row-Expression-0 hidden
mentions-Order a rest = ap (λ xs. in_expression a ++ xs) (order_steps-hidden rest)

pub mentions-Sum : (a : Expression) (rest : List SumStep) → in_expression (Sum a rest) ≡ in_expression a ++ in_all_sums rest
unfolding in_expression E.shape-the_row-Expression-0 E.hidden-the_row-Expression-0 hidden
mentions-Sum a rest = ap (λ xs. in_expression a ++ xs) (sum_steps-hidden rest)

pub mentions-Term : (a : Expression) (rest : List TermStep) → in_expression (Term a rest) ≡ in_expression a ++ in_all_terms rest
unfolding in_expression E.shape-the_row-Expression-0 E.hidden-the_row-Expression-0 hidden
mentions-Term a rest = ap (λ xs. in_expression a ++ xs) (term_steps-hidden rest)

pub mentions-Prefixed : (x : Prefix) (e : Expression) → in_expression (Prefixed x e) ≡ in_expression e
unfolding in_expression E.shape-the_row-Expression-0 E.hidden-the_row-Expression-0 hidden
mentions-Prefixed x e = refl

pub mentions-Postfix : (e : Expression) (steps : List Step) (suffix : Option SuffixOperator) → in_expression (Postfix e steps suffix) ≡ in_expression e ++ in_all_steps steps
unfolding in_expression E.shape-the_row-Expression-0 E.hidden-the_row-Expression-0 hidden
mentions-Postfix e steps suffix = ap (λ xs. in_expression e ++ xs) (steps-hidden steps)

pub mentions-Number : (p : Place) (n : ℤ) (s : Size) → in_expression (Number p n s) ≡ []
unfolding in_expression
mentions-Number p n s = refl

pub mentions-Character : (p : Place) (n : ℕ) → in_expression (Character p n) ≡ []
unfolding in_expression
mentions-Character p n = refl

pub mentions-Name : (x : Identifier) → in_expression (Name x) ≡ in_name x
unfolding in_expression
mentions-Name x = refl

pub mentions-Call : (x : Identifier) (args : List Expression) → in_expression (Call x args) ≡ in_name x ++ in_all_expressions args
unfolding in_expression E.shape-the_row-Expression-0 E.hidden-the_row-Expression-0 hidden
mentions-Call x args = ap (λ xs. in_name x ++ xs) (expressions-hidden args)

pub mentions-Create : (p : Place) (x : Identifier) (args : List Expression) → in_expression (Create p x args) ≡ in_name x ++ in_all_expressions args
unfolding in_expression E.shape-the_row-Expression-0 E.hidden-the_row-Expression-0 hidden
mentions-Create p x args = ap (λ xs. in_name x ++ xs) (expressions-hidden args)

pub mentions-Putchar : (p : Place) (e : Expression) → in_expression (Putchar p e) ≡ in_expression e
unfolding in_expression E.shape-the_row-Expression-0 E.hidden-the_row-Expression-0 hidden
mentions-Putchar p e = refl

pub mentions-Getchar : (p : Place) → in_expression (Getchar p) ≡ []
unfolding in_expression
mentions-Getchar p = refl

pub mentions-Printf : (p : Place) (f : Format) (args : List Expression) → in_expression (Printf p f args) ≡ in_format f ++ in_all_expressions args
unfolding in_expression E.shape-the_row-Expression-0 E.hidden-the_row-Expression-0 hidden
mentions-Printf p f args = ap (λ xs. in_format f ++ xs) (expressions-hidden args)

pub mentions-Parenthesised : (p : Place) (e : Expression) → in_expression (Parenthesised p e) ≡ in_expression e
unfolding in_expression E.shape-the_row-Expression-0 E.hidden-the_row-Expression-0 hidden
mentions-Parenthesised p e = refl

pub step-Field : (x : Identifier) → in_step (step.Field x) ≡ in_name x
unfolding in_expression
step-Field x = refl

pub step-Call : (x : Identifier) (args : List Expression) → in_step (step.Call x args) ≡ in_name x ++ in_all_expressions args
unfolding in_expression
step-Call x args = ap (λ xs. in_name x ++ xs) (expressions-hidden args)

pub step-Index : (e : Expression) → in_step (step.Index e) ≡ in_expression e
unfolding in_expression E.shape-the_row-Expression-0 E.hidden-the_row-Expression-0 hidden
step-Index e = refl

drop-item : {X : Type 0} (xs : List X) (i : ℕ) (x : X) → i < length xs → x ≡ get_or xs i x → drop i xs ≡ x ∷ drop (i + 1) xs
drop-item xs i x lt e = drop-at xs i x lt ∙ ap (λ y. y ∷ drop (i + 1) xs) (sym e)

-- one more part of a list, and its end
module _ {X : Type 0} (f : X → List Mention) (all : List X → List Mention) where
  pub seen-more : ((x : X) (xs : List X) → all (x ∷ xs) ≡ f x ++ all xs) → (n m o : Numbers) (xs : List X) (i : ℕ) (x : X) → i < length xs → x ≡ get_or xs i x
      → m ≡ after n (f x) → after n (all (drop i xs)) ≡ o → after m (all (drop (i + 1) xs)) ≡ o
  seen-more more n m o xs i x lt e step invariant =
      let rest = drop (i + 1) xs in
      ap (λ k. after k (all rest)) step
      ∙ after-after n (f x) (all rest)
      ∙ ap (after n) (sym (more x rest))
      ∙ ap (λ ys. after n (all ys)) (sym (drop-item xs i x lt e))
      ∙ invariant

  pub seen-end : all [] ≡ [] → (n o : Numbers) (xs : List X) (i : ℕ) → length xs ≤ i → after n (all (drop i xs)) ≡ o → n ≡ o
  seen-end none n o xs i le invariant =
      sym (ap (λ ys. after n (all ys)) (drop_all i xs le) ∙ ap (after n) none ∙ after-nothing n) ∙ invariant

pub names-after : (n : Numbers) (ms : List Mention) → (after n ms).names ≡ once n.names (names_among ms)
unfolding after
names-after n [] = refl
names-after n (Named x ∷ ms) = names-after (with n (Named x)) ms
names-after n (Formatted f ∷ ms) = names-after (with n (Formatted f)) ms

pub formats-after : (n : Numbers) (ms : List Mention) → (after n ms).formats ≡ once n.formats (formats_among ms)
unfolding after
formats-after n [] = refl
formats-after n (Named x ∷ ms) = formats-after (with n (Named x)) ms
formats-after n (Formatted f ∷ ms) = formats-after (with n (Formatted f)) ms

pub ruleset numbered_names = (names-after, formats-after)

pub ruleset seen_one = (after-one)

pub ruleset seen = (after-after, after-nothing, append_assoc, append-nil)

pub ruleset seen_expressions = (after-after, after-nothing, append_assoc, append-nil, mentions-Within, mentions-Store, mentions-Choice, mentions-Disjunction, mentions-Conjunction, mentions-Equality, mentions-Order, mentions-Sum, mentions-Term, mentions-Prefixed, mentions-Postfix, mentions-Number, mentions-Character, mentions-Name, mentions-Call, mentions-Create, mentions-Putchar, mentions-Getchar, mentions-Printf, mentions-Parenthesised, step-Field, step-Call, step-Index)
