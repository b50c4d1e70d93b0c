-- The names and the formats that a text mentions, in the order of the text.
use Rattle.std.specs.Prelude.{ℕ, List, [], ◌∷◌, ◌++◌, Option, Some, None}
use Rattle.cc_grammar.specs.declared.tree.Expression.{Expression, Within', Store', Choice' as ChoiceExpression', Disjunction', Conjunction', Equality', Order', Sum', Term', Prefixed', Postfix', Number, Character, Name, Call' as CallExpression', Create', Putchar', Getchar, Printf', Parenthesised', Row_of-Expression, end_of-Expression, more_of-Expression, Row_of-EqualityStep, end_of-EqualityStep, more_of-EqualityStep, Row_of-OrderStep, end_of-OrderStep, more_of-OrderStep, Row_of-SumStep, end_of-SumStep, more_of-SumStep, Row_of-TermStep, end_of-TermStep, more_of-TermStep, Row_of-Step, end_of-Step, more_of-Step}
use Rattle.cc_grammar.specs.declared.tree.Identifier.{Identifier}
use Rattle.cc_grammar.specs.declared.tree.Step.{Step, Field, Call' as CallStep', Index'}
use Rattle.cc_grammar.specs.declared.tree.Choice.{Choice, Accept' as AcceptChoice', Delay' as DelayChoice', Immediate', Terminate}
use Rattle.cc_grammar.specs.declared.tree.Clauses.{Clauses}
use Rattle.cc_grammar.specs.declared.tree.Clauses.TheVariants as clauses
use Rattle.cc_grammar.specs.declared.tree.Constant.{Constant}
use Rattle.cc_grammar.specs.declared.tree.ConstantValue.{ConstantValue}
use Rattle.cc_grammar.specs.declared.tree.Declarator.{Declarator}
use Rattle.cc_grammar.specs.declared.tree.Entry.{Entry, Local as LocalEntry}
use Rattle.cc_grammar.specs.declared.tree.Entry.{Statement as StatementEntry}
use Rattle.cc_grammar.specs.declared.tree.Field.{Field as TheField}
use Rattle.cc_grammar.specs.declared.tree.Item.{Item}
use Rattle.cc_grammar.specs.declared.tree.Item.TheVariants as item
use Rattle.cc_grammar.specs.declared.tree.Length.{Length}
use Rattle.cc_grammar.specs.declared.tree.Length.TheVariants as some_length
use Rattle.cc_grammar.specs.declared.tree.LocalDeclarator.{LocalDeclarator}
use Rattle.cc_grammar.specs.declared.tree.LocalDeclarator.TheVariants as local_declarator
use Rattle.cc_grammar.specs.declared.tree.Parameter.{Parameter}
use Rattle.cc_grammar.specs.declared.tree.Statement.{Statement, Empty, Block', Expression as ExpressionStatement, If', IfElse', While', Do', For', Break, Continue, Return, Treturn, Delay, Accept', Select', Held-Accept-block, None', Some', Row_of-Entry, end_of-Entry, more_of-Entry, end_of-Statement, more_of-Statement, end_of-Accept, more_of-Accept, Row_of-Alternative, end_of-Alternative, more_of-Alternative}
use Rattle.cc_grammar.specs.declared.tree.Transaction.{Transaction}
use Rattle.cc_grammar.specs.declared.tree.TransactionParameter.{TransactionParameter}
use Rattle.cc_grammar.specs.declared.tree.TypeName.{TypeName}
use Rattle.cc_grammar.specs.declared.tree.TypeName.TheVariants as type_name

-- a name, or a string of `printf`, by its bytes
pub data Mention : Type 0 where
  Named : List ℕ → Mention
  Formatted : List ℕ → Mention

abbrev pub names_among : List Mention → List (List ℕ)
names_among [] = []
names_among (Named x ∷ rest) = x ∷ names_among rest
names_among (Formatted f ∷ rest) = names_among rest

abbrev pub formats_among : List Mention → List (List ℕ)
formats_among [] = []
formats_among (Named x ∷ rest) = formats_among rest
formats_among (Formatted f ∷ rest) = f ∷ formats_among rest

abbrev pub in_name : Identifier → List Mention
in_name x = Named x.name ∷ []

abbrev pub in_names : List Identifier → List Mention
in_names [] = []
in_names (x ∷ xs) = Named x.name ∷ in_names xs

abbrev pub in_optional_name : Option Identifier → List Mention
in_optional_name None = []
in_optional_name (Some x) = in_name x

abbrev pub in_type : TypeName → List Mention
in_type (type_name.Structure p x) = in_name x
in_type (type_name.Enumeration p x) = in_name x
in_type (type_name.Process p x) = in_name x
in_type _ = []

abbrev pub in_length : Length → List Mention
in_length (some_length.Name x) = in_name x
in_length _ = []

abbrev pub in_optional_length : Option Length → List Mention
in_optional_length None = []
in_optional_length (Some n) = in_length n

-- ---- expressions
unfoldable mutual
  pub in_expression : Expression → List Mention
  in_expression (Within' p _ (more_of-Expression d end_of-Expression) _ (more_of-Expression m end_of-Expression) _ (more_of-Expression e end_of-Expression)) =
      in_expression d ++ (in_expression m ++ in_expression e)
  in_expression (Store' _ (more_of-Expression a end_of-Expression) o _ (more_of-Expression b end_of-Expression)) =
      in_expression a ++ in_expression b
  in_expression (ChoiceExpression' _ (more_of-Expression c end_of-Expression) _ (more_of-Expression a end_of-Expression) _ (more_of-Expression b end_of-Expression)) =
      in_expression c ++ (in_expression a ++ in_expression b)
  in_expression (Disjunction' _ (more_of-Expression a end_of-Expression) _ rest) = in_expression a ++ in_expressions rest
  in_expression (Conjunction' _ (more_of-Expression a end_of-Expression) _ rest) = in_expression a ++ in_expressions rest
  in_expression (Equality' _ (more_of-Expression a end_of-Expression) _ rest) = in_expression a ++ in_equality_steps rest
  in_expression (Order' _ (more_of-Expression a end_of-Expression) _ rest) = in_expression a ++ in_order_steps rest
  in_expression (Sum' _ (more_of-Expression a end_of-Expression) _ rest) = in_expression a ++ in_sum_steps rest
  in_expression (Term' _ (more_of-Expression a end_of-Expression) _ rest) = in_expression a ++ in_term_steps rest
  in_expression (Prefixed' x _ (more_of-Expression e end_of-Expression)) = in_expression e
  in_expression (Postfix' _ (more_of-Expression e end_of-Expression) _ steps suffix) = in_expression e ++ in_steps steps
  in_expression (Number p v s) = []
  in_expression (Character p v) = []
  in_expression (Name x) = in_name x
  in_expression (CallExpression' x _ args) = in_name x ++ in_expressions args
  in_expression (Create' p x _ args) = in_name x ++ in_expressions args
  in_expression (Putchar' p _ (more_of-Expression e end_of-Expression)) = in_expression e
  in_expression (Getchar p) = []
  in_expression (Printf' p f _ args) = Formatted f.bytes ∷ in_expressions args
  in_expression (Parenthesised' p _ (more_of-Expression e end_of-Expression)) = in_expression e

  pub in_expressions : {n : _} → Row_of-Expression n → List Mention
  in_expressions end_of-Expression = []
  in_expressions (more_of-Expression e rest) = in_expression e ++ in_expressions rest

  pub in_equality_steps : {n : _} → Row_of-EqualityStep n → List Mention
  in_equality_steps end_of-EqualityStep = []
  in_equality_steps (more_of-EqualityStep o e rest) = in_expression e ++ in_equality_steps rest

  pub in_order_steps : {n : _} → Row_of-OrderStep n → List Mention
  in_order_steps end_of-OrderStep = []
  in_order_steps (more_of-OrderStep o e rest) = in_expression e ++ in_order_steps rest

  pub in_sum_steps : {n : _} → Row_of-SumStep n → List Mention
  in_sum_steps end_of-SumStep = []
  in_sum_steps (more_of-SumStep o e rest) = in_expression e ++ in_sum_steps rest

  pub in_term_steps : {n : _} → Row_of-TermStep n → List Mention
  in_term_steps end_of-TermStep = []
  in_term_steps (more_of-TermStep o e rest) = in_expression e ++ in_term_steps rest

  pub in_steps : {n : _} → Row_of-Step n → List Mention
  in_steps end_of-Step = []
  in_steps (more_of-Step s rest) = in_step s ++ in_steps rest

  pub in_step : Step → List Mention
  in_step (Field x) = in_name x
  in_step (CallStep' x _ args) = in_name x ++ in_expressions args
  in_step (Index' _ (more_of-Expression e end_of-Expression)) = in_expression e

abbrev pub in_optional_expression : Option Expression → List Mention
in_optional_expression None = []
in_optional_expression (Some e) = in_expression e

-- ---- statements
abbrev pub in_declarators : List LocalDeclarator → List Mention
in_declarators [] = []
in_declarators (local_declarator.Plain x ∷ rest) = in_name x ++ in_declarators rest
in_declarators (local_declarator.Array x n ∷ rest) = in_name x ++ (in_length n ++ in_declarators rest)
in_declarators (local_declarator.Value x e ∷ rest) = in_name x ++ (in_expression e ++ in_declarators rest)

abbrev pub in_clauses : Clauses → List Mention
in_clauses clauses.None = []
in_clauses (clauses.Such e) = in_expression e
in_clauses (clauses.Least e) = in_expression e
in_clauses (clauses.SuchLeast e k) = in_expression e ++ in_expression k
in_clauses (clauses.LeastSuch k e) = in_expression k ++ in_expression e

unfoldable mutual
  pub in_entry : Entry → List Mention
  in_entry (LocalEntry l) = in_type l.of ++ in_declarators l.declarators
  in_entry (StatementEntry a) = in_statement a

  pub in_entries : {n : _} → Row_of-Entry n → List Mention
  in_entries end_of-Entry = []
  in_entries (more_of-Entry a rest) = in_entry a ++ in_entries rest

  pub in_statement : Statement → List Mention
  in_statement (Empty p) = []
  in_statement (Block' _ all) = in_entries all
  in_statement (ExpressionStatement e) = in_expression e
  in_statement (If' p c _ (more_of-Statement a end_of-Statement)) = in_expression c ++ in_statement a
  in_statement (IfElse' p c _ (more_of-Statement a end_of-Statement) _ (more_of-Statement b end_of-Statement)) =
      in_expression c ++ (in_statement a ++ in_statement b)
  in_statement (While' p c _ (more_of-Statement a end_of-Statement)) = in_expression c ++ in_statement a
  in_statement (Do' p _ (more_of-Statement a end_of-Statement) c) = in_statement a ++ in_expression c
  in_statement (For' p h _ (more_of-Statement a end_of-Statement)) =
      in_optional_expression h.first ++ (in_optional_expression h.condition ++ (in_optional_expression h.step ++ in_statement a))
  in_statement (Break p) = []
  in_statement (Continue p) = []
  in_statement (Return p e) = in_optional_expression e
  in_statement (Treturn p e) = in_optional_expression e
  in_statement (Delay p e) = in_expression e
  in_statement (Accept' _ (more_of-Accept p x xs c block end_of-Accept)) = in_name x ++ (in_names xs ++ (in_clauses c ++ in_block block))
  in_statement (Select' p _ all) = in_alternatives all

  pub in_block : Held-Accept-block → List Mention
  in_block None' = []
  in_block (Some' _ all) = in_entries all

  pub in_alternatives : {n : _} → Row_of-Alternative n → List Mention
  in_alternatives end_of-Alternative = []
  in_alternatives (more_of-Alternative g c rest) = in_optional_expression g ++ (in_choice c ++ in_alternatives rest)

  pub in_choice : Choice → List Mention
  in_choice (AcceptChoice' p x xs c block _ all) = in_name x ++ (in_names xs ++ (in_clauses c ++ (in_block block ++ in_entries all)))
  in_choice (DelayChoice' p e _ all) = in_expression e ++ in_entries all
  in_choice (Immediate' p _ all) = in_entries all
  in_choice (Terminate p) = []

abbrev pub in_list : List Entry → List Mention
in_list [] = []
in_list (a ∷ rest) = in_entry a ++ in_list rest

-- ---- items; the names of the parameters of specifications and transactions are no names of the text
abbrev pub in_field_names : List Declarator → List Mention
in_field_names [] = []
in_field_names (d ∷ ds) = in_name d.name ++ (in_optional_length d.length ++ in_field_names ds)

abbrev pub in_fields : List TheField → List Mention
in_fields [] = []
in_fields (f ∷ fs) = in_type f.of ++ (in_field_names f.declarators ++ in_fields fs)

abbrev pub in_value : Option ConstantValue → List Mention
in_value None = []
in_value (Some v) = in_length v.length

abbrev pub in_constants : List Constant → List Mention
in_constants [] = []
in_constants (c ∷ cs) = in_name c.name ++ (in_value c.value ++ in_constants cs)

abbrev pub in_parameter_types : List TransactionParameter → List Mention
in_parameter_types [] = []
in_parameter_types (p ∷ ps) = in_type p.of ++ in_parameter_types ps

abbrev pub in_optional_type : Option TypeName → List Mention
in_optional_type None = []
in_optional_type (Some t) = in_type t

abbrev pub in_transactions : List Transaction → List Mention
in_transactions [] = []
in_transactions (d ∷ ds) = in_optional_type d.result ++ (in_name d.name ++ (in_parameter_types d.parameters ++ in_transactions ds))

abbrev pub in_optional_transactions : Option (List Transaction) → List Mention
in_optional_transactions None = []
in_optional_transactions (Some ds) = in_transactions ds

abbrev pub in_parameters : List Parameter → List Mention
in_parameters [] = []
in_parameters (p ∷ ps) = in_type p.of ++ (in_name p.name ++ in_parameters ps)

abbrev pub in_item : Item → List Mention
in_item (item.Structure x fields) = in_name x ++ in_fields fields
in_item (item.Enumeration x cs) = in_optional_name x ++ in_constants cs
in_item (item.Specification x ps ds) = in_name x ++ (in_parameter_types ps ++ in_optional_transactions ds)
in_item (item.Body x xs block) = in_name x ++ (in_names xs ++ in_list block)
in_item (item.Function t f) = in_optional_type t ++ (in_name f.name ++ (in_parameters f.parameters ++ in_list f.block))

abbrev pub in_items : List Item → List Mention
in_items [] = []
in_items (i ∷ rest) = in_item i ++ in_items rest
