-- The plain tree of a text: names and formats have numbers, rows of operators are of two kinds, and each declared name has its type.
use Rattle.std.specs.Prelude.{ℕ, pos, List, [], ◌∷◌, ◌++◌, length, map, Option, Some, None}
use Rattle.cc_base.specs.declared.names.Place.{Place}
use Rattle.cc_base.specs.declared.numbers.Comparison.{Comparison}
use Rattle.cc_base.specs.declared.numbers.Comparison.TheVariants as comparison
use Rattle.cc_base.specs.declared.numbers.NumberType.{NumberType}
use Rattle.cc_base.specs.declared.numbers.NumberType.TheVariants as numeric
use Rattle.cc_base.specs.declared.numbers.Operator.{Operator}
use Rattle.cc_base.specs.declared.numbers.Operator.TheVariants as operator
use Rattle.cc_lex.specs.declared.token.Size.{Size}
use Rattle.cc_lex.specs.declared.token.Size.TheVariants as size
use Rattle.cc_grammar.specs.declared.tree.Expression.{Expression, Within', Store', Choice' as ChoiceExpression', Disjunction', Conjunction', Equality', Order', Sum', Term', Prefixed', Postfix', Number, Character, Name, Call' as CallExpression', Create', Putchar', Getchar, Printf', Parenthesised', Row_of-Expression, end_of-Expression, more_of-Expression, Row_of-EqualityStep, end_of-EqualityStep, more_of-EqualityStep, Row_of-OrderStep, end_of-OrderStep, more_of-OrderStep, Row_of-SumStep, end_of-SumStep, more_of-SumStep, Row_of-TermStep, end_of-TermStep, more_of-TermStep, Row_of-Step, end_of-Step, more_of-Step}
use Rattle.cc_grammar.specs.declared.tree.AssignOperator.{AssignOperator}
use Rattle.cc_grammar.specs.declared.tree.AssignOperator.TheVariants as assign_operator
use Rattle.cc_grammar.specs.declared.tree.EqualityOperator.{EqualityOperator}
use Rattle.cc_grammar.specs.declared.tree.EqualityOperator.TheVariants as equality_operator
use Rattle.cc_grammar.specs.declared.tree.Format.{Format}
use Rattle.cc_grammar.specs.declared.tree.Identifier.{Identifier}
use Rattle.cc_grammar.specs.declared.tree.OrderOperator.{OrderOperator}
use Rattle.cc_grammar.specs.declared.tree.OrderOperator.TheVariants as order_operator
use Rattle.cc_grammar.specs.declared.tree.PrefixOperator.{PrefixOperator}
use Rattle.cc_grammar.specs.declared.tree.PrefixOperator.TheVariants as prefix_operator
use Rattle.cc_grammar.specs.declared.tree.Step.{Step, Field, Call' as CallStep', Index'}
use Rattle.cc_grammar.specs.declared.tree.SuffixOperator.{SuffixOperator}
use Rattle.cc_grammar.specs.declared.tree.SuffixOperator.TheVariants as suffix_operator
use Rattle.cc_grammar.specs.declared.tree.SumOperator.{SumOperator}
use Rattle.cc_grammar.specs.declared.tree.SumOperator.TheVariants as sum_operator
use Rattle.cc_grammar.specs.declared.tree.TermOperator.{TermOperator}
use Rattle.cc_grammar.specs.declared.tree.TermOperator.TheVariants as term_operator
use Rattle.cc_faults.specs.declared.plain.Compared.{Compared}
use Rattle.cc_faults.specs.declared.plain.Format.{Format as PlainFormat}
use Rattle.cc_faults.specs.declared.plain.Identifier.{Identifier as PlainIdentifier}
use Rattle.cc_faults.specs.declared.plain.Operation.{Operation}
use Rattle.cc_faults.specs.declared.plain.Phrase.{Phrase}
use Rattle.cc_faults.specs.declared.plain.Phrase.TheVariants as phrase
use Rattle.cc_faults.specs.declared.plain.Step.{Step as PlainStep}
use Rattle.cc_faults.specs.declared.plain.Step.TheVariants as step
use Rattle.cc_faults.specs.declared.plain.StepWord.{StepWord}
use Rattle.cc_faults.specs.declared.plain.StepWord.TheVariants as word
use Rattle.cc_grammar.specs.declared.tree.Choice.{Choice, Accept' as AcceptChoice', Delay' as DelayChoice', Immediate', Terminate}
use Rattle.cc_grammar.specs.declared.tree.Clauses.{Clauses}
use Rattle.cc_grammar.specs.declared.tree.Clauses.TheVariants as clauses
use Rattle.cc_grammar.specs.declared.tree.Constant.{Constant}
use Rattle.cc_grammar.specs.declared.tree.ConstantValue.{ConstantValue}
use Rattle.cc_grammar.specs.declared.tree.Declarator.{Declarator}
use Rattle.cc_grammar.specs.declared.tree.Entry.{Entry, Local as LocalEntry}
use Rattle.cc_grammar.specs.declared.tree.Entry.{Statement as StatementEntry}
use Rattle.cc_grammar.specs.declared.tree.Field.{Field as TheField}
use Rattle.cc_grammar.specs.declared.tree.Item.{Item}
use Rattle.cc_grammar.specs.declared.tree.Item.TheVariants as item
use Rattle.cc_grammar.specs.declared.tree.Length.{Length}
use Rattle.cc_grammar.specs.declared.tree.Length.TheVariants as some_length
use Rattle.cc_grammar.specs.declared.tree.LocalDeclarator.{LocalDeclarator}
use Rattle.cc_grammar.specs.declared.tree.LocalDeclarator.TheVariants as local_declarator
use Rattle.cc_grammar.specs.declared.tree.Parameter.{Parameter}
use Rattle.cc_grammar.specs.declared.tree.Statement.{Statement, Empty, Block', Expression as ExpressionStatement, If', IfElse', While', Do', For', Break, Continue, Return, Treturn, Delay, Accept', Select', Held-Accept-block, None', Some', Row_of-Entry, end_of-Entry, more_of-Entry, end_of-Statement, more_of-Statement, end_of-Accept, more_of-Accept, Row_of-Alternative, end_of-Alternative, more_of-Alternative}
use Rattle.cc_grammar.specs.declared.tree.Transaction.{Transaction}
use Rattle.cc_grammar.specs.declared.tree.TransactionParameter.{TransactionParameter}
use Rattle.cc_grammar.specs.declared.tree.Tree.{Tree}
use Rattle.cc_grammar.specs.declared.tree.TypeName.{TypeName}
use Rattle.cc_grammar.specs.declared.tree.TypeName.TheVariants as type_name
use Rattle.cc_faults.specs.declared.plain.AcceptHead.{AcceptHead}
use Rattle.cc_faults.specs.declared.plain.AcceptPart.{AcceptPart}
use Rattle.cc_faults.specs.declared.plain.Alternative.{Alternative as PlainAlternative}
use Rattle.cc_faults.specs.declared.plain.Choice.{Choice as PlainChoice}
use Rattle.cc_faults.specs.declared.plain.Choice.TheVariants as choice
use Rattle.cc_faults.specs.declared.plain.Clause.{Clause}
use Rattle.cc_faults.specs.declared.plain.ClauseWord.{ClauseWord}
use Rattle.cc_faults.specs.declared.plain.ClauseWord.TheVariants as clause_word
use Rattle.cc_faults.specs.declared.plain.Constant.{Constant as PlainConstant}
use Rattle.cc_faults.specs.declared.plain.ConstantValue.{ConstantValue as PlainConstantValue}
use Rattle.cc_faults.specs.declared.plain.Field.{Field as PlainField}
use Rattle.cc_faults.specs.declared.plain.Item.{Item as PlainItem}
use Rattle.cc_faults.specs.declared.plain.Item.TheVariants as plain_item
use Rattle.cc_faults.specs.declared.plain.Length.{Length as PlainLength}
use Rattle.cc_faults.specs.declared.plain.Length.TheVariants as plain_length
use Rattle.cc_faults.specs.declared.plain.LocalForm.{LocalForm}
use Rattle.cc_faults.specs.declared.plain.LocalForm.TheVariants as form
use Rattle.cc_faults.specs.declared.plain.Parameter.{Parameter as PlainParameter}
use Rattle.cc_faults.specs.declared.plain.Plain.{Plain}
use Rattle.cc_faults.specs.declared.plain.Statement.{Statement as PlainStatement}
use Rattle.cc_faults.specs.declared.plain.Statement.TheVariants as statement
use Rattle.cc_faults.specs.declared.plain.Transaction.{Transaction as PlainTransaction}
use Rattle.cc_faults.specs.declared.plain.TypeName.{TypeName as PlainTypeName}
use Rattle.cc_faults.specs.declared.plain.TypeName.TheVariants as plain_type
use Rattle.cc_names.specs.Mentions.{formats_among, in_items, names_among}
use Rattle.cc_names.specs.Names.{number_in, numbered, once}

-- ---- operators

abbrev pub term_operation : TermOperator → Operator
term_operation term_operator.Times = operator.Multiply
term_operation term_operator.Divide = operator.Divide
term_operation term_operator.Remainder = operator.Remainder

abbrev pub sum_operation : SumOperator → Operator
sum_operation sum_operator.Plus = operator.Add
sum_operation sum_operator.Minus = operator.Subtract

abbrev pub order_comparison : OrderOperator → Comparison
order_comparison order_operator.Less = comparison.Less
order_comparison order_operator.LessEqual = comparison.AtMost
order_comparison order_operator.Greater = comparison.Greater
order_comparison order_operator.GreaterEqual = comparison.AtLeast

abbrev pub equality_comparison : EqualityOperator → Comparison
equality_comparison equality_operator.Equal = comparison.Equal
equality_comparison equality_operator.NotEqual = comparison.Different

abbrev pub suffix_word : SuffixOperator → StepWord
suffix_word suffix_operator.Increment = word.Up
suffix_word suffix_operator.Decrement = word.Down

-- ---- what is taken of an expression, and `++` or `--` behind it

abbrev pub chain : Phrase → List PlainStep → Phrase
chain e [] = e
chain e (s ∷ rest) = phrase.Chain e (s ∷ rest)

abbrev pub suffixed : Phrase → Option SuffixOperator → Phrase
suffixed e None = e
suffixed e (Some o) = phrase.StepAfter e (suffix_word o)

abbrev pub prefixed_by : Place → PrefixOperator → Phrase → Phrase
prefixed_by p prefix_operator.Minus e = phrase.Negate p e
prefixed_by p prefix_operator.Plus e = phrase.Plus p e
prefixed_by p prefix_operator.Not e = phrase.Not p e
prefixed_by p prefix_operator.Increment e = phrase.StepBefore p word.Up e
prefixed_by p prefix_operator.Decrement e = phrase.StepBefore p word.Down e

abbrev pub storing : Phrase → AssignOperator → Phrase → Phrase
storing a assign_operator.Set b = phrase.Assign a b
storing a assign_operator.Add b = phrase.Update a operator.Add b
storing a assign_operator.Subtract b = phrase.Update a operator.Subtract b
storing a assign_operator.Multiply b = phrase.Update a operator.Multiply b
storing a assign_operator.Divide b = phrase.Update a operator.Divide b
storing a assign_operator.Remainder b = phrase.Update a operator.Remainder b

abbrev pub number_type : Size → NumberType
number_type size.Int = numeric.Int
number_type size.Long = numeric.Long

abbrev pub operation : Operator → Phrase → Operation
operation o b = record { operator = o; operand = b }

abbrev pub compared : Comparison → Phrase → Compared
compared c b = record { comparison = c; operand = b }

module _ (names : List (List ℕ)) (formats : List (List ℕ)) where
  abbrev pub identifier : Identifier → PlainIdentifier
  identifier x = record { place = x.place; name = number_in names x.name }

  abbrev pub format : Format → PlainFormat
  format f = record { place = f.place; number = number_in formats f.bytes }

  unfoldable mutual
    pub plain_expression : Expression → Phrase
    plain_expression (Within' p _ (more_of-Expression d end_of-Expression) _ (more_of-Expression m end_of-Expression) _ (more_of-Expression e end_of-Expression)) =
        phrase.Within p (plain_expression d) (plain_expression m) (plain_expression e)
    plain_expression (Store' _ (more_of-Expression a end_of-Expression) o _ (more_of-Expression b end_of-Expression)) =
        storing (plain_expression a) o (plain_expression b)
    plain_expression (ChoiceExpression' _ (more_of-Expression c end_of-Expression) _ (more_of-Expression a end_of-Expression) _ (more_of-Expression b end_of-Expression)) =
        phrase.Choose (plain_expression c) (plain_expression a) (plain_expression b)
    plain_expression (Disjunction' _ (more_of-Expression a end_of-Expression) _ rest) =
        phrase.Either (plain_expression a) (plain_expressions rest)
    plain_expression (Conjunction' _ (more_of-Expression a end_of-Expression) _ rest) =
        phrase.Both (plain_expression a) (plain_expressions rest)
    plain_expression (Equality' _ (more_of-Expression a end_of-Expression) _ rest) =
        phrase.Compare (plain_expression a) (equality_steps rest)
    plain_expression (Order' _ (more_of-Expression a end_of-Expression) _ rest) =
        phrase.Compare (plain_expression a) (order_steps rest)
    plain_expression (Sum' _ (more_of-Expression a end_of-Expression) _ rest) =
        phrase.Arithmetic (plain_expression a) (sum_steps rest)
    plain_expression (Term' _ (more_of-Expression a end_of-Expression) _ rest) =
        phrase.Arithmetic (plain_expression a) (term_steps rest)
    plain_expression (Prefixed' x _ (more_of-Expression e end_of-Expression)) = prefixed_by x.place x.operator (plain_expression e)
    plain_expression (Postfix' _ (more_of-Expression e end_of-Expression) _ steps suffix) =
        suffixed (chain (plain_expression e) (plain_steps steps)) suffix
    plain_expression (Number p v s) = phrase.Number p v (number_type s)
    plain_expression (Character p v) = phrase.Number p (pos v) numeric.Int
    plain_expression (Name x) = phrase.Name (identifier x)
    plain_expression (CallExpression' x _ args) = phrase.Call (identifier x) (plain_expressions args)
    plain_expression (Create' p x _ args) = phrase.Create p (identifier x) (plain_expressions args)
    plain_expression (Putchar' p _ (more_of-Expression e end_of-Expression)) = phrase.PutChar p (plain_expression e)
    plain_expression (Getchar p) = phrase.GetChar p
    plain_expression (Printf' p f _ args) = phrase.PrintFormat p (format f) (plain_expressions args)
    plain_expression (Parenthesised' p _ (more_of-Expression e end_of-Expression)) = phrase.Parenthesized p (plain_expression e)

    pub plain_expressions : {n : _} → Row_of-Expression n → List Phrase
    plain_expressions end_of-Expression = []
    plain_expressions (more_of-Expression e rest) = plain_expression e ∷ plain_expressions rest

    pub equality_steps : {n : _} → Row_of-EqualityStep n → List Compared
    equality_steps end_of-EqualityStep = []
    equality_steps (more_of-EqualityStep o e rest) = compared (equality_comparison o) (plain_expression e) ∷ equality_steps rest

    pub order_steps : {n : _} → Row_of-OrderStep n → List Compared
    order_steps end_of-OrderStep = []
    order_steps (more_of-OrderStep o e rest) = compared (order_comparison o) (plain_expression e) ∷ order_steps rest

    pub sum_steps : {n : _} → Row_of-SumStep n → List Operation
    sum_steps end_of-SumStep = []
    sum_steps (more_of-SumStep o e rest) = operation (sum_operation o) (plain_expression e) ∷ sum_steps rest

    pub term_steps : {n : _} → Row_of-TermStep n → List Operation
    term_steps end_of-TermStep = []
    term_steps (more_of-TermStep o e rest) = operation (term_operation o) (plain_expression e) ∷ term_steps rest

    pub plain_steps : {n : _} → Row_of-Step n → List PlainStep
    plain_steps end_of-Step = []
    plain_steps (more_of-Step s rest) = plain_step s ∷ plain_steps rest

    pub plain_step : Step → PlainStep
    plain_step (Field x) = step.Field (identifier x)
    plain_step (CallStep' x _ args) = step.Call (identifier x) (plain_expressions args)
    plain_step (Index' _ (more_of-Expression e end_of-Expression)) = step.Index (plain_expression e)

  abbrev pub optional_expression : Option Expression → Option Phrase
  optional_expression None = None
  optional_expression (Some e) = Some (plain_expression e)

  -- ---- types and lengths

  abbrev pub type_of : TypeName → PlainTypeName
  type_of (type_name.Void p) = plain_type.Void p
  type_of (type_name.Char p) = plain_type.Number numeric.Char
  type_of (type_name.Int p) = plain_type.Number numeric.Int
  type_of (type_name.Long p) = plain_type.Number numeric.Long
  type_of (type_name.Structure p x) = plain_type.Structure (identifier x)
  type_of (type_name.Enumeration p x) = plain_type.Enumeration (identifier x)
  type_of (type_name.Process p x) = plain_type.Process (identifier x)

  abbrev pub length_of : Length → PlainLength
  length_of (some_length.Number p v s) = plain_length.Number p v
  length_of (some_length.Character p v) = plain_length.Number p (pos v)
  length_of (some_length.Name x) = plain_length.Name (identifier x)

  abbrev pub optional_length : Option Length → Option PlainLength
  optional_length None = None
  optional_length (Some n) = Some (length_of n)

  -- ---- local variables: each has the type that they share

  abbrev pub form_of : LocalDeclarator → LocalForm
  form_of (local_declarator.Plain x) = form.Plain
  form_of (local_declarator.Array x n) = form.Array (length_of n)
  form_of (local_declarator.Value x e) = form.Value (plain_expression e)

  abbrev pub name_of : LocalDeclarator → Identifier
  name_of (local_declarator.Plain x) = x
  name_of (local_declarator.Array x n) = x
  name_of (local_declarator.Value x e) = x

  abbrev pub local_of : TypeName → LocalDeclarator → PlainStatement
  local_of t d = statement.Declare (record { of = type_of t; name = identifier (name_of d); form = form_of d })

  -- ---- clauses, in the order written

  abbrev pub clause : ClauseWord → Expression → Clause
  clause w e = record { word = w; expression = plain_expression e }

  abbrev pub clauses_of : Clauses → List Clause
  clauses_of clauses.None = []
  clauses_of (clauses.Such e) = clause clause_word.SuchThat e ∷ []
  clauses_of (clauses.Least e) = clause clause_word.By e ∷ []
  clauses_of (clauses.SuchLeast e k) = clause clause_word.SuchThat e ∷ clause clause_word.By k ∷ []
  clauses_of (clauses.LeastSuch k e) = clause clause_word.By k ∷ clause clause_word.SuchThat e ∷ []

  abbrev pub accept_head : Place → Identifier → List Identifier → Clauses → AcceptHead
  accept_head p x xs c = record { place = p; name = identifier x; names = map identifier xs; clauses = clauses_of c }

  abbrev pub accept_part : AcceptHead → List PlainStatement → AcceptPart
  accept_part h block = record { head = h; block = block }

  abbrev pub alternative_of : Option Expression → PlainChoice × List PlainStatement → PlainAlternative
  alternative_of g v = record { guard = optional_expression g; choice = v.0; entries = v.1 }

  -- ---- statements
  unfoldable mutual
    pub entry : Entry → List PlainStatement
    entry (LocalEntry l) = map (local_of l.of) l.declarators
    entry (StatementEntry a) = plain_statement a ∷ []

    pub entries : {n : _} → Row_of-Entry n → List PlainStatement
    entries end_of-Entry = []
    entries (more_of-Entry a rest) = entry a ++ entries rest

    pub plain_statement : Statement → PlainStatement
    plain_statement (Empty p) = statement.Empty
    plain_statement (Block' _ all) = statement.Block (entries all)
    plain_statement (ExpressionStatement e) = statement.Evaluate (plain_expression e)
    plain_statement (If' p c _ (more_of-Statement a end_of-Statement)) = statement.If (plain_expression c) (plain_statement a)
    plain_statement (IfElse' p c _ (more_of-Statement a end_of-Statement) _ (more_of-Statement b end_of-Statement)) =
        statement.IfElse (plain_expression c) (plain_statement a) (plain_statement b)
    plain_statement (While' p c _ (more_of-Statement a end_of-Statement)) = statement.While (plain_expression c) (plain_statement a)
    plain_statement (Do' p _ (more_of-Statement a end_of-Statement) c) = statement.DoWhile (plain_statement a) (plain_expression c)
    plain_statement (For' p h _ (more_of-Statement a end_of-Statement)) =
        statement.For (optional_expression h.first) (optional_expression h.condition) (optional_expression h.step) (plain_statement a)
    plain_statement (Break p) = statement.Break p
    plain_statement (Continue p) = statement.Continue p
    plain_statement (Return p e) = statement.Return p (optional_expression e)
    plain_statement (Treturn p e) = statement.TransactionReturn p (optional_expression e)
    plain_statement (Delay p e) = statement.Delay (plain_expression e)
    plain_statement (Accept' _ (more_of-Accept p x xs c block end_of-Accept)) = statement.Accept (accept_part (accept_head p x xs c) (block_of block))
    plain_statement (Select' p _ all) = statement.Select p (alternatives all)

    pub block_of : Held-Accept-block → List PlainStatement
    block_of None' = []
    block_of (Some' _ all) = entries all

    pub alternatives : {n : _} → Row_of-Alternative n → List PlainAlternative
    alternatives end_of-Alternative = []
    alternatives (more_of-Alternative g c rest) = alternative_of g (choice_of c) ∷ alternatives rest

    -- what is offered, and the entries behind it
    pub choice_of : Choice → PlainChoice × List PlainStatement
    choice_of (AcceptChoice' p x xs c block _ all) = (choice.Accept (accept_part (accept_head p x xs c) (block_of block)), entries all)
    choice_of (DelayChoice' p e _ all) = (choice.Delay (plain_expression e), entries all)
    choice_of (Immediate' p _ all) = (choice.Immediate, entries all)
    choice_of (Terminate p) = (choice.Terminate, [])

  abbrev pub block_of_list : List Entry → List PlainStatement
  block_of_list [] = []
  block_of_list (a ∷ rest) = entry a ++ block_of_list rest

  -- ---- items

  abbrev pub field_of : TypeName → Declarator → PlainField
  field_of t d = record { of = type_of t; name = identifier d.name; length = optional_length d.length }

  abbrev pub fields_of : List TheField → List PlainField
  fields_of [] = []
  fields_of (f ∷ fs) = map (field_of f.of) f.declarators ++ fields_of fs

  abbrev pub value_of : Option ConstantValue → Option PlainConstantValue
  value_of None = None
  value_of (Some v) = Some (record { negative = v.negative; length = length_of v.length })

  abbrev pub constant_of : Constant → PlainConstant
  constant_of c = record { name = identifier c.name; value = value_of c.value }

  -- the names of the parameters of transactions and specifications declare nothing
  abbrev pub parameter_type : TransactionParameter → PlainTypeName
  parameter_type p = type_of p.of

  abbrev pub optional_type : Option TypeName → Option PlainTypeName
  optional_type None = None
  optional_type (Some t) = Some (type_of t)

  abbrev pub transaction_of : Transaction → PlainTransaction
  transaction_of d = record { result = optional_type d.result; name = identifier d.name; parameters = map parameter_type d.parameters }

  abbrev pub transactions_of : Option (List Transaction) → List PlainTransaction
  transactions_of None = []
  transactions_of (Some ds) = map transaction_of ds

  abbrev pub parameter_of : Parameter → PlainParameter
  parameter_of p = record { of = type_of p.of; name = identifier p.name }

  -- a function without a type is of type `int`
  abbrev pub type_or_int : Option TypeName → PlainTypeName
  type_or_int None = plain_type.Number numeric.Int
  type_or_int (Some t) = type_of t

  abbrev pub optional_identifier : Option Identifier → Option PlainIdentifier
  optional_identifier None = None
  optional_identifier (Some x) = Some (identifier x)

  abbrev pub item_of : Item → PlainItem
  item_of (item.Structure x fields) = plain_item.Structure (identifier x) (fields_of fields)
  item_of (item.Enumeration x cs) = plain_item.Enumeration (optional_identifier x) (map constant_of cs)
  item_of (item.Specification x ps ds) = plain_item.Specification (identifier x) (map parameter_type ps) (transactions_of ds)
  item_of (item.Body x xs block) = plain_item.Body (identifier x) (map identifier xs) (block_of_list block)
  item_of (item.Function t f) =
      plain_item.Function (type_or_int t) (identifier f.name) (map parameter_of f.parameters) (block_of_list f.block)

-- the plain tree of a text whose names and formats are these, by their numbers
abbrev pub plain_with : List (List ℕ) → List (List ℕ) → Tree → Plain
plain_with names formats t = record { names = length names; formats = formats; items = map (item_of names formats) t.items }

-- the plain tree of a text, with the numbers of its names and formats
unfoldable pub plain : Tree → Plain
plain t = plain_with (numbered (names_among (in_items t.items))) (once [] (formats_among (in_items t.items))) t
