-- The tree of each symbol, and how it is made from what its rule reads.
use Rattle.std.specs.Prelude.{ℕ, ℤ, pos, Bool, true, false, List, [], ◌∷◌, Option, Some, None, ◌⊎◌}
use Rattle.std.proofs.Common.{inl, inr}
use Rattle.cc_base.specs.declared.names.Place.{Place}
use Rattle.cc_lex.specs.declared.token.Size.{Size}
use Rattle.cc_lex.specs.declared.token.Size.TheVariants as size
use Rattle.cc_lex.specs.declared.token.Token.{Token}
use Rattle.cc_lex.specs.declared.token.What.{What}
use Rattle.cc_lex.specs.declared.token.What.TheVariants as what
use Rattle.cc_grammar.specs.Ebnf.{Ebnf, tok, seq, alt, many, opt, ref, nest}
use Rattle.cc_grammar.specs.Grammar.{rule}
use Rattle.cc_grammar.specs.Symbols.{Symbol}
use Rattle.cc_grammar.specs.Symbols as the
use Rattle.cc_grammar.specs.declared.tree.Accept.{Accept, roll-Accept}
use Rattle.cc_grammar.specs.declared.tree.Alternative.{Alternative, roll-Alternative}
use Rattle.cc_grammar.specs.declared.tree.AssignOperator.TheVariants as assign_operator
use Rattle.cc_grammar.specs.declared.tree.AssignOperator.{AssignOperator}
use Rattle.cc_grammar.specs.declared.tree.Choice.TheVariants as choice
use Rattle.cc_grammar.specs.declared.tree.Choice.{Choice}
use Rattle.cc_grammar.specs.declared.tree.Clauses.TheVariants as clauses
use Rattle.cc_grammar.specs.declared.tree.Clauses.{Clauses}
use Rattle.cc_grammar.specs.declared.tree.Constant.{Constant}
use Rattle.cc_grammar.specs.declared.tree.ConstantValue.{ConstantValue}
use Rattle.cc_grammar.specs.declared.tree.Declarator.{Declarator}
use Rattle.cc_grammar.specs.declared.tree.Entry.TheVariants as entry
use Rattle.cc_grammar.specs.declared.tree.Entry.{Entry}
use Rattle.cc_grammar.specs.declared.tree.EqualityOperator.TheVariants as equality_operator
use Rattle.cc_grammar.specs.declared.tree.EqualityOperator.{EqualityOperator}
use Rattle.cc_grammar.specs.declared.tree.EqualityStep.{EqualityStep, roll-EqualityStep}
use Rattle.cc_grammar.specs.declared.tree.Expression.TheVariants as expression
use Rattle.cc_grammar.specs.declared.tree.Expression.{Expression}
use Rattle.cc_grammar.specs.declared.tree.Field.{Field}
use Rattle.cc_grammar.specs.declared.tree.ForHeader.{ForHeader}
use Rattle.cc_grammar.specs.declared.tree.Format.{Format}
use Rattle.cc_grammar.specs.declared.tree.Function.{Function}
use Rattle.cc_grammar.specs.declared.tree.Identifier.{Identifier}
use Rattle.cc_grammar.specs.declared.tree.Item.TheVariants as item
use Rattle.cc_grammar.specs.declared.tree.Item.{Item}
use Rattle.cc_grammar.specs.declared.tree.Length.TheVariants as some_length
use Rattle.cc_grammar.specs.declared.tree.Length.{Length}
use Rattle.cc_grammar.specs.declared.tree.Local.{Local}
use Rattle.cc_grammar.specs.declared.tree.LocalDeclarator.TheVariants as local_declarator
use Rattle.cc_grammar.specs.declared.tree.LocalDeclarator.{LocalDeclarator}
use Rattle.cc_grammar.specs.declared.tree.OrderOperator.TheVariants as order_operator
use Rattle.cc_grammar.specs.declared.tree.OrderOperator.{OrderOperator}
use Rattle.cc_grammar.specs.declared.tree.OrderStep.{OrderStep, roll-OrderStep}
use Rattle.cc_grammar.specs.declared.tree.Parameter.{Parameter}
use Rattle.cc_grammar.specs.declared.tree.Prefix.{Prefix}
use Rattle.cc_grammar.specs.declared.tree.PrefixOperator.TheVariants as prefix_operator
use Rattle.cc_grammar.specs.declared.tree.Statement.TheVariants as statement
use Rattle.cc_grammar.specs.declared.tree.Statement.{Statement}
use Rattle.cc_grammar.specs.declared.tree.Step.TheVariants as step
use Rattle.cc_grammar.specs.declared.tree.Step.{Step}
use Rattle.cc_grammar.specs.declared.tree.SuffixOperator.TheVariants as suffix_operator
use Rattle.cc_grammar.specs.declared.tree.SuffixOperator.{SuffixOperator}
use Rattle.cc_grammar.specs.declared.tree.SumOperator.TheVariants as sum_operator
use Rattle.cc_grammar.specs.declared.tree.SumOperator.{SumOperator}
use Rattle.cc_grammar.specs.declared.tree.SumStep.{SumStep, roll-SumStep}
use Rattle.cc_grammar.specs.declared.tree.TermOperator.TheVariants as term_operator
use Rattle.cc_grammar.specs.declared.tree.TermOperator.{TermOperator}
use Rattle.cc_grammar.specs.declared.tree.TermStep.{TermStep, roll-TermStep}
use Rattle.cc_grammar.specs.declared.tree.Transaction.{Transaction}
use Rattle.cc_grammar.specs.declared.tree.TransactionParameter.{TransactionParameter}
use Rattle.cc_grammar.specs.declared.tree.Tree.{Tree}
use Rattle.cc_grammar.specs.declared.tree.TypeName.TheVariants as type_name
use Rattle.cc_grammar.specs.declared.tree.TypeName.{TypeName}

abbrev pub TreeOf : Symbol → Type 0
TreeOf the.text = Tree
TreeOf the.item = Item
TreeOf the.structure = Item
TreeOf the.fields = List Field
TreeOf the.field_list = List Field
TreeOf the.enumeration = Item
TreeOf the.constants = List Constant
TreeOf the.constant_list = List Constant
TreeOf the.next_constant = Constant
TreeOf the.process = Item
TreeOf the.specification = Item
TreeOf the.specification_end = Option (List Transaction)
TreeOf the.transactions = List Transaction
TreeOf the.body = Item
TreeOf the.typed_function = Item
TreeOf the.function = Function
TreeOf the.type = TypeName
TreeOf the.simple_type = TypeName
TreeOf the.number_type = TypeName
TreeOf the.named_type = TypeName
TreeOf the.field = Field
TreeOf the.declarators = List Declarator
TreeOf the.next_declarator = Declarator
TreeOf the.declarator = Declarator
TreeOf the.array_length = Length
TreeOf the.constant = Constant
TreeOf the.constant_value = ConstantValue
TreeOf the.signed_length = ConstantValue
TreeOf the.length = Length
TreeOf the.transaction = Transaction
TreeOf the.transaction_type = Option TypeName
TreeOf the.transaction_head = Identifier × List TransactionParameter
TreeOf the.signature = List TransactionParameter
TreeOf the.transaction_parameters = List TransactionParameter
TreeOf the.next_transaction_parameter = TransactionParameter
TreeOf the.transaction_parameter = TransactionParameter
TreeOf the.parameter_list = List Parameter
TreeOf the.parameters = List Parameter
TreeOf the.parameters_from_void = List Parameter
TreeOf the.parameters_from_value = List Parameter
TreeOf the.value_type = TypeName
TreeOf the.parameters_from_name = Identifier × List Parameter
TreeOf the.next_parameter = Parameter
TreeOf the.parameter = Parameter
TreeOf the.names = List Identifier
TreeOf the.next_name = Identifier
TreeOf the.parameter_names = List Identifier
TreeOf the.optional_names = List Identifier
TreeOf the.block = List Entry
TreeOf the.closed_entries = List Entry
TreeOf the.entries = List Entry
TreeOf the.entry = Entry
TreeOf the.local = Local
TreeOf the.ended_local_declarators = List LocalDeclarator
TreeOf the.local_declarators = List LocalDeclarator
TreeOf the.next_local_declarator = LocalDeclarator
TreeOf the.local_declarator = LocalDeclarator
TreeOf the.initialiser = Expression
TreeOf the.statement = Statement
TreeOf the.expression_statement = Statement
TreeOf the.ended_assign = Expression
TreeOf the.control_statement = Statement
TreeOf the.if_statement = Statement
TreeOf the.condition = Expression
TreeOf the.branches = Statement × Option Statement
TreeOf the.otherwise = Statement
TreeOf the.while_statement = Statement
TreeOf the.while_loop = Expression × Statement
TreeOf the.do_statement = Statement
TreeOf the.do_loop = Statement × Expression
TreeOf the.do_body = Statement
TreeOf the.ended_condition = Expression
TreeOf the.for_statement = Statement
TreeOf the.for_loop = ForHeader × Statement
TreeOf the.for_header = ForHeader
TreeOf the.for_parts = ForHeader
TreeOf the.for_rest = Option Expression × Option Expression
TreeOf the.ended_optional_assign = Option Expression
TreeOf the.for_step = Option Expression
TreeOf the.optional_assign = Option Expression
TreeOf the.jump_statement = Statement
TreeOf the.break_statement = Statement
TreeOf the.continue_statement = Statement
TreeOf the.return_statement = Statement
TreeOf the.treturn_statement = Statement
TreeOf the.process_statement = Statement
TreeOf the.delay_statement = Statement
TreeOf the.select_statement = Statement
TreeOf the.closed_alternatives = List Alternative
TreeOf the.alternatives = List Alternative
TreeOf the.next_alternative = Alternative
TreeOf the.accept = Accept
TreeOf the.accept_head = Identifier × List Identifier
TreeOf the.accept_rest = Clauses × Option (List Entry)
TreeOf the.optional_clauses = Clauses
TreeOf the.accept_block = Option (List Entry)
TreeOf the.clauses = Clauses
TreeOf the.such = Expression
TreeOf the.least = Expression
TreeOf the.alternative = Alternative
TreeOf the.guard = Expression
TreeOf the.choice = Choice
TreeOf the.accept_choice = Choice
TreeOf the.delay_choice = Choice
TreeOf the.delay_rest = Expression × List Entry
TreeOf the.immediate_choice = Choice
TreeOf the.terminate_choice = Choice
TreeOf the.assign = Expression
TreeOf the.timed = Expression
TreeOf the.timed_rest = Expression × Expression × Expression
TreeOf the.wait = Expression
TreeOf the.timed_postfix = Expression
TreeOf the.untimed = Expression
TreeOf the.store = AssignOperator × Expression
TreeOf the.assign_operator = AssignOperator
TreeOf the.conditional = Expression
TreeOf the.arms = Expression × Expression
TreeOf the.then_arm = Expression
TreeOf the.disjunction = Expression
TreeOf the.next_conjunction = Expression
TreeOf the.conjunction = Expression
TreeOf the.next_equality = Expression
TreeOf the.equality = Expression
TreeOf the.equality_step = EqualityStep
TreeOf the.equality_operator = EqualityOperator
TreeOf the.order = Expression
TreeOf the.order_step = OrderStep
TreeOf the.order_operator = OrderOperator
TreeOf the.sum = Expression
TreeOf the.sum_step = SumStep
TreeOf the.sum_operator = SumOperator
TreeOf the.term = Expression
TreeOf the.term_step = TermStep
TreeOf the.term_operator = TermOperator
TreeOf the.unary = Expression
TreeOf the.prefixed = Expression
TreeOf the.prefix = Prefix
TreeOf the.postfix = Expression
TreeOf the.step = Step
TreeOf the.selection = Step
TreeOf the.index = Step
TreeOf the.index_value = Expression
TreeOf the.optional_suffix = Option SuffixOperator
TreeOf the.suffix = SuffixOperator
TreeOf the.primary = Expression
TreeOf the.literal = Expression
TreeOf the.named = Expression
TreeOf the.create = Expression
TreeOf the.library_call = Expression
TreeOf the.putchar = Expression
TreeOf the.getchar = Expression
TreeOf the.printf = Expression
TreeOf the.format_and_arguments = Format × List Expression
TreeOf the.parenthesised = Expression
TreeOf the.parenthesised_value = Expression
TreeOf the.arguments = List Expression
TreeOf the.next_argument = Expression
TreeOf the.argument_list = List Expression

-- what a form reads: of a row its parts, of a choice the way taken, and so on
abbrev pub Value : Ebnf → Type 0
Value (tok k) = Token
Value (seq a b) = Value a × Value b
Value (alt a b) = Value a ⊎ Value b
Value (many a) = List (Value a)
Value (opt a) = Option (Value a)
Value (ref s) = TreeOf s
Value (nest s) = TreeOf s

-- ---- what is kept of a token

abbrev pub name_bytes : What → List ℕ
name_bytes (what.Name bytes) = bytes
name_bytes _ = []

abbrev pub number_value : What → ℤ
number_value (what.Number value size) = value
number_value _ = pos 0

abbrev pub number_size : What → Size
number_size (what.Number value size) = size
number_size _ = size.Int

abbrev pub character_byte : What → ℕ
character_byte (what.Character byte) = byte
character_byte _ = 0

abbrev pub string_bytes : What → List ℕ
string_bytes (what.String bytes) = bytes
string_bytes _ = []

abbrev pub identifier : Token → Identifier
identifier t = record { place = t.place; name = name_bytes t.what }

abbrev pub some_identifier : Option Token → Option Identifier
some_identifier None = None
some_identifier (Some t) = Some (identifier t)

abbrev pub format : Token → Format
format t = record { place = t.place; bytes = string_bytes t.what }

-- ---- items

-- a list of which at least one part is there
abbrev pub listed : {A : Type 0} → Option (A × List A) → List A
listed None = []
listed (Some v) = v.0 ∷ v.1

-- a list that may be left out
abbrev pub or_empty : {A : Type 0} → Option (List A) → List A
or_empty None = []
or_empty (Some xs) = xs

abbrev pub item_of : Value (rule the.item) → Item
item_of (inl x) = x
item_of (inr (inl x)) = x
item_of (inr (inr (inl x))) = x
item_of (inr (inr (inr (inl x)))) = x
item_of (inr (inr (inr (inr f)))) = item.Function None f

abbrev pub structure_of : Token → Identifier → List Field ⊎ Function → Item
structure_of t n (inl fields) = item.Structure n fields
structure_of t n (inr f) = item.Function (Some (type_name.Structure t.place n)) f

abbrev pub named_enumeration : Token → Identifier → List Constant ⊎ Function → Item
named_enumeration t n (inl constants) = item.Enumeration (Some n) constants
named_enumeration t n (inr f) = item.Function (Some (type_name.Enumeration t.place n)) f

abbrev pub enumeration_of : Token → List Constant ⊎ (Token × (List Constant ⊎ Function)) → Item
enumeration_of t (inl constants) = item.Enumeration None constants
enumeration_of t (inr v) = named_enumeration t (identifier v.0) v.1

abbrev pub process_of : Token → Item ⊎ (Item ⊎ (Token × Function)) → Item
process_of t (inl x) = x
process_of t (inr (inl x)) = x
process_of t (inr (inr v)) = item.Function (Some (type_name.Process t.place (identifier v.0))) v.1

abbrev pub void_or : Token ⊎ TypeName → TypeName
void_or (inl t) = type_name.Void t.place
void_or (inr x) = x

abbrev pub type_of : TypeName ⊎ TypeName → TypeName
type_of (inl x) = x
type_of (inr x) = x

abbrev pub number_type_of : Token ⊎ (Token ⊎ Token) → TypeName
number_type_of (inl t) = type_name.Char t.place
number_type_of (inr (inl t)) = type_name.Int t.place
number_type_of (inr (inr t)) = type_name.Long t.place

abbrev pub named_type_of : Value (rule the.named_type) → TypeName
named_type_of (inl v) = type_name.Structure v.0.place (identifier v.1)
named_type_of (inr (inl v)) = type_name.Enumeration v.0.place (identifier v.1)
named_type_of (inr (inr v)) = type_name.Process v.0.place (identifier v.1)

-- the type that stands first, of the two kinds that are no `void`
abbrev pub value_type_of : TypeName ⊎ TypeName → TypeName
value_type_of (inl x) = x
value_type_of (inr x) = x

abbrev pub stands : {A : Type 0} → Option A → Bool
stands None = false
stands (Some x) = true

abbrev pub length_of : Value (rule the.length) → Length
length_of (inl t) = some_length.Number t.place (number_value t.what) (number_size t.what)
length_of (inr (inl t)) = some_length.Character t.place (character_byte t.what)
length_of (inr (inr t)) = some_length.Name (identifier t)

-- an asynchronous transaction has no type
abbrev pub result_of : Token ⊎ TypeName → Option TypeName
result_of (inl t) = None
result_of (inr x) = Some x

abbrev pub transaction_of : Option TypeName → Identifier × List TransactionParameter → Transaction
transaction_of x (n, ps) = record { result = x; name = n; parameters = ps }

-- one `void` without a name
abbrev pub is_void : TransactionParameter → Bool
is_void p = elim p.of [ type_name.Void place ↦ elim p.name [ None ↦ true | Some n ↦ false ] | _ ↦ false ]

-- A list of one `void` without a name is empty.
abbrev pub without_void : List TransactionParameter → List TransactionParameter
without_void [] = []
without_void (p ∷ []) = elim (is_void p) [ true ↦ [] | false ↦ p ∷ [] ]
without_void (p ∷ q ∷ more) = p ∷ q ∷ more

abbrev pub parameter_of : TypeName → Identifier → Parameter
parameter_of x n = record { of = x; name = n }

-- a parameter of this type, and those behind it
abbrev pub named_from : TypeName → Identifier × List Parameter → List Parameter
named_from x (n, more) = parameter_of x n ∷ more

-- Where nothing stands behind the first `void`, there is no parameter.
abbrev pub from_void : Token → Option (Identifier × List Parameter) → List Parameter
from_void t None = []
from_void t (Some v) = named_from (type_name.Void t.place) v

abbrev pub parameters_of : Option (List Parameter ⊎ List Parameter) → List Parameter
parameters_of None = []
parameters_of (Some (inl xs)) = xs
parameters_of (Some (inr xs)) = xs

-- ---- statements

abbrev pub entry_of : Local ⊎ Statement → Entry
entry_of (inl x) = entry.Local x
entry_of (inr x) = entry.Statement x

abbrev pub local_declarator_of : Identifier → Option (Length ⊎ Expression) → LocalDeclarator
local_declarator_of n None = local_declarator.Plain n
local_declarator_of n (Some (inl l)) = local_declarator.Array n l
local_declarator_of n (Some (inr x)) = local_declarator.Value n x

abbrev pub statement_of : Value (rule the.statement) → Statement
statement_of (inl t) = statement.Empty t.place
statement_of (inr (inl x)) = statement.Block x
statement_of (inr (inr (inl x))) = x
statement_of (inr (inr (inr (inl x)))) = x
statement_of (inr (inr (inr (inr (inl x))))) = x
statement_of (inr (inr (inr (inr (inr x))))) = x

abbrev pub control_of : Value (rule the.control_statement) → Statement
control_of (inl x) = x
control_of (inr (inl x)) = x
control_of (inr (inr (inl x))) = x
control_of (inr (inr (inr x))) = x

abbrev pub jump_of : Value (rule the.jump_statement) → Statement
jump_of (inl x) = x
jump_of (inr (inl x)) = x
jump_of (inr (inr (inl x))) = x
jump_of (inr (inr (inr x))) = x

abbrev pub process_statement_of : Value (rule the.process_statement) → Statement
process_statement_of (inl x) = x
process_statement_of (inr (inl x)) = statement.Accept x
process_statement_of (inr (inr x)) = x

abbrev pub if_of : Place → Expression → Statement × Option Statement → Statement
if_of p c (s, None) = statement.If p c s
if_of p c (s, Some t) = statement.IfElse p c s t

abbrev pub while_of : Place → Expression × Statement → Statement
while_of p (c, s) = statement.While p c s

abbrev pub do_of : Place → Statement × Expression → Statement
do_of p (s, c) = statement.Do p s c

abbrev pub for_header_of : Option Expression → Option Expression × Option Expression → ForHeader
for_header_of f (c, s) = record { first = f; condition = c; step = s }

abbrev pub for_of : Place → ForHeader × Statement → Statement
for_of p (h, s) = statement.For p h s

abbrev pub some_block : List Entry ⊎ Token → Option (List Entry)
some_block (inl b) = Some b
some_block (inr t) = None

abbrev pub accept_of : Place → Identifier × List Identifier → Clauses × Option (List Entry) → Accept
accept_of p (n, ns) (c, b) = roll-Accept (record { place = p; name = n; names = ns; clauses = c; block = b })

abbrev pub no_clauses : Option Clauses → Clauses
no_clauses None = clauses.None
no_clauses (Some c) = c

abbrev pub clauses_of : Value (rule the.clauses) → Clauses
clauses_of (inl (s, None)) = clauses.Such s
clauses_of (inl (s, Some l)) = clauses.SuchLeast s l
clauses_of (inr (l, None)) = clauses.Least l
clauses_of (inr (l, Some s)) = clauses.LeastSuch l s

abbrev pub delay_of : Place → Expression × List Entry → Choice
delay_of p (w, es) = choice.Delay p w es

abbrev pub choice_of : Value (rule the.choice) → Choice
choice_of (inl x) = x
choice_of (inr (inl x)) = x
choice_of (inr (inr (inl x))) = x
choice_of (inr (inr (inr x))) = x

-- ---- expressions

abbrev pub stored : Expression → Option (AssignOperator × Expression) → Expression
stored x None = x
stored x (Some v) = expression.Store x v.0 v.1

abbrev pub timed_of : Place → Expression × Expression × Expression → Expression
timed_of p (w, c, x) = expression.Within p w c x

abbrev pub assign_of : Expression ⊎ Expression → Expression
assign_of (inl x) = x
assign_of (inr x) = x

abbrev pub assign_operator_of : Value (rule the.assign_operator) → AssignOperator
assign_operator_of (inl t) = assign_operator.Set
assign_operator_of (inr (inl t)) = assign_operator.Add
assign_operator_of (inr (inr (inl t))) = assign_operator.Subtract
assign_operator_of (inr (inr (inr (inl t)))) = assign_operator.Multiply
assign_operator_of (inr (inr (inr (inr (inl t))))) = assign_operator.Divide
assign_operator_of (inr (inr (inr (inr (inr t))))) = assign_operator.Remainder

abbrev pub conditional_of : Expression → Option (Expression × Expression) → Expression
conditional_of x None = x
conditional_of x (Some v) = expression.Choice x v.0 v.1

-- A row of one operand is that operand.
abbrev pub disjunction_of : Expression → List Expression → Expression
disjunction_of x [] = x
disjunction_of x (y ∷ more) = expression.Disjunction x (y ∷ more)

abbrev pub conjunction_of : Expression → List Expression → Expression
conjunction_of x [] = x
conjunction_of x (y ∷ more) = expression.Conjunction x (y ∷ more)

abbrev pub equality_of : Expression → List EqualityStep → Expression
equality_of x [] = x
equality_of x (y ∷ more) = expression.Equality x (y ∷ more)

abbrev pub order_of : Expression → List OrderStep → Expression
order_of x [] = x
order_of x (y ∷ more) = expression.Order x (y ∷ more)

abbrev pub sum_of : Expression → List SumStep → Expression
sum_of x [] = x
sum_of x (y ∷ more) = expression.Sum x (y ∷ more)

abbrev pub term_of : Expression → List TermStep → Expression
term_of x [] = x
term_of x (y ∷ more) = expression.Term x (y ∷ more)

-- A primary expression with nothing behind it is itself.
abbrev pub postfix_of : Expression → List Step → Option SuffixOperator → Expression
postfix_of x [] None = x
postfix_of x [] (Some o) = expression.Postfix x [] (Some o)
postfix_of x (y ∷ more) o = expression.Postfix x (y ∷ more) o

abbrev pub equality_operator_of : Token ⊎ Token → EqualityOperator
equality_operator_of (inl t) = equality_operator.Equal
equality_operator_of (inr t) = equality_operator.NotEqual

abbrev pub order_operator_of : Value (rule the.order_operator) → OrderOperator
order_operator_of (inl t) = order_operator.Less
order_operator_of (inr (inl t)) = order_operator.LessEqual
order_operator_of (inr (inr (inl t))) = order_operator.Greater
order_operator_of (inr (inr (inr t))) = order_operator.GreaterEqual

abbrev pub sum_operator_of : Token ⊎ Token → SumOperator
sum_operator_of (inl t) = sum_operator.Plus
sum_operator_of (inr t) = sum_operator.Minus

abbrev pub term_operator_of : Value (rule the.term_operator) → TermOperator
term_operator_of (inl t) = term_operator.Times
term_operator_of (inr (inl t)) = term_operator.Divide
term_operator_of (inr (inr t)) = term_operator.Remainder

abbrev pub unary_of : Expression ⊎ Expression → Expression
unary_of (inl x) = x
unary_of (inr x) = x

abbrev pub prefix_of : Value (rule the.prefix) → Prefix
prefix_of (inl t) = record { place = t.place; operator = prefix_operator.Minus }
prefix_of (inr (inl t)) = record { place = t.place; operator = prefix_operator.Plus }
prefix_of (inr (inr (inl t))) = record { place = t.place; operator = prefix_operator.Not }
prefix_of (inr (inr (inr (inl t)))) = record { place = t.place; operator = prefix_operator.Increment }
prefix_of (inr (inr (inr (inr t)))) = record { place = t.place; operator = prefix_operator.Decrement }

abbrev pub selected : Identifier → Option (List Expression) → Step
selected n None = step.Field n
selected n (Some xs) = step.Call n xs

abbrev pub step_of : Value (rule the.step) → Step
step_of (inl x) = x
step_of (inr x) = x

abbrev pub suffix_of : Token ⊎ Token → SuffixOperator
suffix_of (inl t) = suffix_operator.Increment
suffix_of (inr t) = suffix_operator.Decrement

abbrev pub named : Identifier → Option (List Expression) → Expression
named n None = expression.Name n
named n (Some xs) = expression.Call n xs

abbrev pub literal_of : Token ⊎ Token → Expression
literal_of (inl t) = expression.Number t.place (number_value t.what) (number_size t.what)
literal_of (inr t) = expression.Character t.place (character_byte t.what)

abbrev pub library_call_of : Value (rule the.library_call) → Expression
library_call_of (inl x) = x
library_call_of (inr (inl x)) = x
library_call_of (inr (inr x)) = x

abbrev pub printf_of : Place → Format × List Expression → Expression
printf_of p (f, xs) = expression.Printf p f xs

abbrev pub primary_of : Value (rule the.primary) → Expression
primary_of (inl x) = x
primary_of (inr (inl x)) = x
primary_of (inr (inr (inl x))) = x
primary_of (inr (inr (inr (inl x)))) = x
primary_of (inr (inr (inr (inr x)))) = x

-- ---- the tree of each symbol

abbrev pub made : (s : Symbol) → Value (rule s) → TreeOf s
made the.text v = record { items = v }
made the.item v = item_of v
made the.structure v = structure_of v.0 (identifier v.1.0) v.1.1
made the.fields v = v.1.0
made the.field_list v = v.0 ∷ v.1
made the.enumeration v = enumeration_of v.0 v.1
made the.constants v = v.1.0
made the.constant_list v = v.0 ∷ v.1
made the.next_constant v = v.1
made the.process v = process_of v.0 v.1
made the.specification v = item.Specification (identifier v.1.0) v.1.1.0 v.1.1.1
made the.specification_end v = v.0
made the.transactions v = v.1.0
made the.body v = item.Body (identifier v.1.0) v.1.1.0 v.1.1.1
made the.typed_function v = item.Function (Some v.0) v.1
made the.function v = record { name = identifier v.0; parameters = v.1.0; block = v.1.1 }
made the.type v = type_of v
made the.simple_type v = void_or v
made the.number_type v = number_type_of v
made the.named_type v = named_type_of v
made the.field v = record { of = v.0; declarators = v.1.0 }
made the.declarators v = v.0 ∷ v.1
made the.next_declarator v = v.1
made the.declarator v = record { name = identifier v.0; length = v.1 }
made the.array_length v = v.1.0
made the.constant v = record { name = identifier v.0; value = v.1 }
made the.constant_value v = v.1
made the.signed_length v = record { negative = stands v.0; length = v.1 }
made the.length v = length_of v
made the.transaction v = transaction_of v.1.0 v.1.1.0
made the.transaction_type v = result_of v
made the.transaction_head v = (identifier v.0, v.1)
made the.signature v = v.1.0
made the.transaction_parameters v = without_void (listed v)
made the.next_transaction_parameter v = v.1
made the.transaction_parameter v = record { of = v.0; name = some_identifier v.1 }
made the.parameter_list v = v.1.0
made the.parameters v = parameters_of v
made the.parameters_from_void v = from_void v.0 v.1
made the.parameters_from_value v = named_from v.0 v.1
made the.value_type v = value_type_of v
made the.parameters_from_name v = (identifier v.0, v.1)
made the.next_parameter v = v.1
made the.parameter v = parameter_of v.0 (identifier v.1)
made the.names v = identifier v.0 ∷ v.1
made the.next_name v = identifier v.1
made the.parameter_names v = v.1.0
made the.optional_names v = or_empty v
made the.block v = v.1
made the.closed_entries v = v.0
made the.entries v = v
made the.entry v = entry_of v
made the.local v = record { of = v.0; declarators = v.1 }
made the.ended_local_declarators v = v.0
made the.local_declarators v = v.0 ∷ v.1
made the.next_local_declarator v = v.1
made the.local_declarator v = local_declarator_of (identifier v.0) v.1
made the.initialiser v = v.1
made the.statement v = statement_of v
made the.expression_statement v = statement.Expression v
made the.ended_assign v = v.0
made the.control_statement v = control_of v
made the.if_statement v = if_of v.0.place v.1.0 v.1.1
made the.condition v = v.1.0
made the.branches v = (v.0, v.1)
made the.otherwise v = v.1
made the.while_statement v = while_of v.0.place v.1
made the.while_loop v = (v.0, v.1)
made the.do_statement v = do_of v.0.place v.1
made the.do_loop v = (v.0, v.1)
made the.do_body v = v.0
made the.ended_condition v = v.0
made the.for_statement v = for_of v.0.place v.1
made the.for_loop v = (v.0, v.1)
made the.for_header v = v.1
made the.for_parts v = for_header_of v.0 v.1
made the.for_rest v = (v.0, v.1)
made the.ended_optional_assign v = v.0
made the.for_step v = v.0
made the.optional_assign v = v
made the.jump_statement v = jump_of v
made the.break_statement v = statement.Break v.0.place
made the.continue_statement v = statement.Continue v.0.place
made the.return_statement v = statement.Return v.0.place v.1
made the.treturn_statement v = statement.Treturn v.0.place v.1
made the.process_statement v = process_statement_of v
made the.delay_statement v = statement.Delay v.0.place v.1
made the.select_statement v = statement.Select v.0.place v.1.1
made the.closed_alternatives v = v.0
made the.alternatives v = v.0 ∷ v.1
made the.next_alternative v = v.1
made the.accept v = accept_of v.0.place v.1.0 v.1.1
made the.accept_head v = (identifier v.0, v.1)
made the.accept_rest v = (v.0, v.1)
made the.optional_clauses v = no_clauses v
made the.accept_block v = some_block v
made the.clauses v = clauses_of v
made the.such v = v.1
made the.least v = v.1
made the.alternative v = roll-Alternative (record { guard = v.0; choice = v.1 })
made the.guard v = v.0
made the.choice v = choice_of v
made the.accept_choice v = choice.Accept v.0 v.1
made the.delay_choice v = delay_of v.0.place v.1
made the.delay_rest v = (v.0, v.1)
made the.immediate_choice v = choice.Immediate v.0.place v.1.1
made the.terminate_choice v = choice.Terminate v.0.place
made the.assign v = assign_of v
made the.timed v = timed_of v.0.place v.1
made the.timed_rest v = (v.0, v.1.0, v.1.1)
made the.wait v = v.0
made the.timed_postfix v = v.0
made the.untimed v = stored v.0 v.1
made the.store v = v
made the.assign_operator v = assign_operator_of v
made the.conditional v = conditional_of v.0 v.1
made the.arms v = (v.0, v.1)
made the.then_arm v = v.1.0
made the.disjunction v = disjunction_of v.0 v.1
made the.next_conjunction v = v.1
made the.conjunction v = conjunction_of v.0 v.1
made the.next_equality v = v.1
made the.equality v = equality_of v.0 v.1
made the.equality_step v = roll-EqualityStep (record { operator = v.0; operand = v.1 })
made the.equality_operator v = equality_operator_of v
made the.order v = order_of v.0 v.1
made the.order_step v = roll-OrderStep (record { operator = v.0; operand = v.1 })
made the.order_operator v = order_operator_of v
made the.sum v = sum_of v.0 v.1
made the.sum_step v = roll-SumStep (record { operator = v.0; operand = v.1 })
made the.sum_operator v = sum_operator_of v
made the.term v = term_of v.0 v.1
made the.term_step v = roll-TermStep (record { operator = v.0; operand = v.1 })
made the.term_operator v = term_operator_of v
made the.unary v = unary_of v
made the.prefixed v = expression.Prefixed v.0 v.1
made the.prefix v = prefix_of v
made the.postfix v = postfix_of v.0 v.1.0 v.1.1
made the.step v = step_of v
made the.selection v = selected (identifier v.1.0) v.1.1
made the.index v = step.Index v.1
made the.index_value v = v.0
made the.optional_suffix v = v
made the.suffix v = suffix_of v
made the.primary v = primary_of v
made the.literal v = literal_of v
made the.named v = named (identifier v.0) v.1
made the.create v = expression.Create v.0.place (identifier v.1.0) v.1.1
made the.library_call v = library_call_of v
made the.putchar v = expression.Putchar v.0.place v.1
made the.getchar v = expression.Getchar v.0.place
made the.printf v = printf_of v.0.place v.1.1.0
made the.format_and_arguments v = (format v.0, v.1)
made the.parenthesised v = expression.Parenthesised v.0.place v.1
made the.parenthesised_value v = v.0
made the.arguments v = listed v
made the.next_argument v = v.1
made the.argument_list v = v.1.0
