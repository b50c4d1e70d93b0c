-- Which kinds of token begin a phrase.
use Rattle.std.specs.Prelude.{Bool, true, false, ◌||◌, ◌&&◌, ◌==◌, if◌then◌else◌, List, [], ◌∷◌, ◌++◌}
use Rattle.cc_lex.specs.declared.token.Mark.TheVariants as mark
use Rattle.cc_lex.specs.declared.token.Word.TheVariants as word
use Rattle.cc_grammar.specs.Ebnf.{Ebnf, tok, seq, alt, many, opt, ref, nest}
use Rattle.cc_grammar.specs.Kinds.{Kind, a_name, a_number, a_character, a_string, word_kind, mark_kind}
use Rattle.cc_grammar.specs.Symbols.{Symbol}
use Rattle.cc_grammar.specs.Symbols as the

-- a list of kinds has a kind
abbrev pub has : List Kind → Kind → Bool
has [] k = false
has (x ∷ xs) k = x == k || has xs k

-- what begins a type
abbrev pub type_starts : List Kind
type_starts =
    word_kind word.Void ∷ word_kind word.Char ∷ word_kind word.Int ∷ word_kind word.Long ∷ word_kind word.Struct ∷
    word_kind word.Enum ∷ word_kind word.Process ∷ []

-- what begins a primary expression
abbrev pub primary_starts : List Kind
primary_starts =
    a_number ∷ a_character ∷ a_name ∷ word_kind word.Create ∷ word_kind word.Putchar ∷ word_kind word.Getchar ∷
    word_kind word.Printf ∷ mark_kind mark.OpenParenthesis ∷ []

-- the prefix operators
abbrev pub prefix_starts : List Kind
prefix_starts =
    mark_kind mark.Minus ∷ mark_kind mark.Plus ∷ mark_kind mark.Not ∷ mark_kind mark.Increment ∷
    mark_kind mark.Decrement ∷ []

-- what begins an operand
abbrev pub operand_starts : List Kind
operand_starts = prefix_starts ++ primary_starts

-- what begins an expression
abbrev pub assign_starts : List Kind
assign_starts = word_kind word.Within ∷ operand_starts

-- what begins a statement
abbrev pub statement_starts : List Kind
statement_starts =
    mark_kind mark.Semicolon ∷ mark_kind mark.OpenBrace ∷ word_kind word.If ∷ word_kind word.While ∷
    word_kind word.Do ∷ word_kind word.For ∷ word_kind word.Break ∷ word_kind word.Continue ∷ word_kind word.Return ∷
    word_kind word.Treturn ∷ word_kind word.Delay ∷ word_kind word.Accept ∷ word_kind word.Select ∷ assign_starts

-- what begins an entry of a block
abbrev pub entry_starts : List Kind
entry_starts = type_starts ++ statement_starts

-- what begins an item
abbrev pub item_starts : List Kind
item_starts = a_name ∷ type_starts

-- the operators of assignments
abbrev pub assign_operators : List Kind
assign_operators =
    mark_kind mark.Assign ∷ mark_kind mark.PlusAssign ∷ mark_kind mark.MinusAssign ∷ mark_kind mark.StarAssign ∷
    mark_kind mark.SlashAssign ∷ mark_kind mark.PercentAssign ∷ []

-- what begins a phrase of each symbol
abbrev pub starts : Symbol → List Kind
starts the.text = item_starts
starts the.item = item_starts
starts the.structure = word_kind word.Struct ∷ []
starts the.fields = mark_kind mark.OpenBrace ∷ []
starts the.field_list = type_starts
starts the.enumeration = word_kind word.Enum ∷ []
starts the.constants = mark_kind mark.OpenBrace ∷ []
starts the.constant_list = a_name ∷ []
starts the.next_constant = mark_kind mark.Comma ∷ []
starts the.process = word_kind word.Process ∷ []
starts the.specification = word_kind word.Spec ∷ []
starts the.specification_end = mark_kind mark.OpenBrace ∷ mark_kind mark.Semicolon ∷ []
starts the.transactions = mark_kind mark.OpenBrace ∷ []
starts the.body = word_kind word.Body ∷ []
starts the.typed_function = word_kind word.Void ∷ word_kind word.Char ∷ word_kind word.Int ∷ word_kind word.Long ∷ []
starts the.function = a_name ∷ []
starts the.type = type_starts
starts the.simple_type = word_kind word.Void ∷ word_kind word.Char ∷ word_kind word.Int ∷ word_kind word.Long ∷ []
starts the.number_type = word_kind word.Char ∷ word_kind word.Int ∷ word_kind word.Long ∷ []
starts the.named_type = word_kind word.Struct ∷ word_kind word.Enum ∷ word_kind word.Process ∷ []
starts the.field = type_starts
starts the.declarators = a_name ∷ []
starts the.next_declarator = mark_kind mark.Comma ∷ []
starts the.declarator = a_name ∷ []
starts the.array_length = mark_kind mark.OpenBracket ∷ []
starts the.constant = a_name ∷ []
starts the.constant_value = mark_kind mark.Assign ∷ []
starts the.signed_length = mark_kind mark.Minus ∷ a_number ∷ a_character ∷ a_name ∷ []
starts the.length = a_number ∷ a_character ∷ a_name ∷ []
starts the.transaction = word_kind word.Trans ∷ []
starts the.transaction_type =
    word_kind word.Async ∷ word_kind word.Void ∷ word_kind word.Char ∷ word_kind word.Int ∷ word_kind word.Long ∷
    word_kind word.Struct ∷ word_kind word.Enum ∷ word_kind word.Process ∷ []
starts the.transaction_head = a_name ∷ []
starts the.signature = mark_kind mark.OpenParenthesis ∷ []
starts the.transaction_parameters = type_starts
starts the.next_transaction_parameter = mark_kind mark.Comma ∷ []
starts the.transaction_parameter = type_starts
starts the.parameter_list = mark_kind mark.OpenParenthesis ∷ []
starts the.parameters = type_starts
starts the.parameters_from_void = word_kind word.Void ∷ []
starts the.parameters_from_value =
    word_kind word.Char ∷ word_kind word.Int ∷ word_kind word.Long ∷ word_kind word.Struct ∷ word_kind word.Enum ∷
    word_kind word.Process ∷ []
starts the.value_type =
    word_kind word.Char ∷ word_kind word.Int ∷ word_kind word.Long ∷ word_kind word.Struct ∷ word_kind word.Enum ∷
    word_kind word.Process ∷ []
starts the.parameters_from_name = a_name ∷ []
starts the.next_parameter = mark_kind mark.Comma ∷ []
starts the.parameter = type_starts
starts the.names = a_name ∷ []
starts the.next_name = mark_kind mark.Comma ∷ []
starts the.parameter_names = mark_kind mark.OpenParenthesis ∷ []
starts the.optional_names = a_name ∷ []
starts the.block = mark_kind mark.OpenBrace ∷ []
starts the.closed_entries = mark_kind mark.CloseBrace ∷ entry_starts
starts the.entries = entry_starts
starts the.entry = entry_starts
starts the.local = type_starts
starts the.ended_local_declarators = a_name ∷ []
starts the.local_declarators = a_name ∷ []
starts the.next_local_declarator = mark_kind mark.Comma ∷ []
starts the.local_declarator = a_name ∷ []
starts the.initialiser = mark_kind mark.Assign ∷ []
starts the.statement = statement_starts
starts the.expression_statement = assign_starts
starts the.ended_assign = assign_starts
starts the.control_statement = word_kind word.If ∷ word_kind word.While ∷ word_kind word.Do ∷ word_kind word.For ∷ []
starts the.if_statement = word_kind word.If ∷ []
starts the.condition = mark_kind mark.OpenParenthesis ∷ []
starts the.branches = statement_starts
starts the.otherwise = word_kind word.Else ∷ []
starts the.while_statement = word_kind word.While ∷ []
starts the.while_loop = mark_kind mark.OpenParenthesis ∷ []
starts the.do_statement = word_kind word.Do ∷ []
starts the.do_loop = statement_starts
starts the.do_body = statement_starts
starts the.ended_condition = mark_kind mark.OpenParenthesis ∷ []
starts the.for_statement = word_kind word.For ∷ []
starts the.for_loop = mark_kind mark.OpenParenthesis ∷ []
starts the.for_header = mark_kind mark.OpenParenthesis ∷ []
starts the.for_parts =
    word_kind word.Within ∷ mark_kind mark.Minus ∷ mark_kind mark.Plus ∷ mark_kind mark.Not ∷
    mark_kind mark.Increment ∷ mark_kind mark.Decrement ∷ a_number ∷ a_character ∷ a_name ∷ word_kind word.Create ∷
    word_kind word.Putchar ∷ word_kind word.Getchar ∷ word_kind word.Printf ∷ mark_kind mark.OpenParenthesis ∷
    mark_kind mark.Semicolon ∷ []
starts the.for_rest =
    word_kind word.Within ∷ mark_kind mark.Minus ∷ mark_kind mark.Plus ∷ mark_kind mark.Not ∷
    mark_kind mark.Increment ∷ mark_kind mark.Decrement ∷ a_number ∷ a_character ∷ a_name ∷ word_kind word.Create ∷
    word_kind word.Putchar ∷ word_kind word.Getchar ∷ word_kind word.Printf ∷ mark_kind mark.OpenParenthesis ∷
    mark_kind mark.Semicolon ∷ []
starts the.ended_optional_assign =
    word_kind word.Within ∷ mark_kind mark.Minus ∷ mark_kind mark.Plus ∷ mark_kind mark.Not ∷
    mark_kind mark.Increment ∷ mark_kind mark.Decrement ∷ a_number ∷ a_character ∷ a_name ∷ word_kind word.Create ∷
    word_kind word.Putchar ∷ word_kind word.Getchar ∷ word_kind word.Printf ∷ mark_kind mark.OpenParenthesis ∷
    mark_kind mark.Semicolon ∷ []
starts the.for_step =
    word_kind word.Within ∷ mark_kind mark.Minus ∷ mark_kind mark.Plus ∷ mark_kind mark.Not ∷
    mark_kind mark.Increment ∷ mark_kind mark.Decrement ∷ a_number ∷ a_character ∷ a_name ∷ word_kind word.Create ∷
    word_kind word.Putchar ∷ word_kind word.Getchar ∷ word_kind word.Printf ∷ mark_kind mark.OpenParenthesis ∷
    mark_kind mark.CloseParenthesis ∷ []
starts the.optional_assign = assign_starts
starts the.jump_statement =
    word_kind word.Break ∷ word_kind word.Continue ∷ word_kind word.Return ∷ word_kind word.Treturn ∷ []
starts the.break_statement = word_kind word.Break ∷ []
starts the.continue_statement = word_kind word.Continue ∷ []
starts the.return_statement = word_kind word.Return ∷ []
starts the.treturn_statement = word_kind word.Treturn ∷ []
starts the.process_statement = word_kind word.Delay ∷ word_kind word.Accept ∷ word_kind word.Select ∷ []
starts the.delay_statement = word_kind word.Delay ∷ []
starts the.select_statement = word_kind word.Select ∷ []
starts the.closed_alternatives =
    mark_kind mark.OpenParenthesis ∷ word_kind word.Accept ∷ word_kind word.Delay ∷ word_kind word.Immediate ∷
    word_kind word.Terminate ∷ []
starts the.alternatives =
    mark_kind mark.OpenParenthesis ∷ word_kind word.Accept ∷ word_kind word.Delay ∷ word_kind word.Immediate ∷
    word_kind word.Terminate ∷ []
starts the.next_alternative = word_kind word.Or ∷ []
starts the.accept = word_kind word.Accept ∷ []
starts the.accept_head = a_name ∷ []
starts the.accept_rest =
    word_kind word.Suchthat ∷ word_kind word.By ∷ mark_kind mark.OpenBrace ∷ mark_kind mark.Semicolon ∷ []
starts the.optional_clauses = word_kind word.Suchthat ∷ word_kind word.By ∷ []
starts the.accept_block = mark_kind mark.OpenBrace ∷ mark_kind mark.Semicolon ∷ []
starts the.clauses = word_kind word.Suchthat ∷ word_kind word.By ∷ []
starts the.such = word_kind word.Suchthat ∷ []
starts the.least = word_kind word.By ∷ []
starts the.alternative =
    mark_kind mark.OpenParenthesis ∷ word_kind word.Accept ∷ word_kind word.Delay ∷ word_kind word.Immediate ∷
    word_kind word.Terminate ∷ []
starts the.guard = mark_kind mark.OpenParenthesis ∷ []
starts the.choice =
    word_kind word.Accept ∷ word_kind word.Delay ∷ word_kind word.Immediate ∷ word_kind word.Terminate ∷ []
starts the.accept_choice = word_kind word.Accept ∷ []
starts the.delay_choice = word_kind word.Delay ∷ []
starts the.delay_rest = assign_starts
starts the.immediate_choice = word_kind word.Immediate ∷ []
starts the.terminate_choice = word_kind word.Terminate ∷ []
starts the.assign = assign_starts
starts the.timed = word_kind word.Within ∷ []
starts the.timed_rest = operand_starts
starts the.wait = operand_starts
starts the.timed_postfix = primary_starts
starts the.untimed = operand_starts
starts the.store = assign_operators
starts the.assign_operator = assign_operators
starts the.conditional = operand_starts
starts the.arms = mark_kind mark.Question ∷ []
starts the.then_arm = mark_kind mark.Question ∷ []
starts the.disjunction = operand_starts
starts the.next_conjunction = mark_kind mark.Or ∷ []
starts the.conjunction = operand_starts
starts the.next_equality = mark_kind mark.And ∷ []
starts the.equality = operand_starts
starts the.equality_step = mark_kind mark.Equal ∷ mark_kind mark.NotEqual ∷ []
starts the.equality_operator = mark_kind mark.Equal ∷ mark_kind mark.NotEqual ∷ []
starts the.order = operand_starts
starts the.order_step =
    mark_kind mark.Less ∷ mark_kind mark.LessEqual ∷ mark_kind mark.Greater ∷ mark_kind mark.GreaterEqual ∷ []
starts the.order_operator =
    mark_kind mark.Less ∷ mark_kind mark.LessEqual ∷ mark_kind mark.Greater ∷ mark_kind mark.GreaterEqual ∷ []
starts the.sum = operand_starts
starts the.sum_step = mark_kind mark.Plus ∷ mark_kind mark.Minus ∷ []
starts the.sum_operator = mark_kind mark.Plus ∷ mark_kind mark.Minus ∷ []
starts the.term = operand_starts
starts the.term_step = mark_kind mark.Star ∷ mark_kind mark.Slash ∷ mark_kind mark.Percent ∷ []
starts the.term_operator = mark_kind mark.Star ∷ mark_kind mark.Slash ∷ mark_kind mark.Percent ∷ []
starts the.unary = operand_starts
starts the.prefixed = prefix_starts
starts the.prefix = prefix_starts
starts the.postfix = primary_starts
starts the.step = mark_kind mark.Dot ∷ mark_kind mark.OpenBracket ∷ []
starts the.selection = mark_kind mark.Dot ∷ []
starts the.index = mark_kind mark.OpenBracket ∷ []
starts the.index_value = assign_starts
starts the.optional_suffix = mark_kind mark.Increment ∷ mark_kind mark.Decrement ∷ []
starts the.suffix = mark_kind mark.Increment ∷ mark_kind mark.Decrement ∷ []
starts the.primary = primary_starts
starts the.literal = a_number ∷ a_character ∷ []
starts the.named = a_name ∷ []
starts the.create = word_kind word.Create ∷ []
starts the.library_call = word_kind word.Putchar ∷ word_kind word.Getchar ∷ word_kind word.Printf ∷ []
starts the.putchar = word_kind word.Putchar ∷ []
starts the.getchar = word_kind word.Getchar ∷ []
starts the.printf = word_kind word.Printf ∷ []
starts the.format_and_arguments = a_string ∷ []
starts the.parenthesised = mark_kind mark.OpenParenthesis ∷ []
starts the.parenthesised_value = assign_starts
starts the.arguments = assign_starts
starts the.next_argument = mark_kind mark.Comma ∷ []
starts the.argument_list = mark_kind mark.OpenParenthesis ∷ []

-- whether a symbol has a phrase of no token
abbrev pub nullable : Symbol → Bool
nullable the.text = true
nullable the.transaction_parameters = true
nullable the.parameters = true
nullable the.optional_names = true
nullable the.entries = true
nullable the.optional_assign = true
nullable the.optional_clauses = true
nullable the.optional_suffix = true
nullable the.arguments = true
nullable other = false

-- whether a form has a phrase of no token
abbrev pub empty : Ebnf → Bool
empty (tok k) = false
empty (seq a b) = empty a && empty b
empty (alt a b) = empty a || empty b
empty (many a) = true
empty (opt a) = true
empty (ref s) = nullable s
empty (nest s) = nullable s

-- what begins a phrase of a form
abbrev pub begins : Ebnf → List Kind
begins (tok k) = k ∷ []
begins (seq a b) = if empty a then begins a ++ begins b else begins a
begins (alt a b) = begins a ++ begins b
begins (many a) = begins a
begins (opt a) = begins a
begins (ref s) = starts s
begins (nest s) = starts s
