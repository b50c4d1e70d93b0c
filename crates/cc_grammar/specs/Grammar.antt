-- The grammar in the form in which it is read. The productions stand in their order, and near each the parts that have a
-- name. `specs/Productions.antt` has the productions whole, without such names.
--
-- It is read with one token ahead: no token begins two ways of one choice, or both goes on with a part and begins the next one,
-- but for an `else`. So the first words of an item and of a list of parameters stand in front of what they have in common.
use Rattle.cc_lex.specs.declared.token.Mark.TheVariants as mark
use Rattle.cc_lex.specs.declared.token.Word.TheVariants as word
use Rattle.cc_grammar.specs.Ebnf.{Ebnf, ◌⨾◌, ◌∣◌, many, opt, ref, nest, name, number, character, string, key, sign}
use Rattle.cc_grammar.specs.Symbols.{Symbol}
use Rattle.cc_grammar.specs.Symbols as the

abbrev pub rule : Symbol → Ebnf
rule the.text = many (ref the.item)
rule the.item = ref the.structure ∣ ref the.enumeration ∣ ref the.process ∣ ref the.typed_function ∣ ref the.function
rule the.structure = key word.Struct ⨾ name ⨾ (ref the.fields ∣ ref the.function)
rule the.fields = sign mark.OpenBrace ⨾ ref the.field_list ⨾ sign mark.CloseBrace ⨾ sign mark.Semicolon
rule the.field_list = ref the.field ⨾ many (ref the.field)
rule the.enumeration = key word.Enum ⨾ (ref the.constants ∣ name ⨾ (ref the.constants ∣ ref the.function))
rule the.constants = sign mark.OpenBrace ⨾ ref the.constant_list ⨾ sign mark.CloseBrace ⨾ sign mark.Semicolon
rule the.constant_list = ref the.constant ⨾ many (ref the.next_constant)
rule the.next_constant = sign mark.Comma ⨾ ref the.constant
rule the.process = key word.Process ⨾ (ref the.specification ∣ ref the.body ∣ name ⨾ ref the.function)
rule the.specification = key word.Spec ⨾ name ⨾ ref the.signature ⨾ ref the.specification_end
rule the.specification_end = opt (ref the.transactions) ⨾ sign mark.Semicolon
rule the.transactions = sign mark.OpenBrace ⨾ many (ref the.transaction) ⨾ sign mark.CloseBrace
rule the.body = key word.Body ⨾ name ⨾ ref the.parameter_names ⨾ ref the.block
rule the.typed_function = ref the.simple_type ⨾ ref the.function
rule the.function = name ⨾ ref the.parameter_list ⨾ ref the.block
rule the.type = ref the.simple_type ∣ ref the.named_type
rule the.simple_type = key word.Void ∣ ref the.number_type
rule the.number_type = key word.Char ∣ key word.Int ∣ key word.Long
rule the.named_type = key word.Struct ⨾ name ∣ key word.Enum ⨾ name ∣ key word.Process ⨾ name
rule the.field = ref the.type ⨾ ref the.declarators ⨾ sign mark.Semicolon
rule the.declarators = ref the.declarator ⨾ many (ref the.next_declarator)
rule the.next_declarator = sign mark.Comma ⨾ ref the.declarator
rule the.declarator = name ⨾ opt (ref the.array_length)
rule the.array_length = sign mark.OpenBracket ⨾ ref the.length ⨾ sign mark.CloseBracket
rule the.constant = name ⨾ opt (ref the.constant_value)
rule the.constant_value = sign mark.Assign ⨾ ref the.signed_length
rule the.signed_length = opt (sign mark.Minus) ⨾ ref the.length
rule the.length = number ∣ character ∣ name
rule the.transaction = key word.Trans ⨾ ref the.transaction_type ⨾ ref the.transaction_head ⨾ sign mark.Semicolon
rule the.transaction_type = key word.Async ∣ ref the.type
rule the.transaction_head = name ⨾ ref the.signature
rule the.signature = sign mark.OpenParenthesis ⨾ ref the.transaction_parameters ⨾ sign mark.CloseParenthesis
rule the.transaction_parameters = opt (ref the.transaction_parameter ⨾ many (ref the.next_transaction_parameter))
rule the.next_transaction_parameter = sign mark.Comma ⨾ ref the.transaction_parameter
rule the.transaction_parameter = ref the.type ⨾ opt name
rule the.parameter_list = sign mark.OpenParenthesis ⨾ ref the.parameters ⨾ sign mark.CloseParenthesis
rule the.parameters = opt (ref the.parameters_from_void ∣ ref the.parameters_from_value)
rule the.parameters_from_void = key word.Void ⨾ opt (ref the.parameters_from_name)
rule the.parameters_from_value = ref the.value_type ⨾ ref the.parameters_from_name
rule the.value_type = ref the.number_type ∣ ref the.named_type
rule the.parameters_from_name = name ⨾ many (ref the.next_parameter)
rule the.next_parameter = sign mark.Comma ⨾ ref the.parameter
rule the.parameter = ref the.type ⨾ name
rule the.names = name ⨾ many (ref the.next_name)
rule the.next_name = sign mark.Comma ⨾ name
rule the.parameter_names = sign mark.OpenParenthesis ⨾ ref the.optional_names ⨾ sign mark.CloseParenthesis
rule the.optional_names = opt (ref the.names)
rule the.block = sign mark.OpenBrace ⨾ ref the.closed_entries
rule the.closed_entries = ref the.entries ⨾ sign mark.CloseBrace
rule the.entries = many (ref the.entry)
rule the.entry = ref the.local ∣ nest the.statement
rule the.local = ref the.type ⨾ ref the.ended_local_declarators
rule the.ended_local_declarators = ref the.local_declarators ⨾ sign mark.Semicolon
rule the.local_declarators = ref the.local_declarator ⨾ many (ref the.next_local_declarator)
rule the.next_local_declarator = sign mark.Comma ⨾ ref the.local_declarator
rule the.local_declarator = name ⨾ opt (ref the.array_length ∣ ref the.initialiser)
rule the.initialiser = sign mark.Assign ⨾ nest the.assign
rule the.statement =
    sign mark.Semicolon ∣ ref the.block ∣ ref the.expression_statement ∣ ref the.control_statement ∣
    ref the.jump_statement ∣ ref the.process_statement
rule the.expression_statement = ref the.ended_assign
rule the.ended_assign = nest the.assign ⨾ sign mark.Semicolon
rule the.control_statement = ref the.if_statement ∣ ref the.while_statement ∣ ref the.do_statement ∣ ref the.for_statement
rule the.if_statement = key word.If ⨾ ref the.condition ⨾ ref the.branches
rule the.condition = sign mark.OpenParenthesis ⨾ nest the.assign ⨾ sign mark.CloseParenthesis
rule the.branches = nest the.statement ⨾ opt (ref the.otherwise)
rule the.otherwise = key word.Else ⨾ nest the.statement
rule the.while_statement = key word.While ⨾ ref the.while_loop
rule the.while_loop = ref the.condition ⨾ nest the.statement
rule the.do_statement = key word.Do ⨾ ref the.do_loop
rule the.do_loop = ref the.do_body ⨾ ref the.ended_condition
rule the.do_body = nest the.statement ⨾ key word.While
rule the.ended_condition = ref the.condition ⨾ sign mark.Semicolon
rule the.for_statement = key word.For ⨾ ref the.for_loop
rule the.for_loop = ref the.for_header ⨾ nest the.statement
rule the.for_header = sign mark.OpenParenthesis ⨾ ref the.for_parts
rule the.for_parts = ref the.ended_optional_assign ⨾ ref the.for_rest
rule the.for_rest = ref the.ended_optional_assign ⨾ ref the.for_step
rule the.ended_optional_assign = ref the.optional_assign ⨾ sign mark.Semicolon
rule the.for_step = ref the.optional_assign ⨾ sign mark.CloseParenthesis
rule the.optional_assign = opt (nest the.assign)
rule the.jump_statement =
    ref the.break_statement ∣ ref the.continue_statement ∣ ref the.return_statement ∣ ref the.treturn_statement
rule the.break_statement = key word.Break ⨾ sign mark.Semicolon
rule the.continue_statement = key word.Continue ⨾ sign mark.Semicolon
rule the.return_statement = key word.Return ⨾ ref the.ended_optional_assign
rule the.treturn_statement = key word.Treturn ⨾ ref the.ended_optional_assign
rule the.process_statement = ref the.delay_statement ∣ ref the.accept ∣ ref the.select_statement
rule the.delay_statement = key word.Delay ⨾ ref the.ended_assign
rule the.select_statement = key word.Select ⨾ sign mark.OpenBrace ⨾ ref the.closed_alternatives
rule the.closed_alternatives = ref the.alternatives ⨾ sign mark.CloseBrace
rule the.alternatives = ref the.alternative ⨾ many (ref the.next_alternative)
rule the.next_alternative = key word.Or ⨾ ref the.alternative
rule the.accept = key word.Accept ⨾ ref the.accept_head ⨾ ref the.accept_rest
rule the.accept_head = name ⨾ ref the.parameter_names
rule the.accept_rest = ref the.optional_clauses ⨾ ref the.accept_block
rule the.optional_clauses = opt (ref the.clauses)
rule the.accept_block = ref the.block ∣ sign mark.Semicolon
rule the.clauses = ref the.such ⨾ opt (ref the.least) ∣ ref the.least ⨾ opt (ref the.such)
rule the.such = key word.Suchthat ⨾ ref the.condition
rule the.least = key word.By ⨾ ref the.condition
rule the.alternative = opt (ref the.guard) ⨾ ref the.choice
rule the.guard = ref the.condition ⨾ sign mark.Colon
rule the.choice = ref the.accept_choice ∣ ref the.delay_choice ∣ ref the.immediate_choice ∣ ref the.terminate_choice
rule the.accept_choice = ref the.accept ⨾ ref the.entries
rule the.delay_choice = key word.Delay ⨾ ref the.delay_rest
rule the.delay_rest = ref the.ended_assign ⨾ ref the.entries
rule the.immediate_choice = key word.Immediate ⨾ sign mark.Semicolon ⨾ ref the.entries
rule the.terminate_choice = key word.Terminate ⨾ sign mark.Semicolon
rule the.assign = ref the.timed ∣ ref the.untimed
rule the.timed = key word.Within ⨾ ref the.timed_rest
rule the.timed_rest = ref the.wait ⨾ ref the.timed_postfix ⨾ nest the.assign
rule the.wait = ref the.disjunction ⨾ sign mark.Question
rule the.timed_postfix = ref the.postfix ⨾ sign mark.Colon
rule the.untimed = ref the.conditional ⨾ opt (ref the.store)
rule the.store = ref the.assign_operator ⨾ nest the.assign
rule the.assign_operator =
    sign mark.Assign ∣ sign mark.PlusAssign ∣ sign mark.MinusAssign ∣ sign mark.StarAssign ∣ sign mark.SlashAssign ∣
    sign mark.PercentAssign
rule the.conditional = ref the.disjunction ⨾ opt (ref the.arms)
rule the.arms = ref the.then_arm ⨾ nest the.conditional
rule the.then_arm = sign mark.Question ⨾ nest the.assign ⨾ sign mark.Colon
rule the.disjunction = ref the.conjunction ⨾ many (ref the.next_conjunction)
rule the.next_conjunction = sign mark.Or ⨾ ref the.conjunction
rule the.conjunction = ref the.equality ⨾ many (ref the.next_equality)
rule the.next_equality = sign mark.And ⨾ ref the.equality
rule the.equality = ref the.order ⨾ many (ref the.equality_step)
rule the.equality_step = ref the.equality_operator ⨾ ref the.order
rule the.equality_operator = sign mark.Equal ∣ sign mark.NotEqual
rule the.order = ref the.sum ⨾ many (ref the.order_step)
rule the.order_step = ref the.order_operator ⨾ ref the.sum
rule the.order_operator = sign mark.Less ∣ sign mark.LessEqual ∣ sign mark.Greater ∣ sign mark.GreaterEqual
rule the.sum = ref the.term ⨾ many (ref the.sum_step)
rule the.sum_step = ref the.sum_operator ⨾ ref the.term
rule the.sum_operator = sign mark.Plus ∣ sign mark.Minus
rule the.term = ref the.unary ⨾ many (ref the.term_step)
rule the.term_step = ref the.term_operator ⨾ ref the.unary
rule the.term_operator = sign mark.Star ∣ sign mark.Slash ∣ sign mark.Percent
rule the.unary = ref the.prefixed ∣ ref the.postfix
rule the.prefixed = ref the.prefix ⨾ nest the.unary
rule the.prefix = sign mark.Minus ∣ sign mark.Plus ∣ sign mark.Not ∣ sign mark.Increment ∣ sign mark.Decrement
rule the.postfix = ref the.primary ⨾ many (ref the.step) ⨾ ref the.optional_suffix
rule the.step = ref the.selection ∣ ref the.index
rule the.selection = sign mark.Dot ⨾ name ⨾ opt (ref the.argument_list)
rule the.index = sign mark.OpenBracket ⨾ ref the.index_value
rule the.index_value = nest the.assign ⨾ sign mark.CloseBracket
rule the.optional_suffix = opt (ref the.suffix)
rule the.suffix = sign mark.Increment ∣ sign mark.Decrement
rule the.primary = ref the.literal ∣ ref the.named ∣ ref the.create ∣ ref the.library_call ∣ ref the.parenthesised
rule the.literal = number ∣ character
rule the.named = name ⨾ opt (ref the.argument_list)
rule the.create = key word.Create ⨾ name ⨾ ref the.argument_list
rule the.library_call = ref the.putchar ∣ ref the.getchar ∣ ref the.printf
rule the.putchar = key word.Putchar ⨾ ref the.condition
rule the.getchar = key word.Getchar ⨾ sign mark.OpenParenthesis ⨾ sign mark.CloseParenthesis
rule the.printf = key word.Printf ⨾ sign mark.OpenParenthesis ⨾ ref the.format_and_arguments ⨾ sign mark.CloseParenthesis
rule the.format_and_arguments = string ⨾ many (ref the.next_argument)
rule the.parenthesised = sign mark.OpenParenthesis ⨾ ref the.parenthesised_value
rule the.parenthesised_value = nest the.assign ⨾ sign mark.CloseParenthesis
rule the.arguments = opt (nest the.assign ⨾ many (ref the.next_argument))
rule the.next_argument = sign mark.Comma ⨾ nest the.assign
rule the.argument_list = sign mark.OpenParenthesis ⨾ ref the.arguments ⨾ sign mark.CloseParenthesis
