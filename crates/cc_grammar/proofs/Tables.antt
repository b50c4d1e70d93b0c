-- The tables of the grammar, and one test of each symbol: that the tables are right, and that the rule is read with one token
-- ahead.
use Rattle.std.proofs.Common.{◌≡◌, ℕ, Bool, true, false, ◌||◌, ◌&&◌, not, List, [], ◌∷◌, ◌++◌, refl}
use Rattle.std.specs.Prelude.{if◌then◌else◌, nat_lt}
use Rattle.cc_lex.specs.declared.token.Mark.TheVariants as mark
use Rattle.cc_lex.specs.declared.token.Word.TheVariants as word
use Rattle.cc_grammar.specs.Begins.{has, starts, nullable, empty, begins, entry_starts, item_starts, type_starts}
use Rattle.cc_grammar.specs.Ebnf.{Ebnf, tok, seq, alt, many, opt, ref, nest}
use Rattle.cc_grammar.specs.Grammar.{rule}
use Rattle.cc_grammar.specs.Kinds.{Kind, a_name, a_number, a_character, a_string, word_kind, mark_kind}
use Rattle.cc_grammar.specs.Symbols.{Symbol}
use Rattle.cc_grammar.specs.Symbols as the
use Rattle.cc_grammar.proofs.Basics.{within, apart}
use Rattle.cc_grammar.proofs.Exists.{all_kinds}

-- ---- what may go on with some phrase of a symbol

abbrev postfix_ends : List Kind
postfix_ends =
    mark_kind mark.Increment ∷ mark_kind mark.Decrement ∷ mark_kind mark.Dot ∷ mark_kind mark.OpenBracket ∷
    mark_kind mark.OpenParenthesis ∷ []

abbrev term_ends : List Kind
term_ends = mark_kind mark.Star ∷ mark_kind mark.Slash ∷ mark_kind mark.Percent ∷ postfix_ends

abbrev sum_ends : List Kind
sum_ends = mark_kind mark.Plus ∷ mark_kind mark.Minus ∷ term_ends

abbrev order_ends : List Kind
order_ends =
    mark_kind mark.Less ∷ mark_kind mark.LessEqual ∷ mark_kind mark.Greater ∷ mark_kind mark.GreaterEqual ∷ sum_ends

abbrev equality_ends : List Kind
equality_ends = mark_kind mark.Equal ∷ mark_kind mark.NotEqual ∷ order_ends

abbrev conjunction_ends : List Kind
conjunction_ends = mark_kind mark.And ∷ equality_ends

abbrev disjunction_ends : List Kind
disjunction_ends = mark_kind mark.Or ∷ conjunction_ends

abbrev conditional_ends : List Kind
conditional_ends = mark_kind mark.Question ∷ disjunction_ends

abbrev assign_ends : List Kind
assign_ends =
    mark_kind mark.Assign ∷ mark_kind mark.PlusAssign ∷ mark_kind mark.MinusAssign ∷ mark_kind mark.StarAssign ∷
    mark_kind mark.SlashAssign ∷ mark_kind mark.PercentAssign ∷ conditional_ends

abbrev pub ends : Symbol → List Kind
ends the.text = item_starts
ends the.field_list = type_starts
ends the.constant_list = mark_kind mark.Comma ∷ mark_kind mark.Assign ∷ []
ends the.next_constant = mark_kind mark.Assign ∷ []
ends the.declarators = mark_kind mark.Comma ∷ mark_kind mark.OpenBracket ∷ []
ends the.next_declarator = mark_kind mark.OpenBracket ∷ []
ends the.declarator = mark_kind mark.OpenBracket ∷ []
ends the.constant = mark_kind mark.Assign ∷ []
ends the.transaction_parameters = mark_kind mark.Comma ∷ a_name ∷ type_starts
ends the.next_transaction_parameter = a_name ∷ []
ends the.transaction_parameter = a_name ∷ []
ends the.parameters = a_name ∷ mark_kind mark.Comma ∷ type_starts
ends the.parameters_from_void = a_name ∷ mark_kind mark.Comma ∷ []
ends the.parameters_from_value = mark_kind mark.Comma ∷ []
ends the.parameters_from_name = mark_kind mark.Comma ∷ []
ends the.names = mark_kind mark.Comma ∷ []
ends the.optional_names = a_name ∷ mark_kind mark.Comma ∷ []
ends the.entries = word_kind word.Else ∷ entry_starts
ends the.entry = word_kind word.Else ∷ []
ends the.local_declarators = mark_kind mark.Comma ∷ assign_ends
ends the.next_local_declarator = assign_ends
ends the.local_declarator = assign_ends
ends the.initialiser = assign_ends
ends the.statement = word_kind word.Else ∷ []
ends the.control_statement = word_kind word.Else ∷ []
ends the.if_statement = word_kind word.Else ∷ []
ends the.branches = word_kind word.Else ∷ []
ends the.otherwise = word_kind word.Else ∷ []
ends the.while_statement = word_kind word.Else ∷ []
ends the.while_loop = word_kind word.Else ∷ []
ends the.for_statement = word_kind word.Else ∷ []
ends the.for_loop = word_kind word.Else ∷ []
ends the.optional_assign =
    word_kind word.Within ∷ mark_kind mark.Not ∷ a_number ∷ a_character ∷ a_name ∷ word_kind word.Create ∷
    word_kind word.Putchar ∷ word_kind word.Getchar ∷ word_kind word.Printf ∷ assign_ends
ends the.alternatives = word_kind word.Or ∷ word_kind word.Else ∷ entry_starts
ends the.next_alternative = word_kind word.Else ∷ entry_starts
ends the.optional_clauses = word_kind word.Suchthat ∷ word_kind word.By ∷ []
ends the.clauses = word_kind word.By ∷ word_kind word.Suchthat ∷ []
ends the.alternative = word_kind word.Else ∷ entry_starts
ends the.choice = word_kind word.Else ∷ entry_starts
ends the.accept_choice = word_kind word.Else ∷ entry_starts
ends the.delay_choice = word_kind word.Else ∷ entry_starts
ends the.delay_rest = word_kind word.Else ∷ entry_starts
ends the.immediate_choice = word_kind word.Else ∷ entry_starts
ends the.assign = assign_ends
ends the.timed = assign_ends
ends the.timed_rest = assign_ends
ends the.untimed = assign_ends
ends the.store = assign_ends
ends the.conditional = conditional_ends
ends the.arms = conditional_ends
ends the.disjunction = disjunction_ends
ends the.next_conjunction = conjunction_ends
ends the.conjunction = conjunction_ends
ends the.next_equality = equality_ends
ends the.equality = equality_ends
ends the.equality_step = order_ends
ends the.order = order_ends
ends the.order_step = sum_ends
ends the.sum = sum_ends
ends the.sum_step = term_ends
ends the.term = term_ends
ends the.term_step = postfix_ends
ends the.unary = postfix_ends
ends the.prefixed = postfix_ends
ends the.postfix = postfix_ends
ends the.step = mark_kind mark.OpenParenthesis ∷ []
ends the.selection = mark_kind mark.OpenParenthesis ∷ []
ends the.optional_suffix = mark_kind mark.Increment ∷ mark_kind mark.Decrement ∷ []
ends the.primary = mark_kind mark.OpenParenthesis ∷ []
ends the.named = mark_kind mark.OpenParenthesis ∷ []
ends the.format_and_arguments = mark_kind mark.Comma ∷ assign_ends
ends the.arguments =
    word_kind word.Within ∷ mark_kind mark.Not ∷ a_number ∷ a_character ∷ a_name ∷ word_kind word.Create ∷
    word_kind word.Putchar ∷ word_kind word.Getchar ∷ word_kind word.Printf ∷ mark_kind mark.Comma ∷ assign_ends
ends the.next_argument = assign_ends
ends other = []

abbrev pub tails : Ebnf → List Kind
tails (tok k) = []
tails (seq a b) = if empty b then tails b ++ tails a else tails b
tails (alt a b) = tails a ++ tails b
tails (many a) = begins a ++ tails a
tails (opt a) = begins a ++ tails a
tails (ref s) = ends s
tails (nest s) = ends s

-- ---- orders of the symbols

-- Each is read from symbols of lower rank, but for those in phrases that add to the nesting.
abbrev pub rank : Symbol → ℕ
rank the.text = 15
rank the.item = 14
rank the.structure = 12
rank the.fields = 7
rank the.field_list = 6
rank the.enumeration = 12
rank the.constants = 6
rank the.constant_list = 5
rank the.next_constant = 4
rank the.process = 13
rank the.specification = 11
rank the.specification_end = 10
rank the.transactions = 9
rank the.body = 11
rank the.typed_function = 12
rank the.function = 11
rank the.type = 2
rank the.simple_type = 1
rank the.field = 5
rank the.declarators = 4
rank the.next_declarator = 3
rank the.declarator = 2
rank the.array_length = 1
rank the.constant = 3
rank the.constant_value = 2
rank the.signed_length = 1
rank the.transaction = 8
rank the.transaction_type = 3
rank the.transaction_head = 7
rank the.signature = 6
rank the.transaction_parameters = 5
rank the.next_transaction_parameter = 4
rank the.transaction_parameter = 3
rank the.parameter_list = 8
rank the.parameters = 7
rank the.parameters_from_void = 6
rank the.parameters_from_value = 6
rank the.value_type = 1
rank the.parameters_from_name = 5
rank the.next_parameter = 4
rank the.parameter = 3
rank the.names = 1
rank the.parameter_names = 3
rank the.optional_names = 2
rank the.block = 10
rank the.closed_entries = 9
rank the.entries = 8
rank the.entry = 7
rank the.local = 6
rank the.ended_local_declarators = 5
rank the.local_declarators = 4
rank the.next_local_declarator = 3
rank the.local_declarator = 2
rank the.statement = 22
rank the.expression_statement = 1
rank the.control_statement = 7
rank the.if_statement = 2
rank the.branches = 1
rank the.while_statement = 2
rank the.while_loop = 1
rank the.do_statement = 3
rank the.do_loop = 2
rank the.ended_condition = 1
rank the.for_statement = 6
rank the.for_loop = 5
rank the.for_header = 4
rank the.for_parts = 3
rank the.for_rest = 2
rank the.ended_optional_assign = 1
rank the.for_step = 1
rank the.jump_statement = 3
rank the.return_statement = 2
rank the.treturn_statement = 2
rank the.process_statement = 21
rank the.delay_statement = 1
rank the.select_statement = 20
rank the.closed_alternatives = 19
rank the.alternatives = 18
rank the.next_alternative = 17
rank the.accept = 13
rank the.accept_head = 4
rank the.accept_rest = 12
rank the.optional_clauses = 3
rank the.accept_block = 11
rank the.clauses = 2
rank the.such = 1
rank the.least = 1
rank the.alternative = 16
rank the.guard = 1
rank the.choice = 15
rank the.accept_choice = 14
rank the.delay_choice = 10
rank the.delay_rest = 9
rank the.immediate_choice = 9
rank the.assign = 22
rank the.timed = 21
rank the.timed_rest = 20
rank the.wait = 19
rank the.timed_postfix = 6
rank the.untimed = 20
rank the.store = 1
rank the.conditional = 19
rank the.arms = 1
rank the.disjunction = 18
rank the.next_conjunction = 17
rank the.conjunction = 16
rank the.next_equality = 15
rank the.equality = 14
rank the.equality_step = 13
rank the.order = 12
rank the.order_step = 11
rank the.sum = 10
rank the.sum_step = 9
rank the.term = 8
rank the.term_step = 7
rank the.unary = 6
rank the.prefixed = 1
rank the.postfix = 5
rank the.step = 4
rank the.selection = 3
rank the.index = 1
rank the.optional_suffix = 1
rank the.primary = 4
rank the.named = 3
rank the.create = 3
rank the.library_call = 3
rank the.putchar = 1
rank the.printf = 2
rank the.format_and_arguments = 1
rank the.parenthesised = 1
rank the.arguments = 1
rank the.argument_list = 2
rank other = 0

-- A first part of each is of lower rank.
abbrev pub open_rank : Symbol → ℕ
open_rank the.text = 4
open_rank the.item = 3
open_rank the.field_list = 4
open_rank the.constant_list = 1
open_rank the.specification_end = 1
open_rank the.typed_function = 2
open_rank the.type = 2
open_rank the.simple_type = 1
open_rank the.field = 3
open_rank the.declarators = 1
open_rank the.signed_length = 1
open_rank the.transaction_type = 3
open_rank the.transaction_parameters = 4
open_rank the.transaction_parameter = 3
open_rank the.parameters = 3
open_rank the.parameters_from_value = 2
open_rank the.value_type = 1
open_rank the.parameter = 3
open_rank the.optional_names = 1
open_rank the.closed_entries = 19
open_rank the.entries = 18
open_rank the.entry = 17
open_rank the.local = 3
open_rank the.ended_local_declarators = 2
open_rank the.local_declarators = 1
open_rank the.statement = 16
open_rank the.expression_statement = 15
open_rank the.ended_assign = 14
open_rank the.control_statement = 1
open_rank the.branches = 17
open_rank the.while_loop = 1
open_rank the.do_loop = 18
open_rank the.do_body = 17
open_rank the.ended_condition = 1
open_rank the.for_loop = 1
open_rank the.for_parts = 16
open_rank the.for_rest = 16
open_rank the.ended_optional_assign = 15
open_rank the.for_step = 15
open_rank the.optional_assign = 14
open_rank the.jump_statement = 1
open_rank the.process_statement = 1
open_rank the.closed_alternatives = 5
open_rank the.alternatives = 4
open_rank the.accept_rest = 3
open_rank the.optional_clauses = 2
open_rank the.accept_block = 1
open_rank the.clauses = 1
open_rank the.alternative = 3
open_rank the.guard = 1
open_rank the.choice = 2
open_rank the.accept_choice = 1
open_rank the.delay_rest = 15
open_rank the.assign = 13
open_rank the.timed_rest = 12
open_rank the.wait = 11
open_rank the.timed_postfix = 4
open_rank the.untimed = 12
open_rank the.store = 1
open_rank the.conditional = 11
open_rank the.arms = 1
open_rank the.disjunction = 10
open_rank the.conjunction = 9
open_rank the.equality = 8
open_rank the.equality_step = 1
open_rank the.order = 7
open_rank the.order_step = 1
open_rank the.sum = 6
open_rank the.sum_step = 1
open_rank the.term = 5
open_rank the.term_step = 1
open_rank the.unary = 4
open_rank the.prefixed = 1
open_rank the.postfix = 3
open_rank the.step = 1
open_rank the.index_value = 14
open_rank the.optional_suffix = 1
open_rank the.primary = 2
open_rank the.library_call = 1
open_rank the.parenthesised_value = 14
open_rank the.arguments = 14
open_rank other = 0

-- Each has a short phrase whose parts are of lower rank.
abbrev pub sample_rank : Symbol → ℕ
sample_rank the.item = 4
sample_rank the.structure = 4
sample_rank the.fields = 4
sample_rank the.field_list = 3
sample_rank the.enumeration = 3
sample_rank the.constants = 2
sample_rank the.constant_list = 1
sample_rank the.next_constant = 1
sample_rank the.process = 3
sample_rank the.specification = 2
sample_rank the.body = 3
sample_rank the.typed_function = 4
sample_rank the.function = 3
sample_rank the.type = 1
sample_rank the.field = 2
sample_rank the.declarators = 1
sample_rank the.next_declarator = 1
sample_rank the.array_length = 1
sample_rank the.constant_value = 2
sample_rank the.signed_length = 1
sample_rank the.transaction = 3
sample_rank the.transaction_head = 2
sample_rank the.signature = 1
sample_rank the.next_transaction_parameter = 3
sample_rank the.transaction_parameter = 2
sample_rank the.parameter_list = 1
sample_rank the.parameters_from_value = 2
sample_rank the.value_type = 1
sample_rank the.next_parameter = 3
sample_rank the.parameter = 2
sample_rank the.parameter_names = 1
sample_rank the.block = 2
sample_rank the.closed_entries = 1
sample_rank the.entry = 1
sample_rank the.local = 3
sample_rank the.ended_local_declarators = 2
sample_rank the.local_declarators = 1
sample_rank the.next_local_declarator = 1
sample_rank the.initialiser = 13
sample_rank the.expression_statement = 14
sample_rank the.ended_assign = 13
sample_rank the.control_statement = 7
sample_rank the.if_statement = 14
sample_rank the.condition = 13
sample_rank the.branches = 1
sample_rank the.otherwise = 1
sample_rank the.while_statement = 15
sample_rank the.while_loop = 14
sample_rank the.do_statement = 16
sample_rank the.do_loop = 15
sample_rank the.do_body = 1
sample_rank the.ended_condition = 14
sample_rank the.for_statement = 6
sample_rank the.for_loop = 5
sample_rank the.for_header = 4
sample_rank the.for_parts = 3
sample_rank the.for_rest = 2
sample_rank the.ended_optional_assign = 1
sample_rank the.for_step = 1
sample_rank the.jump_statement = 1
sample_rank the.return_statement = 2
sample_rank the.treturn_statement = 2
sample_rank the.process_statement = 4
sample_rank the.delay_statement = 14
sample_rank the.select_statement = 5
sample_rank the.closed_alternatives = 4
sample_rank the.alternatives = 3
sample_rank the.next_alternative = 3
sample_rank the.accept = 3
sample_rank the.accept_head = 2
sample_rank the.accept_rest = 1
sample_rank the.clauses = 15
sample_rank the.such = 14
sample_rank the.least = 14
sample_rank the.alternative = 2
sample_rank the.guard = 14
sample_rank the.choice = 1
sample_rank the.accept_choice = 4
sample_rank the.delay_choice = 15
sample_rank the.delay_rest = 14
sample_rank the.immediate_choice = 1
sample_rank the.assign = 12
sample_rank the.timed = 14
sample_rank the.timed_rest = 13
sample_rank the.wait = 10
sample_rank the.timed_postfix = 3
sample_rank the.untimed = 11
sample_rank the.store = 13
sample_rank the.conditional = 10
sample_rank the.arms = 14
sample_rank the.then_arm = 13
sample_rank the.disjunction = 9
sample_rank the.next_conjunction = 9
sample_rank the.conjunction = 8
sample_rank the.next_equality = 8
sample_rank the.equality = 7
sample_rank the.equality_step = 7
sample_rank the.order = 6
sample_rank the.order_step = 6
sample_rank the.sum = 5
sample_rank the.sum_step = 5
sample_rank the.term = 4
sample_rank the.term_step = 4
sample_rank the.unary = 3
sample_rank the.prefixed = 4
sample_rank the.postfix = 2
sample_rank the.step = 1
sample_rank the.index = 14
sample_rank the.index_value = 13
sample_rank the.primary = 1
sample_rank the.create = 2
sample_rank the.library_call = 1
sample_rank the.putchar = 14
sample_rank the.printf = 1
sample_rank the.parenthesised = 14
sample_rank the.parenthesised_value = 13
sample_rank the.next_argument = 13
sample_rank the.argument_list = 1
sample_rank other = 0

-- ---- the tests

-- the part of a row that may be the `else` of an `if` further in
abbrev pub is_otherwise : Ebnf → Bool
is_otherwise (opt (ref the.otherwise)) = true
is_otherwise _ = false

-- The next token tells the way, and each part is of lower rank.
abbrev pub is_plain : ℕ → Ebnf → Bool
is_plain r (tok k) = has all_kinds k
is_plain r (seq a b) = is_plain r a && (is_plain r b && (apart (tails a) (begins b) || is_otherwise b))
is_plain r (alt a b) = is_plain r a && (is_plain r b && (not (empty a) && (not (empty b) && apart (begins a) (begins b))))
is_plain r (many a) = is_plain r a && (not (empty a) && apart (tails a) (begins a))
is_plain r (opt a) = is_plain r a && not (empty a)
is_plain r (ref s) = nat_lt (rank s) r
is_plain r (nest s) = not (nullable s)

abbrev pub is_sampled : ℕ → Ebnf → Bool
is_sampled r (tok k) = true
is_sampled r (seq a b) = is_sampled r a && is_sampled r b
is_sampled r (alt a b) = is_sampled r a || is_sampled r b
is_sampled r (many a) = true
is_sampled r (opt a) = true
is_sampled r (ref s) = nat_lt (sample_rank s) r
is_sampled r (nest s) = nat_lt (sample_rank s) r

abbrev pub is_opened : ℕ → Ebnf → Bool
is_opened r (tok k) = true
is_opened r (seq a b) = is_opened r a && (not (empty a) || is_opened r b)
is_opened r (alt a b) = is_opened r a && is_opened r b
is_opened r (many a) = is_opened r a
is_opened r (opt a) = is_opened r a
is_opened r (ref s) = nat_lt (open_rank s) r
is_opened r (nest s) = nat_lt (open_rank s) r

-- `else` goes on with a phrase only as the `else` of an `if`.
abbrev pub takes_else : Ebnf → Bool
takes_else (tok k) = true
takes_else (seq a b) = takes_else a && takes_else b
takes_else (alt a b) = takes_else a && takes_else b
takes_else (many a) = takes_else a && not (has (begins a) (word_kind word.Else))
takes_else (opt a) = takes_else a && (not (has (begins a) (word_kind word.Else)) || is_otherwise (opt a))
takes_else (ref s) = true
takes_else (nest s) = true

abbrev pub same_test : Bool → Bool → Bool
same_test true b = b
same_test false b = not b

abbrev pub is_tested : Symbol → Bool
is_tested s =
    is_plain (rank s) (rule s) && (is_sampled (sample_rank s) (rule s) && (is_opened (open_rank s) (rule s) && (
    takes_else (rule s) && (same_test (empty (rule s)) (nullable s) && (within (begins (rule s)) (starts s) && (
    within (starts s) (begins (rule s)) && (within (tails (rule s)) (ends s) && (nat_lt (rank s) 23 && (
    nat_lt (sample_rank s) 17 && nat_lt (open_rank s) 20)))))))))

pub tested : (s : Symbol) → is_tested s ≡ true
tested the.text = refl
tested other = refl
