-- The equation of each symbol's reader, one by one.
use Rattle.std.proofs.Common.{◌≡◌, ℕ, List}
use Rattle.cc_lex.specs.declared.token.Token.{Token}
use Rattle.cc_grammar.specs.Grammar.{rule}
use Rattle.cc_grammar.specs.Reading.{answered, read, level, symbol}
use Rattle.cc_grammar.specs.Symbols as the
use Rattle.cc_grammar.specs.Trees.{made}
use Rattle.cc_grammar.proofs.Equations.{symbol_is}

pub condition_is : (n : ℕ) (ts : List Token) → symbol n the.condition ts ≡ answered (made the.condition) (read (symbol n) (level n) (rule the.condition) ts)
condition_is n ts = symbol_is n the.condition ts

pub optional_assign_is : (n : ℕ) (ts : List Token) → symbol n the.optional_assign ts ≡ answered (made the.optional_assign) (read (symbol n) (level n) (rule the.optional_assign) ts)
optional_assign_is n ts = symbol_is n the.optional_assign ts

pub assign_is : (n : ℕ) (ts : List Token) → symbol n the.assign ts ≡ answered (made the.assign) (read (symbol n) (level n) (rule the.assign) ts)
assign_is n ts = symbol_is n the.assign ts

pub timed_is : (n : ℕ) (ts : List Token) → symbol n the.timed ts ≡ answered (made the.timed) (read (symbol n) (level n) (rule the.timed) ts)
timed_is n ts = symbol_is n the.timed ts

pub timed_rest_is : (n : ℕ) (ts : List Token) → symbol n the.timed_rest ts ≡ answered (made the.timed_rest) (read (symbol n) (level n) (rule the.timed_rest) ts)
timed_rest_is n ts = symbol_is n the.timed_rest ts

pub wait_is : (n : ℕ) (ts : List Token) → symbol n the.wait ts ≡ answered (made the.wait) (read (symbol n) (level n) (rule the.wait) ts)
wait_is n ts = symbol_is n the.wait ts

pub timed_postfix_is : (n : ℕ) (ts : List Token) → symbol n the.timed_postfix ts ≡ answered (made the.timed_postfix) (read (symbol n) (level n) (rule the.timed_postfix) ts)
timed_postfix_is n ts = symbol_is n the.timed_postfix ts

pub untimed_is : (n : ℕ) (ts : List Token) → symbol n the.untimed ts ≡ answered (made the.untimed) (read (symbol n) (level n) (rule the.untimed) ts)
untimed_is n ts = symbol_is n the.untimed ts

pub store_is : (n : ℕ) (ts : List Token) → symbol n the.store ts ≡ answered (made the.store) (read (symbol n) (level n) (rule the.store) ts)
store_is n ts = symbol_is n the.store ts

pub assign_operator_is : (n : ℕ) (ts : List Token) → symbol n the.assign_operator ts ≡ answered (made the.assign_operator) (read (symbol n) (level n) (rule the.assign_operator) ts)
assign_operator_is n ts = symbol_is n the.assign_operator ts

pub conditional_is : (n : ℕ) (ts : List Token) → symbol n the.conditional ts ≡ answered (made the.conditional) (read (symbol n) (level n) (rule the.conditional) ts)
conditional_is n ts = symbol_is n the.conditional ts

pub arms_is : (n : ℕ) (ts : List Token) → symbol n the.arms ts ≡ answered (made the.arms) (read (symbol n) (level n) (rule the.arms) ts)
arms_is n ts = symbol_is n the.arms ts

pub then_arm_is : (n : ℕ) (ts : List Token) → symbol n the.then_arm ts ≡ answered (made the.then_arm) (read (symbol n) (level n) (rule the.then_arm) ts)
then_arm_is n ts = symbol_is n the.then_arm ts

pub disjunction_is : (n : ℕ) (ts : List Token) → symbol n the.disjunction ts ≡ answered (made the.disjunction) (read (symbol n) (level n) (rule the.disjunction) ts)
disjunction_is n ts = symbol_is n the.disjunction ts

pub next_conjunction_is : (n : ℕ) (ts : List Token) → symbol n the.next_conjunction ts ≡ answered (made the.next_conjunction) (read (symbol n) (level n) (rule the.next_conjunction) ts)
next_conjunction_is n ts = symbol_is n the.next_conjunction ts

pub conjunction_is : (n : ℕ) (ts : List Token) → symbol n the.conjunction ts ≡ answered (made the.conjunction) (read (symbol n) (level n) (rule the.conjunction) ts)
conjunction_is n ts = symbol_is n the.conjunction ts

pub next_equality_is : (n : ℕ) (ts : List Token) → symbol n the.next_equality ts ≡ answered (made the.next_equality) (read (symbol n) (level n) (rule the.next_equality) ts)
next_equality_is n ts = symbol_is n the.next_equality ts

pub equality_is : (n : ℕ) (ts : List Token) → symbol n the.equality ts ≡ answered (made the.equality) (read (symbol n) (level n) (rule the.equality) ts)
equality_is n ts = symbol_is n the.equality ts

pub equality_step_is : (n : ℕ) (ts : List Token) → symbol n the.equality_step ts ≡ answered (made the.equality_step) (read (symbol n) (level n) (rule the.equality_step) ts)
equality_step_is n ts = symbol_is n the.equality_step ts

pub equality_operator_is : (n : ℕ) (ts : List Token) → symbol n the.equality_operator ts ≡ answered (made the.equality_operator) (read (symbol n) (level n) (rule the.equality_operator) ts)
equality_operator_is n ts = symbol_is n the.equality_operator ts

pub order_is : (n : ℕ) (ts : List Token) → symbol n the.order ts ≡ answered (made the.order) (read (symbol n) (level n) (rule the.order) ts)
order_is n ts = symbol_is n the.order ts

pub order_step_is : (n : ℕ) (ts : List Token) → symbol n the.order_step ts ≡ answered (made the.order_step) (read (symbol n) (level n) (rule the.order_step) ts)
order_step_is n ts = symbol_is n the.order_step ts

pub order_operator_is : (n : ℕ) (ts : List Token) → symbol n the.order_operator ts ≡ answered (made the.order_operator) (read (symbol n) (level n) (rule the.order_operator) ts)
order_operator_is n ts = symbol_is n the.order_operator ts

pub sum_is : (n : ℕ) (ts : List Token) → symbol n the.sum ts ≡ answered (made the.sum) (read (symbol n) (level n) (rule the.sum) ts)
sum_is n ts = symbol_is n the.sum ts

pub sum_step_is : (n : ℕ) (ts : List Token) → symbol n the.sum_step ts ≡ answered (made the.sum_step) (read (symbol n) (level n) (rule the.sum_step) ts)
sum_step_is n ts = symbol_is n the.sum_step ts

pub sum_operator_is : (n : ℕ) (ts : List Token) → symbol n the.sum_operator ts ≡ answered (made the.sum_operator) (read (symbol n) (level n) (rule the.sum_operator) ts)
sum_operator_is n ts = symbol_is n the.sum_operator ts

pub term_is : (n : ℕ) (ts : List Token) → symbol n the.term ts ≡ answered (made the.term) (read (symbol n) (level n) (rule the.term) ts)
term_is n ts = symbol_is n the.term ts

pub term_step_is : (n : ℕ) (ts : List Token) → symbol n the.term_step ts ≡ answered (made the.term_step) (read (symbol n) (level n) (rule the.term_step) ts)
term_step_is n ts = symbol_is n the.term_step ts

pub term_operator_is : (n : ℕ) (ts : List Token) → symbol n the.term_operator ts ≡ answered (made the.term_operator) (read (symbol n) (level n) (rule the.term_operator) ts)
term_operator_is n ts = symbol_is n the.term_operator ts

pub unary_is : (n : ℕ) (ts : List Token) → symbol n the.unary ts ≡ answered (made the.unary) (read (symbol n) (level n) (rule the.unary) ts)
unary_is n ts = symbol_is n the.unary ts

pub prefixed_is : (n : ℕ) (ts : List Token) → symbol n the.prefixed ts ≡ answered (made the.prefixed) (read (symbol n) (level n) (rule the.prefixed) ts)
prefixed_is n ts = symbol_is n the.prefixed ts

pub prefix_is : (n : ℕ) (ts : List Token) → symbol n the.prefix ts ≡ answered (made the.prefix) (read (symbol n) (level n) (rule the.prefix) ts)
prefix_is n ts = symbol_is n the.prefix ts

pub postfix_is : (n : ℕ) (ts : List Token) → symbol n the.postfix ts ≡ answered (made the.postfix) (read (symbol n) (level n) (rule the.postfix) ts)
postfix_is n ts = symbol_is n the.postfix ts

pub step_is : (n : ℕ) (ts : List Token) → symbol n the.step ts ≡ answered (made the.step) (read (symbol n) (level n) (rule the.step) ts)
step_is n ts = symbol_is n the.step ts

pub selection_is : (n : ℕ) (ts : List Token) → symbol n the.selection ts ≡ answered (made the.selection) (read (symbol n) (level n) (rule the.selection) ts)
selection_is n ts = symbol_is n the.selection ts

pub index_is : (n : ℕ) (ts : List Token) → symbol n the.index ts ≡ answered (made the.index) (read (symbol n) (level n) (rule the.index) ts)
index_is n ts = symbol_is n the.index ts

pub index_value_is : (n : ℕ) (ts : List Token) → symbol n the.index_value ts ≡ answered (made the.index_value) (read (symbol n) (level n) (rule the.index_value) ts)
index_value_is n ts = symbol_is n the.index_value ts

pub optional_suffix_is : (n : ℕ) (ts : List Token) → symbol n the.optional_suffix ts ≡ answered (made the.optional_suffix) (read (symbol n) (level n) (rule the.optional_suffix) ts)
optional_suffix_is n ts = symbol_is n the.optional_suffix ts

pub suffix_is : (n : ℕ) (ts : List Token) → symbol n the.suffix ts ≡ answered (made the.suffix) (read (symbol n) (level n) (rule the.suffix) ts)
suffix_is n ts = symbol_is n the.suffix ts

pub primary_is : (n : ℕ) (ts : List Token) → symbol n the.primary ts ≡ answered (made the.primary) (read (symbol n) (level n) (rule the.primary) ts)
primary_is n ts = symbol_is n the.primary ts

pub literal_is : (n : ℕ) (ts : List Token) → symbol n the.literal ts ≡ answered (made the.literal) (read (symbol n) (level n) (rule the.literal) ts)
literal_is n ts = symbol_is n the.literal ts

pub named_is : (n : ℕ) (ts : List Token) → symbol n the.named ts ≡ answered (made the.named) (read (symbol n) (level n) (rule the.named) ts)
named_is n ts = symbol_is n the.named ts

pub create_is : (n : ℕ) (ts : List Token) → symbol n the.create ts ≡ answered (made the.create) (read (symbol n) (level n) (rule the.create) ts)
create_is n ts = symbol_is n the.create ts

pub library_call_is : (n : ℕ) (ts : List Token) → symbol n the.library_call ts ≡ answered (made the.library_call) (read (symbol n) (level n) (rule the.library_call) ts)
library_call_is n ts = symbol_is n the.library_call ts

pub putchar_is : (n : ℕ) (ts : List Token) → symbol n the.putchar ts ≡ answered (made the.putchar) (read (symbol n) (level n) (rule the.putchar) ts)
putchar_is n ts = symbol_is n the.putchar ts

pub getchar_is : (n : ℕ) (ts : List Token) → symbol n the.getchar ts ≡ answered (made the.getchar) (read (symbol n) (level n) (rule the.getchar) ts)
getchar_is n ts = symbol_is n the.getchar ts

pub printf_is : (n : ℕ) (ts : List Token) → symbol n the.printf ts ≡ answered (made the.printf) (read (symbol n) (level n) (rule the.printf) ts)
printf_is n ts = symbol_is n the.printf ts

pub format_and_arguments_is : (n : ℕ) (ts : List Token) → symbol n the.format_and_arguments ts ≡ answered (made the.format_and_arguments) (read (symbol n) (level n) (rule the.format_and_arguments) ts)
format_and_arguments_is n ts = symbol_is n the.format_and_arguments ts

pub parenthesised_is : (n : ℕ) (ts : List Token) → symbol n the.parenthesised ts ≡ answered (made the.parenthesised) (read (symbol n) (level n) (rule the.parenthesised) ts)
parenthesised_is n ts = symbol_is n the.parenthesised ts

pub parenthesised_value_is : (n : ℕ) (ts : List Token) → symbol n the.parenthesised_value ts ≡ answered (made the.parenthesised_value) (read (symbol n) (level n) (rule the.parenthesised_value) ts)
parenthesised_value_is n ts = symbol_is n the.parenthesised_value ts

pub arguments_is : (n : ℕ) (ts : List Token) → symbol n the.arguments ts ≡ answered (made the.arguments) (read (symbol n) (level n) (rule the.arguments) ts)
arguments_is n ts = symbol_is n the.arguments ts

pub next_argument_is : (n : ℕ) (ts : List Token) → symbol n the.next_argument ts ≡ answered (made the.next_argument) (read (symbol n) (level n) (rule the.next_argument) ts)
next_argument_is n ts = symbol_is n the.next_argument ts

pub argument_list_is : (n : ℕ) (ts : List Token) → symbol n the.argument_list ts ≡ answered (made the.argument_list) (read (symbol n) (level n) (rule the.argument_list) ts)
argument_list_is n ts = symbol_is n the.argument_list ts
