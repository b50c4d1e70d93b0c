-- The equation of each symbol's reader, one by one.
use Rattle.std.proofs.Common.{◌≡◌, ℕ, List}
use Rattle.cc_lex.specs.declared.token.Token.{Token}
use Rattle.cc_grammar.specs.Grammar.{rule}
use Rattle.cc_grammar.specs.Reading.{answered, read, level, symbol}
use Rattle.cc_grammar.specs.Symbols as the
use Rattle.cc_grammar.specs.Trees.{made}
use Rattle.cc_grammar.proofs.Equations.{symbol_is}

pub text_is : (n : ℕ) (ts : List Token) → symbol n the.text ts ≡ answered (made the.text) (read (symbol n) (level n) (rule the.text) ts)
text_is n ts = symbol_is n the.text ts

pub item_is : (n : ℕ) (ts : List Token) → symbol n the.item ts ≡ answered (made the.item) (read (symbol n) (level n) (rule the.item) ts)
item_is n ts = symbol_is n the.item ts

pub structure_is : (n : ℕ) (ts : List Token) → symbol n the.structure ts ≡ answered (made the.structure) (read (symbol n) (level n) (rule the.structure) ts)
structure_is n ts = symbol_is n the.structure ts

pub fields_is : (n : ℕ) (ts : List Token) → symbol n the.fields ts ≡ answered (made the.fields) (read (symbol n) (level n) (rule the.fields) ts)
fields_is n ts = symbol_is n the.fields ts

pub field_list_is : (n : ℕ) (ts : List Token) → symbol n the.field_list ts ≡ answered (made the.field_list) (read (symbol n) (level n) (rule the.field_list) ts)
field_list_is n ts = symbol_is n the.field_list ts

pub enumeration_is : (n : ℕ) (ts : List Token) → symbol n the.enumeration ts ≡ answered (made the.enumeration) (read (symbol n) (level n) (rule the.enumeration) ts)
enumeration_is n ts = symbol_is n the.enumeration ts

pub constants_is : (n : ℕ) (ts : List Token) → symbol n the.constants ts ≡ answered (made the.constants) (read (symbol n) (level n) (rule the.constants) ts)
constants_is n ts = symbol_is n the.constants ts

pub constant_list_is : (n : ℕ) (ts : List Token) → symbol n the.constant_list ts ≡ answered (made the.constant_list) (read (symbol n) (level n) (rule the.constant_list) ts)
constant_list_is n ts = symbol_is n the.constant_list ts

pub next_constant_is : (n : ℕ) (ts : List Token) → symbol n the.next_constant ts ≡ answered (made the.next_constant) (read (symbol n) (level n) (rule the.next_constant) ts)
next_constant_is n ts = symbol_is n the.next_constant ts

pub process_is : (n : ℕ) (ts : List Token) → symbol n the.process ts ≡ answered (made the.process) (read (symbol n) (level n) (rule the.process) ts)
process_is n ts = symbol_is n the.process ts

pub specification_is : (n : ℕ) (ts : List Token) → symbol n the.specification ts ≡ answered (made the.specification) (read (symbol n) (level n) (rule the.specification) ts)
specification_is n ts = symbol_is n the.specification ts

pub specification_end_is : (n : ℕ) (ts : List Token) → symbol n the.specification_end ts ≡ answered (made the.specification_end) (read (symbol n) (level n) (rule the.specification_end) ts)
specification_end_is n ts = symbol_is n the.specification_end ts

pub transactions_is : (n : ℕ) (ts : List Token) → symbol n the.transactions ts ≡ answered (made the.transactions) (read (symbol n) (level n) (rule the.transactions) ts)
transactions_is n ts = symbol_is n the.transactions ts

pub body_is : (n : ℕ) (ts : List Token) → symbol n the.body ts ≡ answered (made the.body) (read (symbol n) (level n) (rule the.body) ts)
body_is n ts = symbol_is n the.body ts

pub typed_function_is : (n : ℕ) (ts : List Token) → symbol n the.typed_function ts ≡ answered (made the.typed_function) (read (symbol n) (level n) (rule the.typed_function) ts)
typed_function_is n ts = symbol_is n the.typed_function ts

pub function_is : (n : ℕ) (ts : List Token) → symbol n the.function ts ≡ answered (made the.function) (read (symbol n) (level n) (rule the.function) ts)
function_is n ts = symbol_is n the.function ts

pub type_is : (n : ℕ) (ts : List Token) → symbol n the.type ts ≡ answered (made the.type) (read (symbol n) (level n) (rule the.type) ts)
type_is n ts = symbol_is n the.type ts

pub simple_type_is : (n : ℕ) (ts : List Token) → symbol n the.simple_type ts ≡ answered (made the.simple_type) (read (symbol n) (level n) (rule the.simple_type) ts)
simple_type_is n ts = symbol_is n the.simple_type ts

pub number_type_is : (n : ℕ) (ts : List Token) → symbol n the.number_type ts ≡ answered (made the.number_type) (read (symbol n) (level n) (rule the.number_type) ts)
number_type_is n ts = symbol_is n the.number_type ts

pub named_type_is : (n : ℕ) (ts : List Token) → symbol n the.named_type ts ≡ answered (made the.named_type) (read (symbol n) (level n) (rule the.named_type) ts)
named_type_is n ts = symbol_is n the.named_type ts

pub field_is : (n : ℕ) (ts : List Token) → symbol n the.field ts ≡ answered (made the.field) (read (symbol n) (level n) (rule the.field) ts)
field_is n ts = symbol_is n the.field ts

pub declarators_is : (n : ℕ) (ts : List Token) → symbol n the.declarators ts ≡ answered (made the.declarators) (read (symbol n) (level n) (rule the.declarators) ts)
declarators_is n ts = symbol_is n the.declarators ts

pub next_declarator_is : (n : ℕ) (ts : List Token) → symbol n the.next_declarator ts ≡ answered (made the.next_declarator) (read (symbol n) (level n) (rule the.next_declarator) ts)
next_declarator_is n ts = symbol_is n the.next_declarator ts

pub declarator_is : (n : ℕ) (ts : List Token) → symbol n the.declarator ts ≡ answered (made the.declarator) (read (symbol n) (level n) (rule the.declarator) ts)
declarator_is n ts = symbol_is n the.declarator ts

pub array_length_is : (n : ℕ) (ts : List Token) → symbol n the.array_length ts ≡ answered (made the.array_length) (read (symbol n) (level n) (rule the.array_length) ts)
array_length_is n ts = symbol_is n the.array_length ts

pub constant_is : (n : ℕ) (ts : List Token) → symbol n the.constant ts ≡ answered (made the.constant) (read (symbol n) (level n) (rule the.constant) ts)
constant_is n ts = symbol_is n the.constant ts

pub constant_value_is : (n : ℕ) (ts : List Token) → symbol n the.constant_value ts ≡ answered (made the.constant_value) (read (symbol n) (level n) (rule the.constant_value) ts)
constant_value_is n ts = symbol_is n the.constant_value ts

pub signed_length_is : (n : ℕ) (ts : List Token) → symbol n the.signed_length ts ≡ answered (made the.signed_length) (read (symbol n) (level n) (rule the.signed_length) ts)
signed_length_is n ts = symbol_is n the.signed_length ts

pub length_is : (n : ℕ) (ts : List Token) → symbol n the.length ts ≡ answered (made the.length) (read (symbol n) (level n) (rule the.length) ts)
length_is n ts = symbol_is n the.length ts

pub transaction_is : (n : ℕ) (ts : List Token) → symbol n the.transaction ts ≡ answered (made the.transaction) (read (symbol n) (level n) (rule the.transaction) ts)
transaction_is n ts = symbol_is n the.transaction ts

pub transaction_type_is : (n : ℕ) (ts : List Token) → symbol n the.transaction_type ts ≡ answered (made the.transaction_type) (read (symbol n) (level n) (rule the.transaction_type) ts)
transaction_type_is n ts = symbol_is n the.transaction_type ts

pub transaction_head_is : (n : ℕ) (ts : List Token) → symbol n the.transaction_head ts ≡ answered (made the.transaction_head) (read (symbol n) (level n) (rule the.transaction_head) ts)
transaction_head_is n ts = symbol_is n the.transaction_head ts

pub signature_is : (n : ℕ) (ts : List Token) → symbol n the.signature ts ≡ answered (made the.signature) (read (symbol n) (level n) (rule the.signature) ts)
signature_is n ts = symbol_is n the.signature ts

pub transaction_parameters_is : (n : ℕ) (ts : List Token) → symbol n the.transaction_parameters ts ≡ answered (made the.transaction_parameters) (read (symbol n) (level n) (rule the.transaction_parameters) ts)
transaction_parameters_is n ts = symbol_is n the.transaction_parameters ts

pub next_transaction_parameter_is : (n : ℕ) (ts : List Token) → symbol n the.next_transaction_parameter ts ≡ answered (made the.next_transaction_parameter) (read (symbol n) (level n) (rule the.next_transaction_parameter) ts)
next_transaction_parameter_is n ts = symbol_is n the.next_transaction_parameter ts

pub transaction_parameter_is : (n : ℕ) (ts : List Token) → symbol n the.transaction_parameter ts ≡ answered (made the.transaction_parameter) (read (symbol n) (level n) (rule the.transaction_parameter) ts)
transaction_parameter_is n ts = symbol_is n the.transaction_parameter ts

pub parameter_list_is : (n : ℕ) (ts : List Token) → symbol n the.parameter_list ts ≡ answered (made the.parameter_list) (read (symbol n) (level n) (rule the.parameter_list) ts)
parameter_list_is n ts = symbol_is n the.parameter_list ts

pub parameters_is : (n : ℕ) (ts : List Token) → symbol n the.parameters ts ≡ answered (made the.parameters) (read (symbol n) (level n) (rule the.parameters) ts)
parameters_is n ts = symbol_is n the.parameters ts

pub parameters_from_void_is : (n : ℕ) (ts : List Token) → symbol n the.parameters_from_void ts ≡ answered (made the.parameters_from_void) (read (symbol n) (level n) (rule the.parameters_from_void) ts)
parameters_from_void_is n ts = symbol_is n the.parameters_from_void ts

pub parameters_from_value_is : (n : ℕ) (ts : List Token) → symbol n the.parameters_from_value ts ≡ answered (made the.parameters_from_value) (read (symbol n) (level n) (rule the.parameters_from_value) ts)
parameters_from_value_is n ts = symbol_is n the.parameters_from_value ts

pub value_type_is : (n : ℕ) (ts : List Token) → symbol n the.value_type ts ≡ answered (made the.value_type) (read (symbol n) (level n) (rule the.value_type) ts)
value_type_is n ts = symbol_is n the.value_type ts

pub parameters_from_name_is : (n : ℕ) (ts : List Token) → symbol n the.parameters_from_name ts ≡ answered (made the.parameters_from_name) (read (symbol n) (level n) (rule the.parameters_from_name) ts)
parameters_from_name_is n ts = symbol_is n the.parameters_from_name ts

pub next_parameter_is : (n : ℕ) (ts : List Token) → symbol n the.next_parameter ts ≡ answered (made the.next_parameter) (read (symbol n) (level n) (rule the.next_parameter) ts)
next_parameter_is n ts = symbol_is n the.next_parameter ts

pub parameter_is : (n : ℕ) (ts : List Token) → symbol n the.parameter ts ≡ answered (made the.parameter) (read (symbol n) (level n) (rule the.parameter) ts)
parameter_is n ts = symbol_is n the.parameter ts

pub names_is : (n : ℕ) (ts : List Token) → symbol n the.names ts ≡ answered (made the.names) (read (symbol n) (level n) (rule the.names) ts)
names_is n ts = symbol_is n the.names ts

pub next_name_is : (n : ℕ) (ts : List Token) → symbol n the.next_name ts ≡ answered (made the.next_name) (read (symbol n) (level n) (rule the.next_name) ts)
next_name_is n ts = symbol_is n the.next_name ts

pub parameter_names_is : (n : ℕ) (ts : List Token) → symbol n the.parameter_names ts ≡ answered (made the.parameter_names) (read (symbol n) (level n) (rule the.parameter_names) ts)
parameter_names_is n ts = symbol_is n the.parameter_names ts

pub optional_names_is : (n : ℕ) (ts : List Token) → symbol n the.optional_names ts ≡ answered (made the.optional_names) (read (symbol n) (level n) (rule the.optional_names) ts)
optional_names_is n ts = symbol_is n the.optional_names ts

pub block_is : (n : ℕ) (ts : List Token) → symbol n the.block ts ≡ answered (made the.block) (read (symbol n) (level n) (rule the.block) ts)
block_is n ts = symbol_is n the.block ts

pub closed_entries_is : (n : ℕ) (ts : List Token) → symbol n the.closed_entries ts ≡ answered (made the.closed_entries) (read (symbol n) (level n) (rule the.closed_entries) ts)
closed_entries_is n ts = symbol_is n the.closed_entries ts

pub entries_is : (n : ℕ) (ts : List Token) → symbol n the.entries ts ≡ answered (made the.entries) (read (symbol n) (level n) (rule the.entries) ts)
entries_is n ts = symbol_is n the.entries ts

pub entry_is : (n : ℕ) (ts : List Token) → symbol n the.entry ts ≡ answered (made the.entry) (read (symbol n) (level n) (rule the.entry) ts)
entry_is n ts = symbol_is n the.entry ts

pub local_is : (n : ℕ) (ts : List Token) → symbol n the.local ts ≡ answered (made the.local) (read (symbol n) (level n) (rule the.local) ts)
local_is n ts = symbol_is n the.local ts

pub ended_local_declarators_is : (n : ℕ) (ts : List Token) → symbol n the.ended_local_declarators ts ≡ answered (made the.ended_local_declarators) (read (symbol n) (level n) (rule the.ended_local_declarators) ts)
ended_local_declarators_is n ts = symbol_is n the.ended_local_declarators ts

pub local_declarators_is : (n : ℕ) (ts : List Token) → symbol n the.local_declarators ts ≡ answered (made the.local_declarators) (read (symbol n) (level n) (rule the.local_declarators) ts)
local_declarators_is n ts = symbol_is n the.local_declarators ts

pub next_local_declarator_is : (n : ℕ) (ts : List Token) → symbol n the.next_local_declarator ts ≡ answered (made the.next_local_declarator) (read (symbol n) (level n) (rule the.next_local_declarator) ts)
next_local_declarator_is n ts = symbol_is n the.next_local_declarator ts

pub local_declarator_is : (n : ℕ) (ts : List Token) → symbol n the.local_declarator ts ≡ answered (made the.local_declarator) (read (symbol n) (level n) (rule the.local_declarator) ts)
local_declarator_is n ts = symbol_is n the.local_declarator ts

pub initialiser_is : (n : ℕ) (ts : List Token) → symbol n the.initialiser ts ≡ answered (made the.initialiser) (read (symbol n) (level n) (rule the.initialiser) ts)
initialiser_is n ts = symbol_is n the.initialiser ts

pub statement_is : (n : ℕ) (ts : List Token) → symbol n the.statement ts ≡ answered (made the.statement) (read (symbol n) (level n) (rule the.statement) ts)
statement_is n ts = symbol_is n the.statement ts

pub expression_statement_is : (n : ℕ) (ts : List Token) → symbol n the.expression_statement ts ≡ answered (made the.expression_statement) (read (symbol n) (level n) (rule the.expression_statement) ts)
expression_statement_is n ts = symbol_is n the.expression_statement ts

pub ended_assign_is : (n : ℕ) (ts : List Token) → symbol n the.ended_assign ts ≡ answered (made the.ended_assign) (read (symbol n) (level n) (rule the.ended_assign) ts)
ended_assign_is n ts = symbol_is n the.ended_assign ts

pub control_statement_is : (n : ℕ) (ts : List Token) → symbol n the.control_statement ts ≡ answered (made the.control_statement) (read (symbol n) (level n) (rule the.control_statement) ts)
control_statement_is n ts = symbol_is n the.control_statement ts

pub if_statement_is : (n : ℕ) (ts : List Token) → symbol n the.if_statement ts ≡ answered (made the.if_statement) (read (symbol n) (level n) (rule the.if_statement) ts)
if_statement_is n ts = symbol_is n the.if_statement ts

pub branches_is : (n : ℕ) (ts : List Token) → symbol n the.branches ts ≡ answered (made the.branches) (read (symbol n) (level n) (rule the.branches) ts)
branches_is n ts = symbol_is n the.branches ts

pub otherwise_is : (n : ℕ) (ts : List Token) → symbol n the.otherwise ts ≡ answered (made the.otherwise) (read (symbol n) (level n) (rule the.otherwise) ts)
otherwise_is n ts = symbol_is n the.otherwise ts

pub while_statement_is : (n : ℕ) (ts : List Token) → symbol n the.while_statement ts ≡ answered (made the.while_statement) (read (symbol n) (level n) (rule the.while_statement) ts)
while_statement_is n ts = symbol_is n the.while_statement ts

pub while_loop_is : (n : ℕ) (ts : List Token) → symbol n the.while_loop ts ≡ answered (made the.while_loop) (read (symbol n) (level n) (rule the.while_loop) ts)
while_loop_is n ts = symbol_is n the.while_loop ts

pub do_statement_is : (n : ℕ) (ts : List Token) → symbol n the.do_statement ts ≡ answered (made the.do_statement) (read (symbol n) (level n) (rule the.do_statement) ts)
do_statement_is n ts = symbol_is n the.do_statement ts

pub do_loop_is : (n : ℕ) (ts : List Token) → symbol n the.do_loop ts ≡ answered (made the.do_loop) (read (symbol n) (level n) (rule the.do_loop) ts)
do_loop_is n ts = symbol_is n the.do_loop ts

pub do_body_is : (n : ℕ) (ts : List Token) → symbol n the.do_body ts ≡ answered (made the.do_body) (read (symbol n) (level n) (rule the.do_body) ts)
do_body_is n ts = symbol_is n the.do_body ts

pub ended_condition_is : (n : ℕ) (ts : List Token) → symbol n the.ended_condition ts ≡ answered (made the.ended_condition) (read (symbol n) (level n) (rule the.ended_condition) ts)
ended_condition_is n ts = symbol_is n the.ended_condition ts

pub for_statement_is : (n : ℕ) (ts : List Token) → symbol n the.for_statement ts ≡ answered (made the.for_statement) (read (symbol n) (level n) (rule the.for_statement) ts)
for_statement_is n ts = symbol_is n the.for_statement ts

pub for_loop_is : (n : ℕ) (ts : List Token) → symbol n the.for_loop ts ≡ answered (made the.for_loop) (read (symbol n) (level n) (rule the.for_loop) ts)
for_loop_is n ts = symbol_is n the.for_loop ts

pub for_header_is : (n : ℕ) (ts : List Token) → symbol n the.for_header ts ≡ answered (made the.for_header) (read (symbol n) (level n) (rule the.for_header) ts)
for_header_is n ts = symbol_is n the.for_header ts

pub for_parts_is : (n : ℕ) (ts : List Token) → symbol n the.for_parts ts ≡ answered (made the.for_parts) (read (symbol n) (level n) (rule the.for_parts) ts)
for_parts_is n ts = symbol_is n the.for_parts ts

pub for_rest_is : (n : ℕ) (ts : List Token) → symbol n the.for_rest ts ≡ answered (made the.for_rest) (read (symbol n) (level n) (rule the.for_rest) ts)
for_rest_is n ts = symbol_is n the.for_rest ts

pub ended_optional_assign_is : (n : ℕ) (ts : List Token) → symbol n the.ended_optional_assign ts ≡ answered (made the.ended_optional_assign) (read (symbol n) (level n) (rule the.ended_optional_assign) ts)
ended_optional_assign_is n ts = symbol_is n the.ended_optional_assign ts

pub for_step_is : (n : ℕ) (ts : List Token) → symbol n the.for_step ts ≡ answered (made the.for_step) (read (symbol n) (level n) (rule the.for_step) ts)
for_step_is n ts = symbol_is n the.for_step ts

pub jump_statement_is : (n : ℕ) (ts : List Token) → symbol n the.jump_statement ts ≡ answered (made the.jump_statement) (read (symbol n) (level n) (rule the.jump_statement) ts)
jump_statement_is n ts = symbol_is n the.jump_statement ts

pub break_statement_is : (n : ℕ) (ts : List Token) → symbol n the.break_statement ts ≡ answered (made the.break_statement) (read (symbol n) (level n) (rule the.break_statement) ts)
break_statement_is n ts = symbol_is n the.break_statement ts

pub continue_statement_is : (n : ℕ) (ts : List Token) → symbol n the.continue_statement ts ≡ answered (made the.continue_statement) (read (symbol n) (level n) (rule the.continue_statement) ts)
continue_statement_is n ts = symbol_is n the.continue_statement ts

pub return_statement_is : (n : ℕ) (ts : List Token) → symbol n the.return_statement ts ≡ answered (made the.return_statement) (read (symbol n) (level n) (rule the.return_statement) ts)
return_statement_is n ts = symbol_is n the.return_statement ts

pub treturn_statement_is : (n : ℕ) (ts : List Token) → symbol n the.treturn_statement ts ≡ answered (made the.treturn_statement) (read (symbol n) (level n) (rule the.treturn_statement) ts)
treturn_statement_is n ts = symbol_is n the.treturn_statement ts

pub process_statement_is : (n : ℕ) (ts : List Token) → symbol n the.process_statement ts ≡ answered (made the.process_statement) (read (symbol n) (level n) (rule the.process_statement) ts)
process_statement_is n ts = symbol_is n the.process_statement ts

pub delay_statement_is : (n : ℕ) (ts : List Token) → symbol n the.delay_statement ts ≡ answered (made the.delay_statement) (read (symbol n) (level n) (rule the.delay_statement) ts)
delay_statement_is n ts = symbol_is n the.delay_statement ts

pub select_statement_is : (n : ℕ) (ts : List Token) → symbol n the.select_statement ts ≡ answered (made the.select_statement) (read (symbol n) (level n) (rule the.select_statement) ts)
select_statement_is n ts = symbol_is n the.select_statement ts

pub closed_alternatives_is : (n : ℕ) (ts : List Token) → symbol n the.closed_alternatives ts ≡ answered (made the.closed_alternatives) (read (symbol n) (level n) (rule the.closed_alternatives) ts)
closed_alternatives_is n ts = symbol_is n the.closed_alternatives ts

pub alternatives_is : (n : ℕ) (ts : List Token) → symbol n the.alternatives ts ≡ answered (made the.alternatives) (read (symbol n) (level n) (rule the.alternatives) ts)
alternatives_is n ts = symbol_is n the.alternatives ts

pub next_alternative_is : (n : ℕ) (ts : List Token) → symbol n the.next_alternative ts ≡ answered (made the.next_alternative) (read (symbol n) (level n) (rule the.next_alternative) ts)
next_alternative_is n ts = symbol_is n the.next_alternative ts

pub accept_is : (n : ℕ) (ts : List Token) → symbol n the.accept ts ≡ answered (made the.accept) (read (symbol n) (level n) (rule the.accept) ts)
accept_is n ts = symbol_is n the.accept ts

pub accept_head_is : (n : ℕ) (ts : List Token) → symbol n the.accept_head ts ≡ answered (made the.accept_head) (read (symbol n) (level n) (rule the.accept_head) ts)
accept_head_is n ts = symbol_is n the.accept_head ts

pub accept_rest_is : (n : ℕ) (ts : List Token) → symbol n the.accept_rest ts ≡ answered (made the.accept_rest) (read (symbol n) (level n) (rule the.accept_rest) ts)
accept_rest_is n ts = symbol_is n the.accept_rest ts

pub optional_clauses_is : (n : ℕ) (ts : List Token) → symbol n the.optional_clauses ts ≡ answered (made the.optional_clauses) (read (symbol n) (level n) (rule the.optional_clauses) ts)
optional_clauses_is n ts = symbol_is n the.optional_clauses ts

pub accept_block_is : (n : ℕ) (ts : List Token) → symbol n the.accept_block ts ≡ answered (made the.accept_block) (read (symbol n) (level n) (rule the.accept_block) ts)
accept_block_is n ts = symbol_is n the.accept_block ts

pub clauses_is : (n : ℕ) (ts : List Token) → symbol n the.clauses ts ≡ answered (made the.clauses) (read (symbol n) (level n) (rule the.clauses) ts)
clauses_is n ts = symbol_is n the.clauses ts

pub such_is : (n : ℕ) (ts : List Token) → symbol n the.such ts ≡ answered (made the.such) (read (symbol n) (level n) (rule the.such) ts)
such_is n ts = symbol_is n the.such ts

pub least_is : (n : ℕ) (ts : List Token) → symbol n the.least ts ≡ answered (made the.least) (read (symbol n) (level n) (rule the.least) ts)
least_is n ts = symbol_is n the.least ts

pub alternative_is : (n : ℕ) (ts : List Token) → symbol n the.alternative ts ≡ answered (made the.alternative) (read (symbol n) (level n) (rule the.alternative) ts)
alternative_is n ts = symbol_is n the.alternative ts

pub guard_is : (n : ℕ) (ts : List Token) → symbol n the.guard ts ≡ answered (made the.guard) (read (symbol n) (level n) (rule the.guard) ts)
guard_is n ts = symbol_is n the.guard ts

pub choice_is : (n : ℕ) (ts : List Token) → symbol n the.choice ts ≡ answered (made the.choice) (read (symbol n) (level n) (rule the.choice) ts)
choice_is n ts = symbol_is n the.choice ts

pub accept_choice_is : (n : ℕ) (ts : List Token) → symbol n the.accept_choice ts ≡ answered (made the.accept_choice) (read (symbol n) (level n) (rule the.accept_choice) ts)
accept_choice_is n ts = symbol_is n the.accept_choice ts

pub delay_choice_is : (n : ℕ) (ts : List Token) → symbol n the.delay_choice ts ≡ answered (made the.delay_choice) (read (symbol n) (level n) (rule the.delay_choice) ts)
delay_choice_is n ts = symbol_is n the.delay_choice ts

pub delay_rest_is : (n : ℕ) (ts : List Token) → symbol n the.delay_rest ts ≡ answered (made the.delay_rest) (read (symbol n) (level n) (rule the.delay_rest) ts)
delay_rest_is n ts = symbol_is n the.delay_rest ts

pub immediate_choice_is : (n : ℕ) (ts : List Token) → symbol n the.immediate_choice ts ≡ answered (made the.immediate_choice) (read (symbol n) (level n) (rule the.immediate_choice) ts)
immediate_choice_is n ts = symbol_is n the.immediate_choice ts

pub terminate_choice_is : (n : ℕ) (ts : List Token) → symbol n the.terminate_choice ts ≡ answered (made the.terminate_choice) (read (symbol n) (level n) (rule the.terminate_choice) ts)
terminate_choice_is n ts = symbol_is n the.terminate_choice ts
