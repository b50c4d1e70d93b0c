-- What was mentioned after a part of a text, and the mentions in lists of parts.
use Rattle.std.specs.Prelude.{ℕ, List, [], ◌∷◌, ◌++◌, Option, Some, None}
use Rattle.cc_grammar.specs.declared.tree.Accept.{Accept}
use Rattle.cc_grammar.specs.declared.tree.Alternative.{Alternative}
use Rattle.cc_grammar.specs.declared.tree.Constant.{Constant}
use Rattle.cc_grammar.specs.declared.tree.Declarator.{Declarator}
use Rattle.cc_grammar.specs.declared.tree.Entry.{Entry}
use Rattle.cc_grammar.specs.declared.tree.EqualityStep.{EqualityStep}
use Rattle.cc_grammar.specs.declared.tree.Expression.{Expression}
use Rattle.cc_grammar.specs.declared.tree.Field.{Field as TheField}
use Rattle.cc_grammar.specs.declared.tree.ForHeader.{ForHeader}
use Rattle.cc_grammar.specs.declared.tree.Format.{Format}
use Rattle.cc_grammar.specs.declared.tree.LocalDeclarator.{LocalDeclarator}
use Rattle.cc_grammar.specs.declared.tree.LocalDeclarator.TheVariants as local_declarator
use Rattle.cc_grammar.specs.declared.tree.OrderStep.{OrderStep}
use Rattle.cc_grammar.specs.declared.tree.Parameter.{Parameter}
use Rattle.cc_grammar.specs.declared.tree.Step.{Step}
use Rattle.cc_grammar.specs.declared.tree.SumStep.{SumStep}
use Rattle.cc_grammar.specs.declared.tree.TermStep.{TermStep}
use Rattle.cc_grammar.specs.declared.tree.Transaction.{Transaction}
use Rattle.cc_grammar.specs.declared.tree.TransactionParameter.{TransactionParameter}
use Rattle.cc_names.specs.declared.mentions.Numbers.{Numbers}
use Rattle.cc_names.specs.Mentions.{Mention, Named, Formatted, in_choice, in_clauses, in_expression, in_field_names, in_length, in_list, in_name, in_names, in_optional_expression, in_optional_length, in_optional_type, in_parameter_types, in_step, in_type, in_value}
use Rattle.cc_names.specs.Names.{with_mention}

abbrev pub with : Numbers → Mention → Numbers
with s (Named x) = record s { names = with_mention s.names x }
with s (Formatted f) = record s { formats = with_mention s.formats f }

abbrev pub in_format : Format → List Mention
in_format f = Formatted f.bytes ∷ []

-- what was mentioned after these mentions
unfoldable pub after : Numbers → List Mention → Numbers
after s [] = s
after s (m ∷ ms) = after (with s m) ms

abbrev pub in_all_expressions : List Expression → List Mention
in_all_expressions [] = []
in_all_expressions (e ∷ rest) = in_expression e ++ in_all_expressions rest

abbrev pub in_all_equalities : List EqualityStep → List Mention
in_all_equalities [] = []
in_all_equalities (s ∷ rest) = in_expression s.operand ++ in_all_equalities rest

abbrev pub in_all_orders : List OrderStep → List Mention
in_all_orders [] = []
in_all_orders (s ∷ rest) = in_expression s.operand ++ in_all_orders rest

abbrev pub in_all_sums : List SumStep → List Mention
in_all_sums [] = []
in_all_sums (s ∷ rest) = in_expression s.operand ++ in_all_sums rest

abbrev pub in_all_terms : List TermStep → List Mention
in_all_terms [] = []
in_all_terms (s ∷ rest) = in_expression s.operand ++ in_all_terms rest

abbrev pub in_all_steps : List Step → List Mention
in_all_steps [] = []
in_all_steps (s ∷ rest) = in_step s ++ in_all_steps rest

abbrev pub in_header : ForHeader → List Mention
in_header h = in_optional_expression h.first ++ (in_optional_expression h.condition ++ in_optional_expression h.step)

abbrev pub in_declarator : LocalDeclarator → List Mention
in_declarator (local_declarator.Plain x) = in_name x
in_declarator (local_declarator.Array x n) = in_name x ++ in_length n
in_declarator (local_declarator.Value x e) = in_name x ++ in_expression e

abbrev pub in_optional_list : Option (List Entry) → List Mention
in_optional_list None = []
in_optional_list (Some all) = in_list all

abbrev pub in_accept : Accept → List Mention
in_accept a = in_name a.name ++ (in_names a.names ++ (in_clauses a.clauses ++ in_optional_list a.block))

abbrev pub in_all_alternatives : List Alternative → List Mention
in_all_alternatives [] = []
in_all_alternatives (a ∷ rest) = in_optional_expression a.guard ++ (in_choice a.choice ++ in_all_alternatives rest)

abbrev pub in_alternative : Alternative → List Mention
in_alternative a = in_optional_expression a.guard ++ in_choice a.choice

abbrev pub in_field_name : Declarator → List Mention
in_field_name d = in_name d.name ++ in_optional_length d.length

abbrev pub in_field : TheField → List Mention
in_field f = in_type f.of ++ in_field_names f.declarators

abbrev pub in_constant : Constant → List Mention
in_constant c = in_name c.name ++ in_value c.value

abbrev pub in_parameter_type : TransactionParameter → List Mention
in_parameter_type p = in_type p.of

abbrev pub in_transaction : Transaction → List Mention
in_transaction d = in_optional_type d.result ++ (in_name d.name ++ in_parameter_types d.parameters)

abbrev pub in_parameter : Parameter → List Mention
in_parameter p = in_type p.of ++ in_name p.name
