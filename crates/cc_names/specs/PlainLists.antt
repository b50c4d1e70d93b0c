-- Parts of a text in plain form, one by one, as the code builds them.
use Rattle.std.specs.Prelude.{ℕ, List, [], Option, Some, None}
use Rattle.cc_grammar.specs.declared.tree.Accept.{Accept}
use Rattle.cc_grammar.specs.declared.tree.Alternative.{Alternative}
use Rattle.cc_grammar.specs.declared.tree.Entry.{Entry}
use Rattle.cc_grammar.specs.declared.tree.EqualityStep.{EqualityStep}
use Rattle.cc_grammar.specs.declared.tree.ForHeader.{ForHeader}
use Rattle.cc_grammar.specs.declared.tree.OrderStep.{OrderStep}
use Rattle.cc_grammar.specs.declared.tree.SumStep.{SumStep}
use Rattle.cc_grammar.specs.declared.tree.TermStep.{TermStep}
use Rattle.cc_faults.specs.declared.plain.AcceptPart.{AcceptPart}
use Rattle.cc_faults.specs.declared.plain.Alternative.{Alternative as PlainAlternative}
use Rattle.cc_faults.specs.declared.plain.Compared.{Compared}
use Rattle.cc_faults.specs.declared.plain.Operation.{Operation}
use Rattle.cc_faults.specs.declared.plain.Statement.{Statement as PlainStatement}
use Rattle.cc_faults.specs.declared.plain.Statement.TheVariants as statement
use Rattle.cc_names.specs.Plains.{accept_head, accept_part, alternative_of, block_of_list, choice_of, compared, equality_comparison, operation, optional_expression, order_comparison, plain_expression, sum_operation, term_operation}

module _ (names : List (List ℕ)) (formats : List (List ℕ)) where
  abbrev pub equality_step : EqualityStep → Compared
  equality_step s = compared (equality_comparison s.operator) (plain_expression names formats s.operand)

  abbrev pub order_step : OrderStep → Compared
  order_step s = compared (order_comparison s.operator) (plain_expression names formats s.operand)

  abbrev pub sum_step : SumStep → Operation
  sum_step s = operation (sum_operation s.operator) (plain_expression names formats s.operand)

  abbrev pub term_step : TermStep → Operation
  term_step s = operation (term_operation s.operator) (plain_expression names formats s.operand)

  abbrev pub for_header : ForHeader → PlainStatement → PlainStatement
  for_header h body = statement.For (optional_expression names formats h.first) (optional_expression names formats h.condition) (optional_expression names formats h.step) body

  abbrev pub optional_block_of : Option (List Entry) → List PlainStatement
  optional_block_of None = []
  optional_block_of (Some all) = block_of_list names formats all

  abbrev pub accept_of : Accept → AcceptPart
  accept_of a = accept_part names formats (accept_head names formats a.place a.name a.names a.clauses) (optional_block_of a.block)

  abbrev pub alternative : Alternative → PlainAlternative
  alternative a = alternative_of names formats a.guard (choice_of names formats a.choice)
