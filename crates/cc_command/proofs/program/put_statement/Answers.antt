use Rattle.std.proofs.Common.{ap, ◌∙◌}
use Rattle.cc_typed.specs.declared.tree.Expression.{PutChar}
use Rattle.cc_typed.specs.declared.tree.Statement.{Evaluate}
use Rattle.cc_command.proofs.program.put_statement.Goals as goal

pub returns : goal.returns
returns c = ap (λ e. Evaluate (PutChar e)) (c.in_ok-value.ensures ∙ c.number.ensures)
