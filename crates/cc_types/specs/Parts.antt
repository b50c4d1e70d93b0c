-- STAND-IN, to be replaced by the file of the same name of the cycle of expressions.
use Rattle.cc_typed.specs.declared.tree.Expression.{Expression}
use Rattle.cc_faults.specs.Expressions.{expression, place_of}
use Rattle.cc_faults.specs.Judged.{Judged, checked}
use Rattle.cc_faults.specs.Rows.{number}
use Rattle.cc_faults.specs.Scopes.{Scope, Text}
use Rattle.cc_faults.specs.declared.plain.Phrase.{Phrase}
use Rattle.cc_faults.specs.declared.scope.Around.{Around}

-- an arithmetic operand or argument
abbrev pub operand : Text → Scope → Around → Phrase → Judged Expression
operand t s w e = checked (expression t s w e) (number (place_of e))
