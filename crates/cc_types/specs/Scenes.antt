-- What is known where an expression stands.
use Rattle.std.specs.Prelude.{ℕ, Option, Some, None}
use Rattle.cc_faults.specs.Rows.{fields_named}
use Rattle.cc_faults.specs.Scopes.{Scope, Text, position}
use Rattle.cc_faults.specs.declared.plain.Identifier.{Identifier}
use Rattle.cc_faults.specs.declared.scope.Around.{Around}
use Rattle.cc_typed.specs.declared.types.DataType.{DataType}

pub record Scene : Type 0 where
  pub text : Text
  pub scope : Scope
  pub around : Around

-- how many fields stand before the one of this name in a structure of this type
abbrev pub field_at : Scope → Option DataType → Identifier → Option ℕ
field_at s None x = None
field_at s (Some t) x = position (fields_named s t) x.name
