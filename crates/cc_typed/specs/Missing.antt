-- What a site, a transaction or a kind has that may be missing.
use Rattle.std.specs.Prelude.{ℕ, List, [], Option, Some, None}
use Rattle.cc_typed.specs.declared.types.DataType.{DataType}
use Rattle.cc_typed.specs.declared.types.DataType.TheVariants.{Void}
use Rattle.cc_typed.specs.declared.tree.Kind.{Kind}
use Rattle.cc_typed.specs.declared.tree.Site.{Site}
use Rattle.cc_typed.specs.declared.tree.Transaction.{Transaction}

abbrev pub transaction_at : Option Site → ℕ
transaction_at None = 0
transaction_at (Some s) = s.transaction

abbrev pub environment_at : Option Site → List ℕ
environment_at None = []
environment_at (Some s) = s.environment

abbrev pub first_at : Option Site → ℕ
first_at None = 0
first_at (Some s) = s.first

abbrev pub parameters_at : Option Transaction → List DataType
parameters_at None = []
parameters_at (Some t) = t.parameters

abbrev pub value_type_at : Option Transaction → DataType
value_type_at None = Void
value_type_at (Some t) = t.value

abbrev pub variables_of : Option Kind → List DataType
variables_of None = []
variables_of (Some k) = k.variables
