-- What is called, as code has it.
use Rattle.std.specs.Prelude.{ℕ, List, length, Bool, true, Option, None, Some, Result, slice_get, if◌then◌else◌}
use Rattle.cc_base.specs.Formats.{conversions, is_format}
use Rattle.cc_base.specs.declared.names.Place.{Place}
use Rattle.cc_faults.specs.Expressions.{with_signature}
use Rattle.cc_faults.specs.Judged.{Judged, Good, map, checked}
use Rattle.cc_faults.specs.Rows.{has_transaction}
use Rattle.cc_faults.specs.declared.plain.Identifier.{Identifier}
use Rattle.cc_faults.specs.declared.scope.Found.{Found}
use Rattle.cc_faults.specs.declared.scope.Signature.{Signature}
use Rattle.cc_faults.specs.declared.scope.TransactionHead.{TransactionHead}
use Rattle.cc_rows.specs.declared.calls.Function.{Function}
use Rattle.cc_rows.specs.declared.calls.Kind.{Kind}
use Rattle.cc_rows.specs.declared.calls.Transaction.{Transaction}
use Rattle.cc_rows.specs.declared.calls.Types.{Types}
use Rattle.cc_typed.specs.declared.types.DataType.{DataType}

abbrev pub types_in : Types → Signature
types_in t = record { parameters = t.parameters.now; result = t.result }

abbrev pub function_in : Function → ℕ × Signature
function_in f = (f.number, types_in f.types)

abbrev pub kind_in : Kind → ℕ × List DataType
kind_in k = (k.number, k.parameters.now)

abbrev pub transaction_in : Transaction → TransactionHead × Signature
transaction_in t = (t.head.now, types_in t.types)

-- a transaction of what stands before it
abbrev pub behind_in : Found × Transaction → Found × (TransactionHead × Signature)
behind_in v = (v.0, transaction_in v.1)

-- the types of the transaction that is had by this name: 19
abbrev pub transaction_from : Identifier → Option TransactionHead → Judged (TransactionHead × Signature)
transaction_from x head = checked (has_transaction x head) (λ (h : TransactionHead). with_signature h (Some h.signature))

-- the same, of what stands before it
abbrev pub transaction_behind : Identifier → Option TransactionHead → Found → Judged (Found × (TransactionHead × Signature))
transaction_behind x head v = map (λ (h : TransactionHead × Signature). (v, h)) (transaction_from x head)
