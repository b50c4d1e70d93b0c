-- What is known of an accept whose transaction is had by its name.
use Rattle.std.specs.Borrow.{Bor}
use Rattle.std.specs.Prelude.{ℕ, List, length, Option, Some, Result, Ok, Err}
use Rattle.cc_base.specs.declared.names.Place.{Place}
use Rattle.cc_faults.specs.Expressions.{with_signature}
use Rattle.cc_faults.specs.Judged.{Judged, checked, known}
use Rattle.cc_faults.specs.Rows.{as_many, has_transaction, in_body}
use Rattle.cc_faults.specs.declared.fault.FaultAt.{FaultAt}
use Rattle.cc_faults.specs.declared.plain.Identifier.{Identifier}
use Rattle.cc_faults.specs.declared.scope.Role.{Role}
use Rattle.cc_faults.specs.declared.scope.Signature.{Signature}
use Rattle.cc_faults.specs.declared.scope.TransactionHead.{TransactionHead}
use Rattle.cc_typed.specs.declared.types.DataType.{DataType}

-- the transaction: 20, 19
abbrev pub transaction_accepted : Role → Place → Identifier → Option TransactionHead → Judged TransactionHead
transaction_accepted r p x head = checked (checked (in_body r p) known) (λ (k : ℕ). has_transaction x head)

-- its types, with as many names as it has parameters: 13
abbrev pub counted : Place → ℕ → TransactionHead → Judged (TransactionHead × Signature)
counted p names head =
    checked (with_signature head (Some head.signature)) (λ (h : TransactionHead × Signature). as_many p names (length h.1.parameters) h)

abbrev pub accepted : Role → Place → Identifier → Option TransactionHead → ℕ → Judged (TransactionHead × Signature)
accepted r p x head names = checked (transaction_accepted r p x head) (counted x.place names)

-- types as code has them
abbrev pub types_in : Result (Bor (List DataType)) FaultAt → Result (List DataType) FaultAt
types_in (Ok ts) = Ok ts.now
types_in (Err f) = Err f
