use Rattle.std.proofs.Common.{◌≡◌, drop}
use Rattle.std.specs.List.{list_all}
use Rattle.cc_typed.specs.Checked.{parts_of}
use Rattle.cc_typed.specs.Typed.{is_typed_transaction}
use Rattle.cc_typed.proofs.typed_programs.typed_transactions.Given as goal

abbrev pub invariant-loop-transaction : goal.invariant-loop-transaction
invariant-loop-transaction l =
    list_all (is_typed_transaction (parts_of l.parts)) (drop l.transaction-index l.transactions) ≡ list_all (is_typed_transaction (parts_of l.parts)) l.transactions
