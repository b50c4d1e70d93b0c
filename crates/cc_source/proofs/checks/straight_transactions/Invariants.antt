use Rattle.std.proofs.Common.{◌≡◌, drop}
use Rattle.std.specs.List.{list_all}
use Rattle.cc_source.specs.Straight.{is_straight_transaction}
use Rattle.cc_source.proofs.checks.straight_transactions.Given as goal

abbrev pub invariant-loop-t : goal.invariant-loop-t
invariant-loop-t l = list_all is_straight_transaction (drop l.t-index l.transactions) ≡ list_all is_straight_transaction l.transactions
