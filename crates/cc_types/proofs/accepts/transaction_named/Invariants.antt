use Rattle.std.proofs.Common.{◌≡◌, drop}
use Rattle.cc_faults.specs.Rows.{transaction_named}
use Rattle.cc_types.proofs.accepts.transaction_named.Given as goal

abbrev pub invariant-loop-head : goal.invariant-loop-head
invariant-loop-head l = transaction_named (drop l.head-index l.heads) l.x.name ≡ transaction_named l.heads l.x.name
