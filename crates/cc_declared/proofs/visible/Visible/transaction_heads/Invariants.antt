use Rattle.std.proofs.Common.{◌≡◌, ◌++◌, drop}
use Rattle.cc_faults.specs.Declarations.{transaction_heads}
use Rattle.cc_declared.proofs.visible.Visible.transaction_heads.Given as goal

abbrev pub invariant-loop-d : goal.invariant-loop-d
invariant-loop-d l = l.heads ++ transaction_heads l.self l.number (drop l.d-index l.transactions) ≡ transaction_heads l.self l.first l.transactions
