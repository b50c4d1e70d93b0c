use Rattle.std.proofs.Common.{◌≡◌, None, replicate}
use Rattle.cc_declared.proofs.announced.nothing.Given as goal

abbrev pub invariant-loop : goal.invariant-loop
invariant-loop g l = l.entries ≡ replicate l.counter None
