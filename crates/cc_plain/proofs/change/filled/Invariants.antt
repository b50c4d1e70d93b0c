use Rattle.std.proofs.Common.{◌≡◌, ◌++◌}
use Rattle.std.specs.Prelude.{pos, replicate}
use Rattle.cc_plain.proofs.change.filled.Given as goal

abbrev pub invariant-loop : goal.invariant-loop
invariant-loop l = l.cells ≡ l.fn.value ++ replicate l.counter (pos 0)
