use Rattle.std.proofs.Common.{◌-◌, ◌≤◌, length}
use Rattle.cc_code.specs.Waiting.{AreBelow, AreFrom}
use Rattle.cc_code.proofs.tables.lower_bound.Given as goal

abbrev pub invariant-halves : goal.invariant-halves
invariant-halves l = record {
  order : l.low ≤ l.high;
  there : l.high ≤ length l.table;
  below : AreBelow l.table l.alt l.low;
  above : AreFrom l.table l.alt l.high;
}

abbrev pub decreases-halves : goal.decreases-halves
decreases-halves l = l.high - l.low
