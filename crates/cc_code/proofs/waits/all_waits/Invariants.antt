use Rattle.std.proofs.Common.{◌≡◌, length}
use Rattle.cc_code.specs.Waiting.{AreWaits}
use Rattle.cc_code.proofs.waits.all_waits.Given as goal

abbrev pub invariant-loop-at : goal.invariant-loop-at
invariant-loop-at l = record {
  long : length l.known.items ≡ length l.raw.instrs;
  known : AreWaits l.raw l.known.items;
}
