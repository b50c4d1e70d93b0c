use Rattle.std.proofs.Common.{◌≡◌, ◌≤◌, drop}
use Rattle.cc_trace.specs.Reading.{digits_after}
use Rattle.cc_trace.proofs.numbers.digits_after.Given as goal

-- what is left goes on after the digits so far
abbrev pub invariant-loop-at : goal.invariant-loop-at
invariant-loop-at l = record {
  so_far : digits_after l.most l.end l.number l.text ≡ digits_after l.most l.end l.value (drop l.at l.text);
  bounded : l.value ≤ l.most;
}
