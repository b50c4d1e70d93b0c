use Rattle.std.proofs.Common.{◌≡◌, ◌+◌, ◌≤◌, ◌++◌, length, drop}
use Rattle.cc_lex.specs.Reading.{inside}
use Rattle.cc_lex.proofs.quotes.string_at.Given as goal

abbrev pub invariant-loop-b : goal.invariant-loop-b
invariant-loop-b l = record {
  bytes : (inside l.text).0 ≡ l.bytes ++ (inside l.left).0;
  len : (inside l.text).1 ≡ l.len + (inside l.left).1;
  left : l.left ≡ drop l.len l.text;
  within : l.len ≤ length l.text;
}

abbrev pub decreases-loop-b : goal.decreases-loop-b
decreases-loop-b l = length l.left
