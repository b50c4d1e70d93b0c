use Rattle.std.proofs.Common.{◌≡◌, ◌+◌, ◌≤◌, drop}
use Rattle.cc_lex.specs.Spells.{after}
use Rattle.cc_lex.proofs.lexing.after.Given as goal

abbrev pub invariant-loop-b : goal.invariant-loop-b
invariant-loop-b l = record {
  so_far : after l.place (drop l.b-index l.bytes) ≡ after l.fn.place l.bytes;
  line : l.place.line ≤ l.fn.place.line + l.b-index;
  column : l.place.column ≤ l.fn.place.column + l.b-index;
}
