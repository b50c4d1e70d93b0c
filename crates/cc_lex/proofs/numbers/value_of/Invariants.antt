use Rattle.std.proofs.Common.{◌≡◌, ◌≤◌, drop}
use Rattle.cc_lex.specs.Bytes.{value_after, value_of}
use Rattle.cc_lex.specs.Pieces.{greatest_number}
use Rattle.cc_lex.proofs.numbers.value_of.Given as goal

abbrev pub invariant-loop-d : goal.invariant-loop-d
invariant-loop-d l = record {
  so_far : value_of l.base l.digits ≡ value_after l.base l.value (drop l.d-index l.digits);
  bounded : l.value ≤ greatest_number;
}
