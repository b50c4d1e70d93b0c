use Rattle.std.proofs.Common.{◌≡◌, ◌+◌, ◌≤◌, drop}
use Rattle.cc_base.specs.Formats.{conversions}
use Rattle.cc_vm.specs.Printing.{numbers_from}
use Rattle.cc_vm.proofs.prints.numbers_of.Given as goal

abbrev pub invariant-loop-byte : goal.invariant-loop-byte
invariant-loop-byte l = record {
  rest : l.count + numbers_from l.reading (drop l.byte-index l.format) ≡ conversions l.format;
  few : l.count ≤ l.byte-index;
}
