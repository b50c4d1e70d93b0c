use Rattle.std.proofs.Common.{◌≡◌, ◌≤◌, drop}
use Rattle.cc_typed.specs.Formats.{numbers_from}
use Rattle.cc_typed.specs.declared.formats.Reading.TheVariants as reading
use Rattle.cc_typed.proofs.formats.numbers_taken.Given as goal

abbrev pub invariant-loop-byte : goal.invariant-loop-byte
invariant-loop-byte l =
    (numbers_from l.reading l.count (drop l.byte-index l.format) ≡ numbers_from reading.Plain 0 l.format) × l.count ≤ l.byte-index
