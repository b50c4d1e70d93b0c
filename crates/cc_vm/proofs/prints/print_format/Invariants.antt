use Rattle.std.proofs.Common.{◌≡◌, ◌++◌, drop}
use Rattle.cc_base.specs.Formats.{formatted}
use Rattle.cc_vm.specs.Printing.{printed_from}
use Rattle.cc_vm.proofs.prints.print_format.Given as goal

abbrev pub invariant-loop-byte : goal.invariant-loop-byte
invariant-loop-byte l = l.text ++ printed_from l.reading (drop l.byte-index l.format) (drop l.used l.numbers) ≡ formatted l.format l.numbers
