use Rattle.std.proofs.Common.{◌≡◌, map, take}
use Rattle.cc_command.specs.Program.{puts}
use Rattle.cc_command.proofs.program.main_kind.Given as goal

abbrev pub invariant-loop-byte : goal.invariant-loop-byte
invariant-loop-byte l = l.body ≡ map puts (take l.byte-index l.bytes)
