use Rattle.std.proofs.Common.{length}
use Rattle.cc_command.proofs.Forms.{HasRead}
use Rattle.cc_command.proofs.form.read_form.Given as goal

abbrev pub invariant-loop-byte : goal.invariant-loop-byte
invariant-loop-byte l = HasRead l.tokens l.bytes l.rest

abbrev pub decreases-loop-byte : goal.decreases-loop-byte
decreases-loop-byte l = length l.rest
