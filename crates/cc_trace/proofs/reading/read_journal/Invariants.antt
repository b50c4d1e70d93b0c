use Rattle.std.proofs.Common.{length}
use Rattle.cc_trace.proofs.Texts.{ReadSoFar}
use Rattle.cc_trace.proofs.reading.read_journal.Given as goal

abbrev pub invariant-loop-rest : goal.invariant-loop-rest
invariant-loop-rest l = ReadSoFar l.text l.journal.items l.rest

abbrev pub decreases-loop-rest : goal.decreases-loop-rest
decreases-loop-rest l = length l.rest
