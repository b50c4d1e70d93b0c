use Rattle.std.proofs.Common.{take, Ok}
use Rattle.cc_command.proofs.Written.{Written}
use Rattle.cc_command.specs.Reports.{bytes_of, Wrote}
use Rattle.cc_command.proofs.report.write_pieces.Given as goal

abbrev pub invariant-loop-piece : goal.invariant-loop-piece
invariant-loop-piece g l =
    Wrote (g.E.Sink.held l.fn.err) (g.E.Sink.held l.err) (bytes_of (take l.piece-index l.pieces)) (g.E.Sink.faults l.fn.err) (g.E.Sink.faults l.err)
    (g.E.Sink.wants l.fn.err) (g.E.Sink.wants l.err) (let ok : Written = Ok tt in ok)
