use Rattle.std.proofs.Common.{take, Ok}
use Rattle.cc_command.proofs.Written.{Written}
use Rattle.cc_command.specs.Reports.{process_lines, Wrote}
use Rattle.cc_command.proofs.report.write_processes.Given as goal

abbrev pub invariant-loop-at : goal.invariant-loop-at
invariant-loop-at g l =
    Wrote (g.E.Sink.held l.fn.err) (g.E.Sink.held l.err) (process_lines (take l.at l.faults.items)) (g.E.Sink.faults l.fn.err) (g.E.Sink.faults l.err)
    (g.E.Sink.wants l.fn.err) (g.E.Sink.wants l.err) (let ok : Written = Ok tt in ok)
