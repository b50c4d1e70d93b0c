use Rattle.cc_trace.proofs.Newlines as newlines
use Rattle.cc_trace.proofs.laws.lines_end_at_newlines.Goals as goal

pub returns : goal.returns
returns c = record { newline = newlines.line_ends }
