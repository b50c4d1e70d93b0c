use Rattle.cc_trace.proofs.Texts as texts
use Rattle.cc_trace.proofs.laws.each_text_is_read.Goals as goal

pub returns : goal.returns
returns c = record { read = texts.text_of_or_bad }
