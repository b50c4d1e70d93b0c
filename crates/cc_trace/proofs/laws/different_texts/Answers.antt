use Rattle.cc_trace.proofs.Texts as texts
use Rattle.cc_trace.proofs.laws.different_texts.Goals as goal

pub returns : goal.returns
returns c = record { different = texts.one_journal }
