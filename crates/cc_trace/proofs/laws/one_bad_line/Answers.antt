use Rattle.cc_trace.proofs.Texts as texts
use Rattle.cc_trace.proofs.laws.one_bad_line.Goals as goal

pub returns-clause-one : goal.returns-clause-one
returns-clause-one c = texts.one_bad

pub returns-clause-none : goal.returns-clause-none
returns-clause-none c = texts.no_bad
