use Rattle.cc_grammar.proofs.LawsHold as law
use Rattle.cc_grammar.proofs.laws.whole_phrases.Goals as goal

pub returns-clause-read : goal.returns-clause-read
returns-clause-read c = law.read

pub returns-clause-whole : goal.returns-clause-whole
returns-clause-whole c = law.written
