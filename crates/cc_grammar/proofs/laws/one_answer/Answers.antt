use Rattle.cc_grammar.proofs.One as one
use Rattle.cc_grammar.proofs.Parsed as parsed
use Rattle.cc_grammar.proofs.laws.one_answer.Goals as goal

pub returns-clause-computed : goal.returns-clause-computed
returns-clause-computed c = parsed.parses

pub returns-clause-one : goal.returns-clause-one
returns-clause-one c = one.one_answer
