use Rattle.cc_grammar.proofs.Viability as viable
use Rattle.cc_grammar.proofs.laws.viable_tokens.Goals as goal

pub returns-clause-go_on : goal.returns-clause-go_on
returns-clause-go_on c = viable.begins_of

pub returns-clause-only_these : goal.returns-clause-only_these
returns-clause-only_these c = viable.viable_of
