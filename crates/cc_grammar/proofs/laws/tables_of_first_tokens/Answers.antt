use Rattle.cc_grammar.proofs.LawsHold as law
use Rattle.cc_grammar.proofs.laws.tables_of_first_tokens.Goals as goal

pub returns-clause-begin : goal.returns-clause-begin
returns-clause-begin c = law.begin

pub returns-clause-only_these : goal.returns-clause-only_these
returns-clause-only_these c = law.only_begin

pub returns-clause-empty : goal.returns-clause-empty
returns-clause-empty c = law.empty

pub returns-clause-only_these_empty : goal.returns-clause-only_these_empty
returns-clause-only_these_empty c = law.only_empty
