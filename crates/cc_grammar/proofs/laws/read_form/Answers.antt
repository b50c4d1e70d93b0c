use Rattle.cc_grammar.proofs.Viability as viable
use Rattle.cc_grammar.proofs.laws.read_form.Goals as goal

pub returns-clause-whole_as_written : goal.returns-clause-whole_as_written
returns-clause-whole_as_written c = λ g ts w. viable.as_written w

pub returns-clause-whole_as_read : goal.returns-clause-whole_as_read
returns-clause-whole_as_read c = λ g ts w. viable.as_read w

pub returns-clause-front_as_written : goal.returns-clause-front_as_written
returns-clause-front_as_written c = λ g ts w. viable.front_as_written w

pub returns-clause-front_as_read : goal.returns-clause-front_as_read
returns-clause-front_as_read c = λ g ts w. viable.front_as_read w
