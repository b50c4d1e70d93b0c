use Rattle.cc_lex.proofs.Unique as unique
use Rattle.cc_lex.proofs.laws.one_fault.Goals as goal

pub returns-clause-one : goal.returns-clause-one
returns-clause-one c = unique.one_fault

pub returns-clause-none : goal.returns-clause-none
returns-clause-none c = unique.no_fault
