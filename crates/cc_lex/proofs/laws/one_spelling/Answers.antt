use Rattle.cc_lex.proofs.Unique as unique
use Rattle.cc_lex.proofs.laws.one_spelling.Goals as goal

pub returns : goal.returns
returns c = record { same = unique.one_spelling }
