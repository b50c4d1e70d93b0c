use Rattle.cc_grammar.proofs.Agree as agree
use Rattle.cc_grammar.proofs.laws.one_nesting.Goals as goal

pub returns : goal.returns
returns c = record { same = agree.same_nesting }
