use Rattle.cc_grammar.proofs.LawsHold as law
use Rattle.cc_grammar.proofs.laws.each_symbol_has_a_phrase.Goals as goal

pub returns : goal.returns
returns c = record { phrase = law.phrases }
