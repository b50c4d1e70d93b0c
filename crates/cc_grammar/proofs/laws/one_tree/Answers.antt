use Rattle.cc_grammar.proofs.Parsed as parsed
use Rattle.cc_grammar.proofs.laws.one_tree.Goals as goal

pub returns : goal.returns
returns c = record { one = parsed.one_tree }
