-- Texts as tokens, with their plain trees: each computed.
use Rattle.std.proofs.Common.{refl}
use Rattle.cc_grammar.specs.Kinds.{kind}
use Rattle.cc_grammar.specs.Reading.{parsed, symbol, text_answer}
use Rattle.cc_grammar.specs.Sentences.{limit}
use Rattle.cc_grammar.specs.declared.tree.Choice.TheBlock as S
use Rattle.cc_grammar.specs.declared.tree.Expression.TheBlock as E
use Rattle.cc_names.specs.Mentions.{in_entry, in_expression}
use Rattle.cc_names.specs.Plains.{entry, plain, plain_expression}
use Rattle.types_tests.specs.Parsed.{rows}
use Rattle.types_tests.specs.Trees.{HaveTrees}
use denote.Hole.Carrier.{hidden}

pub hold : HaveTrees rows
unfolding parsed text_answer symbol limit kind plain plain_expression entry in_expression in_entry hidden E.hidden-the_row-Expression-0
    S.hidden-the_row-Accept-2 E.hidden-the_row-EqualityStep-2 E.hidden-the_row-SumStep-4 E.hidden-the_row-TermStep-5 E.hidden-the_row-Step-6
    S.hidden-the_row-Alternative-3
hold = (refl, (refl, (refl, (refl, (refl, (refl, (refl, (refl, (refl, (refl, tt))))))))))
