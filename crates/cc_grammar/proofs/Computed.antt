-- The examples, each computed.
use Rattle.std.proofs.Common.{refl}
use Rattle.cc_grammar.specs.ExampleTrees.{NearestIf, Rows, Voids}
use Rattle.cc_grammar.specs.Examples.{items, declarations, statements, expressions, nesting}
use Rattle.cc_grammar.specs.ExamplesHold.{Hold}
use Rattle.cc_grammar.specs.Kinds.{kind}
use Rattle.cc_grammar.specs.Reading.{parsed, text_answer, symbol}
use Rattle.cc_grammar.specs.Sentences.{limit}

pub items_hold : Hold items
unfolding parsed text_answer symbol limit kind
items_hold = (refl, (refl, (refl, (refl, (refl, (refl, (refl, (refl, (refl, (refl, (refl, (refl, (refl, (refl, (refl, (refl, (refl, (refl, (refl, (refl, (refl, (refl, (refl, (refl, (refl, (refl, (refl, (refl, (refl, (refl, (refl, (refl, (refl, (refl, (refl, (refl, (refl, (refl, tt))))))))))))))))))))))))))))))))))))))

pub declarations_hold : Hold declarations
unfolding parsed text_answer symbol limit kind
declarations_hold = (refl, (refl, (refl, (refl, (refl, (refl, (refl, (refl, (refl, (refl, (refl, (refl, (refl, (refl, (refl, (refl, (refl, (refl, (refl, (refl, (refl, (refl, (refl, (refl, (refl, (refl, (refl, (refl, (refl, (refl, (refl, (refl, (refl, (refl, (refl, (refl, (refl, tt)))))))))))))))))))))))))))))))))))))

pub statements_hold : Hold statements
unfolding parsed text_answer symbol limit kind
statements_hold = (refl, (refl, (refl, (refl, (refl, (refl, (refl, (refl, (refl, (refl, (refl, (refl, (refl, (refl, (refl, (refl, (refl, (refl, (refl, (refl, (refl, (refl, (refl, (refl, (refl, (refl, (refl, (refl, (refl, (refl, (refl, (refl, (refl, (refl, (refl, (refl, (refl, (refl, (refl, (refl, (refl, (refl, (refl, (refl, (refl, (refl, (refl, (refl, (refl, (refl, (refl, (refl, (refl, (refl, (refl, (refl, (refl, (refl, (refl, (refl, (refl, (refl, (refl, (refl, (refl, tt)))))))))))))))))))))))))))))))))))))))))))))))))))))))))))))))))

pub expressions_hold : Hold expressions
unfolding parsed text_answer symbol limit kind
expressions_hold = (refl, (refl, (refl, (refl, (refl, (refl, (refl, (refl, (refl, (refl, (refl, (refl, (refl, (refl, (refl, (refl, (refl, (refl, (refl, (refl, (refl, (refl, (refl, (refl, (refl, (refl, (refl, (refl, (refl, (refl, (refl, (refl, (refl, (refl, (refl, (refl, (refl, (refl, (refl, (refl, (refl, (refl, (refl, (refl, (refl, (refl, (refl, (refl, (refl, (refl, (refl, (refl, tt))))))))))))))))))))))))))))))))))))))))))))))))))))

pub nesting_hold : Hold nesting
unfolding parsed text_answer symbol limit kind
nesting_hold = (refl, (refl, (refl, (refl, (refl, (refl, (refl, (refl, (refl, (refl, (refl, (refl, (refl, (refl, (refl, (refl, (refl, tt)))))))))))))))))

pub rows : Rows
unfolding parsed text_answer symbol limit kind
rows = (refl, refl)

pub nearest_if : NearestIf
unfolding parsed text_answer symbol limit kind
nearest_if = refl

pub voids : Voids
unfolding parsed text_answer symbol limit kind
voids = refl
