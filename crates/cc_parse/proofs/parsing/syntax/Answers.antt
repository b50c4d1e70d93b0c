use Rattle.cc_grammar.specs.Reading.{Bad}
use Rattle.cc_parse.proofs.Answered.{no_more}
use Rattle.cc_parse.proofs.parsing.syntax.Goals as goal

pub overflow_sub-result : goal.overflow_sub-result
overflow_sub-result c = rw (c.left.ensures.left, c.len.ensures.len) (no_more c.args.tokens.now.tokens Bad c.args.left.now c.requires)
