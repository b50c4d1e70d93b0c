use Rattle.std.proofs.Common.{arith}
use Rattle.cc_grammar.specs.Symbols as the
use Rattle.cc_grammar.proofs.Equations.{level_step}
use Rattle.cc_expressions.proofs.nesting.+expressions.Goals as goal

pub assign-returns : goal.assign-returns
assign-returns t c =
    record { read = rw (level_step c.args.room the.assign c.args.tokens.now (omega arith)) c.assign.ensures.read }

pub conditional-returns : goal.conditional-returns
conditional-returns t c =
    record { read = rw (level_step c.args.room the.conditional c.args.tokens.now (omega arith)) c.conditional.ensures.read }

pub unary-returns : goal.unary-returns
unary-returns t c =
    record { read = rw (level_step c.args.room the.unary c.args.tokens.now (omega arith)) c.unary.ensures.read }
