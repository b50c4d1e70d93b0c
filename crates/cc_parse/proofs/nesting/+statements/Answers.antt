use Rattle.std.proofs.Common.{arith}
use Rattle.cc_grammar.specs.Symbols as the
use Rattle.cc_grammar.proofs.Equations.{level_step}
use Rattle.cc_parse.proofs.nesting.+statements.Goals as goal

pub returns : goal.returns
returns t c = record { read = rw (level_step c.args.room the.statement c.args.tokens.now (omega arith)) c.statement.ensures.read }
