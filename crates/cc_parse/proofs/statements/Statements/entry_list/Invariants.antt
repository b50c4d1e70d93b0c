use Rattle.std.proofs.Common.{◌≡◌, ◌-◌, [], ◌∷◌, length}
use Rattle.cc_grammar.specs.Begins.{entry_starts}
use Rattle.cc_grammar.specs.Reading.{loop, symbol}
use Rattle.cc_grammar.specs.Symbols as the
use Rattle.cc_expressions.specs.Turns.{from}
use Rattle.cc_parse.proofs.statements.Statements.entry_list.Given as goal

abbrev pub invariant-loop-turn : goal.invariant-loop-turn
invariant-loop-turn g l =
    loop (symbol l.self.operands.simple.room the.entry) entry_starts (length l.fn.tokens) l.fn.tokens
    ≡ from (symbol l.self.operands.simple.room the.entry) entry_starts (l._turn-end - l._turn) l.found l.tokens
