use Rattle.std.proofs.Common.{◌≡◌, ◌-◌, length}
use Rattle.cc_grammar.specs.Begins.{type_starts}
use Rattle.cc_grammar.specs.Reading.{loop, symbol}
use Rattle.cc_grammar.specs.Symbols as the
use Rattle.cc_expressions.specs.Turns.{from}
use Rattle.cc_parse.proofs.declarations.Declarations.more_fields.Given as goal

abbrev pub invariant-loop-turn : goal.invariant-loop-turn
invariant-loop-turn l =
    loop (symbol l.self.simple.room the.field) type_starts (length l.fn.tokens) l.fn.tokens
    ≡ from (symbol l.self.simple.room the.field) type_starts (l._turn-end - l._turn) l.found l.tokens
