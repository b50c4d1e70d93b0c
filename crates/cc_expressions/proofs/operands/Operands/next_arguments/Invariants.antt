use Rattle.std.proofs.Common.{◌≡◌, ◌-◌, [], ◌∷◌, length}
use Rattle.cc_lex.specs.declared.token.Mark.TheVariants as mark
use Rattle.cc_grammar.specs.Kinds.{mark_kind}
use Rattle.cc_grammar.specs.Reading.{loop, symbol}
use Rattle.cc_grammar.specs.Symbols as the
use Rattle.cc_expressions.specs.Turns.{from}
use Rattle.cc_expressions.proofs.operands.Operands.next_arguments.Given as goal

abbrev pub invariant-loop-turn : goal.invariant-loop-turn
invariant-loop-turn g l =
    loop (symbol l.self.simple.room the.next_argument) (mark_kind mark.Comma ∷ []) (length l.fn.tokens) l.fn.tokens
    ≡ from (symbol l.self.simple.room the.next_argument) (mark_kind mark.Comma ∷ []) (l._turn-end - l._turn) l.found l.tokens
