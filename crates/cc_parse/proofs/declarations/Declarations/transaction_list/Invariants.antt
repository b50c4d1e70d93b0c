use Rattle.std.proofs.Common.{◌≡◌, ◌-◌, [], ◌∷◌, length}
use Rattle.cc_lex.specs.declared.token.Word.TheVariants as word
use Rattle.cc_grammar.specs.Kinds.{word_kind}
use Rattle.cc_grammar.specs.Reading.{loop, symbol}
use Rattle.cc_grammar.specs.Symbols as the
use Rattle.cc_expressions.specs.Turns.{from}
use Rattle.cc_parse.proofs.declarations.Declarations.transaction_list.Given as goal

abbrev pub invariant-loop-turn : goal.invariant-loop-turn
invariant-loop-turn l =
    loop (symbol l.self.simple.room the.transaction) (word_kind word.Trans ∷ []) (length l.fn.tokens) l.fn.tokens
    ≡ from (symbol l.self.simple.room the.transaction) (word_kind word.Trans ∷ []) (l._turn-end - l._turn) l.found l.tokens
