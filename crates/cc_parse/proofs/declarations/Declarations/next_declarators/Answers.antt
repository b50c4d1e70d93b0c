use Rattle.std.proofs.Common.{rules, sym, [], ◌∷◌, length}
use Rattle.cc_lex.specs.declared.token.Mark.TheVariants as mark
use Rattle.cc_grammar.specs.Kinds.{mark_kind}
use Rattle.cc_grammar.specs.Reading.{symbol}
use Rattle.cc_grammar.specs.Symbols as the
use Rattle.cc_expressions.proofs.Turns.{begun, turned}
use Rattle.cc_parse.proofs.declarations.Declarations.next_declarators.Goals as goal

pub loop-turn-init : goal.loop-turn-init
loop-turn-init c =
    rw c.new-found.ensures
    (begun (symbol c.args.self.now.simple.room the.next_declarator) (mark_kind mark.Comma ∷ []) (length c.args.tokens.now) c.left-turn-end.result c.args.tokens.now (sym c.left-turn-end.ensures.left))

pub loop-turn-preserved : goal.loop-turn-preserved
loop-turn-preserved c =
    rw c.in_ok-push.ensures.ok
    (turned _ (symbol c.args.self.now.simple.room the.next_declarator) (mark_kind mark.Comma ∷ []) c.left-turn-end.result c.loop-turn._turn c.loop-turn.found c.loop-turn.tokens c.next_declarator.new.tokens _
    c.loop-turn.invariant c.loop-turn-test.true (search rules) c.in_ok-next_declarator.ensures)
