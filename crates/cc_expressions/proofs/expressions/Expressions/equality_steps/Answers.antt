use Rattle.std.proofs.Common.{rules, sym, [], ◌∷◌, length}
use Rattle.cc_lex.specs.declared.token.Mark.TheVariants as mark
use Rattle.cc_grammar.specs.Kinds.{mark_kind}
use Rattle.cc_grammar.specs.Reading.{symbol}
use Rattle.cc_grammar.specs.Symbols as the
use Rattle.cc_expressions.proofs.Turns.{begun, turned}
use Rattle.cc_expressions.proofs.expressions.Expressions.equality_steps.Goals as goal

pub loop-turn-init : goal.loop-turn-init
loop-turn-init g c =
    rw c.new-found.ensures
    (begun (symbol c.args.self.now.operands.simple.room the.equality_step) (mark_kind mark.Equal ∷ mark_kind mark.NotEqual ∷ []) (length c.args.tokens.now) c.left-turn-end.result c.args.tokens.now (sym c.left-turn-end.ensures.left))

pub loop-turn-preserved : goal.loop-turn-preserved
loop-turn-preserved g c =
    rw c.in_ok-push.ensures.ok
    (turned _ (symbol c.args.self.now.operands.simple.room the.equality_step) (mark_kind mark.Equal ∷ mark_kind mark.NotEqual ∷ []) c.left-turn-end.result c.loop-turn._turn c.loop-turn.found c.loop-turn.tokens c.equality_step.new.tokens _
    c.loop-turn.invariant c.loop-turn-test.true (search rules) c.in_ok-equality_step.ensures)
