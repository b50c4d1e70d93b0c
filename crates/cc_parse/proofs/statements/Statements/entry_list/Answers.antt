use Rattle.std.proofs.Common.{◌≡◌, rules, sym, [], ◌∷◌, length}
use Rattle.std.specs.Prelude.{Err}
use Rattle.cc_grammar.specs.Begins.{entry_starts}
use Rattle.cc_grammar.specs.Reading.{symbol}
use Rattle.cc_grammar.specs.Symbols as the
use Rattle.cc_expressions.proofs.Turns.{begun, turned}
use Rattle.cc_parse.proofs.Stopped.{stopped}
use Rattle.cc_parse.proofs.statements.Statements.entry_list.Goals as goal

pub loop-turn-init : goal.loop-turn-init
loop-turn-init g c =
    rw c.new-found.ensures
    (begun (symbol c.args.self.now.operands.simple.room the.entry) entry_starts (length c.args.tokens.now) c.left-turn-end.result c.args.tokens.now (sym c.left-turn-end.ensures.left))

pub loop-turn-preserved : goal.loop-turn-preserved
loop-turn-preserved g c =
    rw c.in_ok-push.ensures.ok
    (turned _ (symbol c.args.self.now.operands.simple.room the.entry) entry_starts c.left-turn-end.result c.loop-turn._turn c.loop-turn.found c.loop-turn.tokens c.entry.new.tokens _
    c.loop-turn.invariant c.loop-turn-test.true (search rules) c.in_ok-entry.ensures)

pub returns-in_err-entry : goal.returns-in_err-entry
returns-in_err-entry g c =
    let same : c.from_residual.result ≡ Err c.in_err-entry.field-0.0 = search rules in
    rw same
    (stopped _ (symbol c.args.self.now.operands.simple.room the.entry) entry_starts c.left-turn-end.result c.loop-turn._turn c.loop-turn.found c.loop-turn.tokens c.entry.new.tokens _
    c.loop-turn.invariant c.loop-turn-test.true (search rules) c.in_err-entry.ensures)
