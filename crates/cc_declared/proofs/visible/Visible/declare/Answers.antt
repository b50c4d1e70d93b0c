use Rattle.cc_declared.proofs.Laws.{undone-after, undone-here}
use Rattle.cc_declared.proofs.visible.Visible.declare.Goals as goal

pub returns-then-is_here-clause-names : goal.returns-then-is_here-clause-names
returns-then-is_here-clause-names c =
    undone-here c.args.hidden.now c.push.new.self c.args.self.now c.args.x c.meaning-meant.result c.in_ok-push.ensures.ok c.meaning-meant.ensures.meaning

pub returns-clause-names : goal.returns-clause-names
returns-clause-names c =
    undone-after c.args.hidden.now c.push.new.self c.args.self.now c.args.x c.meaning-meant.result c.in_ok-push.ensures.ok c.meaning-meant.ensures.meaning c.args.scope c.args.t c.variable.new.self c.in_ok-variable.ensures
