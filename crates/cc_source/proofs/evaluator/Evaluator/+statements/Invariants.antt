use Rattle.std.proofs.Common.{◌≡◌, ◌+◌, drop}
use Rattle.cc_source.specs.Gives.{Stands, caller, left, scope}
use Rattle.cc_source.specs.Lists.{exec_all}
use Rattle.cc_source.proofs.Weights.{statement_weight, statement_weights}
use Rattle.cc_source.proofs.evaluator.Evaluator.+statements.Given as goal

abbrev pub decreases-statement : goal.decreases-statement
decreases-statement l = statement_weight l.s.now

abbrev pub decreases-statements : goal.decreases-statements
decreases-statements l = statement_weights l.all.now

abbrev pub decreases-accept : goal.decreases-accept
decreases-accept l = 1 + statement_weights l.part.now.block

abbrev pub invariant-statements-loop-s : goal.invariant-statements-loop-s
invariant-statements-loop-s l =
    (exec_all l.self.program.now (caller l.self) (drop l.s-index l.all) (scope l.self l.run) (left l.run)
    ≡ exec_all l.self.program.now (caller l.self) l.all (scope l.self l.fn.run) (left l.fn.run))
    × Stands l.self l.run
