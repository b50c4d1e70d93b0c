use Rattle.std.proofs.Common.{◌≡◌, drop}
use Rattle.std.specs.List.{list_all}
use Rattle.cc_source.proofs.Weights.{statement_weight, statement_weights}
use Rattle.cc_source.proofs.checks.+straight_statements.Given as goal
use Rattle.cc_source.specs.Straight.{is_straight_statement}

abbrev pub decreases-straight_statement : goal.decreases-straight_statement
decreases-straight_statement l = statement_weight l.s.now

abbrev pub decreases-straight_statements : goal.decreases-straight_statements
decreases-straight_statements l = statement_weights l.all.now

abbrev pub invariant-straight_statements-loop-s : goal.invariant-straight_statements-loop-s
invariant-straight_statements-loop-s l =
    list_all is_straight_statement (drop l.s-index l.all) ≡ list_all is_straight_statement l.all
