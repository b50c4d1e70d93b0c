use Rattle.cc_expressions.proofs.nesting.+expressions.Given as goal

abbrev pub decreases-assign : goal.decreases-assign
decreases-assign l = l.room

abbrev pub decreases-conditional : goal.decreases-conditional
decreases-conditional l = l.room

abbrev pub decreases-unary : goal.decreases-unary
decreases-unary l = l.room
