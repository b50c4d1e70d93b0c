use Rattle.cc_parse.proofs.nesting.+statements.Given as goal

abbrev pub decreases-statement : goal.decreases-statement
decreases-statement l = l.room
