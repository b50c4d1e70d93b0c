use Rattle.std.proofs.Common.{length}
use Rattle.cc_expressions.proofs.cursor.+has.Given as goal

abbrev pub decreases-has : goal.decreases-has
decreases-has l = length l.list.now
