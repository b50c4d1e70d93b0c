use Rattle.std.proofs.Common.{◌+◌}
use Rattle.desk_tests.proofs.work.+fn-keep_together-join+arg2+fn-keep_together-join+arg3+keep_together.Given as goal

abbrev pub decreases-join+arg2 : goal.decreases-join+arg2
decreases-join+arg2 g l = l.half + l.half + 1

abbrev pub decreases-join+arg3 : goal.decreases-join+arg3
decreases-join+arg3 g l = l.rest + l.rest + 1

abbrev pub decreases-keep_together : goal.decreases-keep_together
decreases-keep_together g l = l.workers + l.workers
