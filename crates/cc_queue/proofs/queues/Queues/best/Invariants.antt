use Rattle.cc_queue.specs.Choice.{rank}
use Rattle.cc_queue.proofs.Best.{BestSoFar, to_go}
use Rattle.cc_queue.proofs.queues.Queues.best.Given as goal

abbrev pub invariant-loop-at : goal.invariant-loop-at
invariant-loop-at g l =
    BestSoFar (rank (g.B.Behave.means l.code) l.fn.target.0 l.trans l.site l.env) (l.fn.target.0, l.trans) l.self-inside.nodes l.at l.best

abbrev pub decreases-loop-at : goal.decreases-loop-at
decreases-loop-at g l = to_go l.self-inside.nodes l.at
