use Rattle.vm_tests.proofs.Going.{may-go-on}
use Rattle.vm_tests.proofs.again.asks_on.Goals as goal

pub loop-preserved : goal.loop-preserved
loop-preserved g c =
    may-go-on g.B.Behave.means g.B.Behave.at c.loop.process c.go.new.this c.in_ok-request.request c.loop.invariant c.in_ok-request.ensures
    (c.is_answered.ensures c.if-not-is_answered.false)
