use Rattle.vm_tests.specs.Again.{MayGo}
use Rattle.vm_tests.proofs.again.asks_on.Given as goal

abbrev pub invariant-loop : goal.invariant-loop
invariant-loop g l = MayGo g.B.Behave.means g.B.Behave.at l.process
