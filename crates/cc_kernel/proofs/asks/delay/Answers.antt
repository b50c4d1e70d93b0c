use Rattle.cc_kernel.proofs.Timed.{more-with}
use Rattle.cc_timer.specs.declared.who.Who.TheVariants as who
use Rattle.cc_kernel.proofs.asks.delay.Goals as goal

pub returns-clause-deadlines : goal.returns-clause-deadlines
returns-clause-deadlines g c = rw c.add.ensures (more-with c.deadline_after-deadline.result (who.Process c.args.pid) c.args.store.now.deadlines.pairs)
