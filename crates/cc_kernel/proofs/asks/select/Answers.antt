use Rattle.cc_kernel.proofs.Timed.{longer-with}
use Rattle.cc_timer.specs.declared.who.Who.TheVariants as who
use Rattle.cc_kernel.proofs.asks.select.Goals as goal

pub returns-clause-deadlines : goal.returns-clause-deadlines
returns-clause-deadlines g c = rw c.add_some.ensures (longer-with c.select_deadline-deadline.result (who.Process c.args.pid) c.args.store.now.deadlines.pairs)
