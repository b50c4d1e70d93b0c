use Rattle.cc_kernel.proofs.Timed.{longer-with}
use Rattle.cc_rules.specs.Choice.{call_deadline}
use Rattle.cc_timer.specs.declared.who.Who.TheVariants as who
use Rattle.cc_kernel.proofs.asks.call.Goals as goal

pub returns-clause-deadlines : goal.returns-clause-deadlines
returns-clause-deadlines g c =
    rw (c.add_some.ensures, c.call_deadline.ensures) (longer-with (call_deadline c.args.waiting) (who.Call (record { 0 = c.args.store.now.drawn })) c.args.store.now.deadlines.pairs)
