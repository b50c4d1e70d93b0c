use Rattle.std.specs.HashMap.{get}
use Rattle.std.proofs.Common.{nat_eq}
use Rattle.cc_kernel.proofs.Asked.{asked-best, none-accepted}
use Rattle.cc_kernel.proofs.pending.Pending.best.Goals as goal

pub returns-in-Accept : goal.returns-in-Accept
returns-in-Accept g c =
    let k = c.self.inside in
    rw (← c.self.view_is, c.in-Accept.is)
    (asked-best (get nat_eq k.waiters) (g.B.Behave.means c.args.code.now) c.args.pid.0 c.in-Accept.trans c.in-Accept.site c.in-Accept.env k.queues.calls c.best.result
    c.best.ensures.none c.best.ensures.found)

pub returns-in_default : goal.returns-in_default
returns-in_default g c = none-accepted (g.B.Behave.means c.args.code.now) c.args.pid.0 c.args.alt.now c.args.self.now.items c.in_default.not-Accept
