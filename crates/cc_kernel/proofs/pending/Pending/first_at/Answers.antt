use Rattle.std.specs.HashMap.{get}
use Rattle.std.proofs.Common.{nat_eq}
use Rattle.cc_kernel.proofs.Asked.{asked-first, asked-others}
use Rattle.cc_kernel.proofs.pending.Pending.first_at.Goals as goal

pub returns-clause-first : goal.returns-clause-first
returns-clause-first c =
    let k = c.self.inside in
    rw (← c.self.view_is)
    (asked-first (get nat_eq k.waiters) c.args.target k.queues.calls c.first_at.result c.first_at.ensures.call c.first_at.ensures.first)

pub returns-clause-others : goal.returns-clause-others
returns-clause-others c =
    let k = c.self.inside in
    rw (← c.self.view_is)
    (asked-others (get nat_eq k.waiters) c.args.target k.queues.calls c.first_at.result c.first_at.ensures.others)
