use Rattle.std.specs.HashMap.{get}
use Rattle.std.proofs.Common.{refl, nat_eq}
use Rattle.cc_kernel.proofs.Asked.{asked-below, asked-more}
use Rattle.cc_queue.specs.Calls.{pending_call}
use Rattle.cc_kernel.proofs.pending.Pending.add.Goals as goal

pub add-requires-clause-last : goal.add-requires-clause-last
add-requires-clause-last c =
    let k = c.self.inside in
    asked-below (get nat_eq k.waiters) c.args.call.number.0 k.queues.calls (rw (← c.self.view_is) at c.requires.last)

pub returns : goal.returns
returns c =
    let k = c.self.inside in
    rw (c.add.ensures, ← c.self.view_is)
    (asked-more (get nat_eq k.waiters) (get nat_eq c.note.new.waiters) c.args.call.number.0 c.args.call.waiting c.note.ensures.at k.queues.calls
    (pending_call c.args.call.number c.args.call.target c.args.call.trans c.args.call.args) refl
    (rw (← c.self.view_is) at c.requires.last))
