use Rattle.std.proofs.Common.{arith}
use Rattle.std.specs.HashMap.{get}
use Rattle.std.specs.Prelude.{nat_eq}
use Rattle.cc_queue.specs.Chains.{ends_at}
use Rattle.cc_queue.proofs.Keeping.{kept_with_room, room_stays}
use Rattle.cc_queue.proofs.queues.Queues.reserve.Goals as goal

pub invariant_of-self : goal.invariant_of-self
invariant_of-self c =
    let i = c.self.inside in
    let k = c.self.invariant in
    let r = c.make_room.ensures in
    let n = c.make_room.new in
    kept_with_room i.nodes n.nodes (get nat_eq i.slots) (get nat_eq n.slots) (ends_at i.transactions) (ends_at n.transactions) (ends_at i.targets) (ends_at n.targets)
    i.spare _ _ _ i.spare _ _ _ r.nodes r.slots.at r.transactions.at r.targets.at k (room_stays i.nodes n.nodes i.spare r.nodes k.room)
    (omega (arith, k.slots_room, r.slots.room)) (omega (arith, k.transactions_room, r.transactions.room)) (omega (arith, k.targets_room, r.targets.room))

pub invariant_of-self-2 : goal.invariant_of-self-2
invariant_of-self-2 c =
    let i = c.self.inside in
    let k = c.self.invariant in
    let r = c.make_room.ensures in
    let n = c.make_room.new in
    let o = c.in_ok-make_room.ensures.room in
    kept_with_room i.nodes n.nodes (get nat_eq i.slots) (get nat_eq n.slots) (ends_at i.transactions) (ends_at n.transactions) (ends_at i.targets) (ends_at n.targets)
    i.spare _ _ _ c.max-wanted.result _ _ _ r.nodes r.slots.at r.transactions.at r.targets.at k o.0 o.1 o.2 o.3
