use Rattle.std.proofs.Common.{◌-◌, ◌<◌, ◌∷◌, ◌++◌, [], Option, refl, sym, ap, ◌∙◌, subst, arith, rules}
use Rattle.std.specs.HashMap.{get, spare}
use Rattle.std.specs.Option.{option_map}
use Rattle.std.specs.Prelude.{nat_eq}
use Rattle.cc_queue.specs.Calls.{CallList}
use Rattle.cc_queue.specs.Chains.{but, ends_at, link_of, links}
use Rattle.cc_queue.specs.declared.node.Chain.TheVariants.{Transaction, Target}
use Rattle.cc_queue.specs.declared.node.Neighbours.{Neighbours}
use Rattle.cc_queue.specs.declared.node.Node.{Node}
use Rattle.cc_queue.proofs.Keeping.{above_links, all_below, but_placed, chained_links, kept_added, placed_from, view_placed}
use Rattle.cc_queue.proofs.Slots.{on_ok}
use Rattle.cc_queue.proofs.queues.Queues.add.Goals as goal

pub link-requires-clause-others : goal.link-requires-clause-others
link-requires-clause-others c =
    let i = c.self.inside in
    let s = c.insert_reserved-slot in
    let p = placed_from i.nodes s.new.self s.result _ s.ensures.was_vacant s.ensures.updates in
    chained_links (links Transaction i.nodes) (but s.result (links Transaction s.new.self)) (ends_at i.transactions)
    (λ t. sym (but_placed Transaction i.nodes s.new.self s.new.self s.result _ p (λ q. refl) t)) c.self.invariant.by_transaction

pub link-requires-clause-node : goal.link-requires-clause-node
link-requires-clause-node c =
    let i = c.self.inside in
    let s = c.insert_reserved-slot in
    let p = placed_from i.nodes s.new.self s.result _ s.ensures.was_vacant s.ensures.updates in (
      _,
      ap (λ (o : Option Node). option_map (link_of Transaction) o) p.at,
      sym c.lane-lane.ensures,
      ap (λ (n : Neighbours). n.after) c.none.ensures,
      search rules,
      above_links Transaction i.nodes c.args.call.0 (but s.result (links Transaction s.new.self)) (but_placed Transaction i.nodes s.new.self s.new.self s.result _ p (λ q. refl))
          (all_below _ _ c.args.call.0 c.self.view_is c.requires.last),
    )

pub link-requires-2-clause-others : goal.link-requires-2-clause-others
link-requires-2-clause-others c =
    let i = c.self.inside in
    let s = c.insert_reserved-slot in
    let p = placed_from i.nodes s.new.self s.result _ s.ensures.was_vacant s.ensures.updates in
    chained_links (links Target i.nodes) (but s.result (links Target c.link.new.nodes)) (ends_at i.targets)
    (λ t. sym (but_placed Target i.nodes s.new.self c.link.new.nodes s.result _ p c.link.ensures.standing.other t)) c.self.invariant.by_target

pub link-requires-2-clause-node : goal.link-requires-2-clause-node
link-requires-2-clause-node c =
    let i = c.self.inside in
    let s = c.insert_reserved-slot in
    let p = placed_from i.nodes s.new.self s.result _ s.ensures.was_vacant s.ensures.updates in (
      _,
      c.link.ensures.standing.other s.result ∙ ap (λ (o : Option Node). option_map (link_of Target) o) p.at,
      sym c.lane-lane-2.ensures,
      ap (λ (n : Neighbours). n.after) c.none-2.ensures,
      search rules,
      above_links Target i.nodes c.args.call.0 (but s.result (links Target c.link.new.nodes)) (but_placed Target i.nodes s.new.self c.link.new.nodes s.result _ p c.link.ensures.standing.other)
          (all_below _ _ c.args.call.0 c.self.view_is c.requires.last),
    )

pub invariant_of-self : goal.invariant_of-self
invariant_of-self c =
    let i = c.self.inside in
    let k = c.self.invariant in
    let s = c.insert_reserved-slot in
    let a = c.link.ensures in
    let b = c.link-2.ensures in
    let n3 = c.link-2.new.nodes in
    let p = placed_from i.nodes s.new.self s.result _ s.ensures.was_vacant s.ensures.updates in
    let room : 0 < i.spare = subst (λ n. 0 < n) (ap (λ (v : CallList). v.spare) (sym c.self.view_is)) c.requires.room in
    let in_slots : 0 < spare i.slots = omega (arith, room, k.slots_room) in
    let updates = on_ok c.insert.result (c.insert.ensures.succeeds in_slots) c.insert.ensures.updates in
    kept_added i.nodes s.new.self n3 s.result _ (get nat_eq i.slots) (get nat_eq c.insert.new.self) (ends_at i.transactions) (ends_at c.link.new.ends) (ends_at i.targets) (ends_at c.link-2.new.ends)
    i.spare _ _ _ (i.spare - 1) _ _ _ p (λ t. b.standing.calls t ∙ a.standing.calls t) k updates.0
    (all_below _ _ c.args.call.0 c.self.view_is c.requires.last)
    (chained_links (links Transaction c.link.new.nodes) (links Transaction n3) (ends_at c.link.new.ends) (λ t. sym (b.standing.other t)) a.chained)
    b.chained
    (omega (arith, room, k.room, b.standing.count, a.standing.count, s.ensures.len, s.ensures.capacity, b.standing.capacity, a.standing.capacity))
    (omega (arith, k.slots_room, c.insert.ensures.spare)) (omega (arith, k.transactions_room, a.spare)) (omega (arith, k.targets_room, b.spare))

pub returns : goal.returns
returns c =
    let i = c.self.inside in
    let k = c.self.invariant in
    let s = c.insert_reserved-slot in
    let a = c.link.ensures in
    let b = c.link-2.ensures in
    let n3 = c.link-2.new.nodes in
    let p = placed_from i.nodes s.new.self s.result _ s.ensures.was_vacant s.ensures.updates in
    let calls =
    view_placed i.nodes s.new.self n3 s.result _ (ends_at i.transactions) (ends_at c.link.new.ends) p (λ t. b.standing.calls t ∙ a.standing.calls t) k.by_transaction
    (chained_links (links Transaction c.link.new.nodes) (links Transaction n3) (ends_at c.link.new.ends) (λ t. sym (b.standing.other t)) a.chained)
    (all_below _ _ c.args.call.0 c.self.view_is c.requires.last)
    ∙ ap (λ (v : CallList). v.calls ++ record { number = c.args.call; target = c.args.target; trans = c.args.trans; args = c.args.args } ∷ []) c.self.view_is
    in
    let left = ap (λ (v : CallList). v.spare - 1) c.self.view_is in
    λ j. record { calls = calls j; spare = left j }
