use Rattle.std.proofs.Common.{◌≡◌, eqb, not, filter, Option, Some, None, refl, sym, ap, ◌∙◌, arith}
use Rattle.std.specs.HashMap.{get}
use Rattle.std.specs.Option.{option_map}
use Rattle.std.specs.Prelude.{nat_eq}
use Rattle.cc_queue.specs.Calls.{CallList, call_numbered}
use Rattle.cc_queue.specs.Chains.{but, call_at, ends_at, link_of, links}
use Rattle.cc_queue.specs.Kept.{held_calls, in_order}
use Rattle.cc_queue.specs.declared.call.PendingCall.{PendingCall}
use Rattle.cc_queue.specs.declared.node.Chain.TheVariants.{Transaction, Target}
use Rattle.cc_queue.specs.declared.node.Node.{Node}
use Rattle.cc_queue.proofs.Keeping.{absent_number, chained_links, filter_absent, find_absent, find_present, kept_removed, links_left, view_left}
use Rattle.cc_queue.proofs.Views.{among_slot, rising, same_call, slots_apart}
use Rattle.cc_queue.proofs.queues.Queues.take.Goals as goal

pub returns-in_default-clause-call : goal.returns-in_default-clause-call
returns-in_default-clause-call c =
    let i = c.self.inside in
    let none : get nat_eq i.slots c.args.call.0 ≡ None = sym c.remove.ensures.value ∙ c.in_default.is in
    let absent = absent_number i.nodes (get nat_eq i.slots) _ _ _ _ _ _ c.args.call.0 c.self.invariant none in
    sym (find_absent _ c.args.call.0 absent) ∙ ap (λ (v : CallList). call_numbered v.calls c.args.call.0) c.self.view_is

pub returns-in_default-clause-others : goal.returns-in_default-clause-others
returns-in_default-clause-others c =
    let i = c.self.inside in
    let none : get nat_eq i.slots c.args.call.0 ≡ None = sym c.remove.ensures.value ∙ c.in_default.is in
    let absent = absent_number i.nodes (get nat_eq i.slots) _ _ _ _ _ _ c.args.call.0 c.self.invariant none in
    let calls =
    sym (filter_absent _ c.args.call.0 absent)
    ∙ ap (λ (v : CallList). filter (λ (d : PendingCall). not (eqb d.number.0 c.args.call.0)) v.calls) c.self.view_is
    in
    let left = ap (λ (v : CallList). v.spare) c.self.view_is in
    λ j. record { calls = calls j; spare = left j }

pub unlink-requires-clause-node : goal.unlink-requires-clause-node
unlink-requires-clause-node c =
    (_, ap (λ (o : Option Node). option_map (link_of Transaction) o) c.index.ensures, sym c.lane-lane.ensures)

pub unlink-requires-2-clause-chained : goal.unlink-requires-2-clause-chained
unlink-requires-2-clause-chained c =
    let i = c.self.inside in
    chained_links (links Target i.nodes) (links Target c.unlink.new.nodes) (ends_at i.targets) (λ t. sym (c.unlink.ensures.standing.other t)) c.self.invariant.by_target

pub invariant_of-self-2 : goal.invariant_of-self-2
invariant_of-self-2 c =
    let i = c.self.inside in
    let k = c.self.invariant in
    let a = c.unlink.ensures in
    let b = c.unlink-2.ensures in
    let r = c.remove-node.ensures in
    let n1 = c.unlink.new.nodes in
    let n2 = c.unlink-2.new.nodes in
    let n3 = c.remove-node.new.self in
    let slot = c.in-Some.slot in
    let there : get nat_eq i.slots c.args.call.0 ≡ Some slot = sym c.remove.ensures.value ∙ c.in-Some.is in
    kept_removed i.nodes n2 n3 slot c.args.call.0 (get nat_eq i.slots) (get nat_eq c.remove.new.self) (ends_at i.transactions) (ends_at c.unlink.new.ends) (ends_at i.targets) (ends_at c.unlink-2.new.ends)
    i.spare _ _ _ _ _ _ (λ t. b.standing.calls t ∙ a.standing.calls t) r.updates k there c.remove.ensures.updates.0
    (chained_links (but slot (links Transaction n1)) (links Transaction n3) (ends_at c.unlink.new.ends) (links_left Transaction n1 n2 n3 slot b.standing.other r.updates) a.others)
    (chained_links (but slot (links Target n2)) (links Target n3) (ends_at c.unlink-2.new.ends) (links_left Target n2 n2 n3 slot (λ t. refl) r.updates) b.others)
    (omega (arith, k.room, r.len, r.capacity, b.standing.count, a.standing.count, b.standing.capacity, a.standing.capacity))
    c.remove.ensures.spare a.spare b.spare

pub returns-clause-call : goal.returns-clause-call
returns-clause-call c =
    let i = c.self.inside in
    let k = c.self.invariant in
    let slot = c.in-Some.slot in
    let there : get nat_eq i.slots c.args.call.0 ≡ Some slot = sym c.remove.ensures.value ∙ c.in-Some.is in
    let asked = k.held c.args.call.0 slot there in
    let taken : call_at i.nodes slot ≡ Some c.remove-node.result.call =
    sym (c.unlink-2.ensures.standing.calls slot ∙ c.unlink.ensures.standing.calls slot)
    ∙ ap (λ (o : Option Node). option_map (λ (n : Node). n.call) o) c.remove-node.ensures.value
    in
    let same = same_call _ _ _ taken asked.1 in
    let found = find_present _ asked.0 (rising i.nodes.slots (slots_apart i.nodes _ k.by_transaction)) (among_slot i.nodes.slots asked.0 slot asked.1) in
    ap (λ (d : PendingCall). Some d) same
    ∙ sym found
    ∙ ap (λ n. call_numbered (in_order (held_calls i.nodes.slots)) n) asked.2
    ∙ ap (λ (v : CallList). call_numbered v.calls c.args.call.0) c.self.view_is

pub returns-clause-others : goal.returns-clause-others
returns-clause-others c =
    let i = c.self.inside in
    let k = c.self.invariant in
    let a = c.unlink.ensures in
    let b = c.unlink-2.ensures in
    let r = c.remove-node.ensures in
    let n1 = c.unlink.new.nodes in
    let n2 = c.unlink-2.new.nodes in
    let n3 = c.remove-node.new.self in
    let slot = c.in-Some.slot in
    let there : get nat_eq i.slots c.args.call.0 ≡ Some slot = sym c.remove.ensures.value ∙ c.in-Some.is in
    let asked = k.held c.args.call.0 slot there in
    let calls =
    view_left i.nodes n2 n3 slot asked.0 (ends_at i.transactions) (ends_at c.unlink.new.ends) (λ t. b.standing.calls t ∙ a.standing.calls t) r.updates asked.1 k.by_transaction
    (chained_links (but slot (links Transaction n1)) (links Transaction n3) (ends_at c.unlink.new.ends) (links_left Transaction n1 n2 n3 slot b.standing.other r.updates) a.others)
    ∙ ap (λ n. filter (λ (d : PendingCall). not (eqb d.number.0 n)) (in_order (held_calls i.nodes.slots))) asked.2
    ∙ ap (λ (v : CallList). filter (λ (d : PendingCall). not (eqb d.number.0 c.args.call.0)) v.calls) c.self.view_is
    in
    let left = ap (λ (v : CallList). v.spare) c.self.view_is in
    λ j. record { calls = calls j; spare = left j }
