use Rattle.std.proofs.Common.{◌≡◌, ℕ, ℤ, ◌+◌, ◌<◌, true, false, List, Option, Some, None, sym, ap, ◌∙◌, subst, arith, All, Contains}
use Rattle.std.specs.List.{list_all}
use Rattle.std.specs.Option.{option_map, option_map_or}
use Rattle.cc_base.specs.Meaning.{Meaning}
use Rattle.cc_base.specs.declared.names.CallId.{CallId}
use Rattle.cc_queue.specs.Calls.{CallList, call_numbered}
use Rattle.cc_queue.specs.Chains.{IsNext, ends_at, links, places}
use Rattle.cc_queue.specs.Choice.{goes_before, is_chosen, rank}
use Rattle.cc_queue.specs.Kept.{held_calls, in_order}
use Rattle.cc_queue.specs.declared.call.PendingCall.{PendingCall}
use Rattle.cc_queue.specs.declared.chains.Ends.{Ends}
use Rattle.cc_queue.specs.declared.node.Chain.TheVariants.{Transaction}
use Rattle.cc_queue.proofs.Best.{IsBestBelow, LeadsBelow, all_none, best_more, falls, here, leads_all, list_all_from_among, to_go}
use Rattle.cc_queue.proofs.Keeping.{find_present}
use Rattle.cc_queue.proofs.Ordered.{all_from_among, among_contained, contains_from_among}
use Rattle.cc_queue.proofs.Views.{among_slot, rising, slots_apart}
use Rattle.cc_queue.proofs.queues.Queues.best.Goals as goal

pub loop-at-init : goal.loop-at-init
loop-at-init g c =
    let i = c.self.inside in
    let lane : ℕ × ℕ = (c.args.target.0, c.args.trans) in
    let found = ap (λ q. option_map (λ (e : Ends). e.first) (ends_at i.transactions q)) (sym c.lane.ensures) ∙ sym c.first-at.ensures in
    record {
      from = 0;
      next = subst (λ o. IsNext (places (links Transaction i.nodes)) lane 0 o) found (c.self.invariant.by_transaction.first lane);
      best = λ t d e less. absurd (omega arith);
    }

pub loop-at-preserved : goal.loop-at-preserved
loop-at-preserved g c =
    let i = c.self.inside in
    let m : Meaning = g.B.Behave.means c.args.code.now in
    let lane : ℕ × ℕ = (c.args.target.0, c.args.trans) in
    let slot = c.in-Some.slot in
    let n = c.index-node.result.now in
    let inv = c.loop-at.invariant in
    let next = subst (λ o. IsNext (places (links Transaction i.nodes)) lane inv.from o) c.in-Some.is inv.next in
    let h = here lane i.nodes (ends_at i.transactions) inv.from slot n c.self.invariant.by_transaction next c.index-node.ensures in
    let more = best_more m c.args.target.0 c.args.trans c.args.site c.args.env.now i.nodes inv.from slot n c.loop-at.best c.fit.result h c.index-node.ensures c.fit.ensures inv.best in
    record {
      from = n.call.number.0 + 1;
      next = subst (λ o. IsNext (places (links Transaction i.nodes)) lane (n.call.number.0 + 1) o) (sym c.neighbours-at.ensures.after) h.next;
      best = subst (IsBestBelow (rank m c.args.target.0 c.args.trans c.args.site c.args.env.now) i.nodes (n.call.number.0 + 1)) (sym c.better-best.ensures) more;
    }

pub loop-at-smaller : goal.loop-at-smaller
loop-at-smaller g c =
    let i = c.self.inside in
    let lane : ℕ × ℕ = (c.args.target.0, c.args.trans) in
    let slot = c.in-Some.slot in
    let n = c.index-node.result.now in
    let inv = c.loop-at.invariant in
    let next = subst (λ o. IsNext (places (links Transaction i.nodes)) lane inv.from o) c.in-Some.is inv.next in
    let h = here lane i.nodes (ends_at i.transactions) inv.from slot n c.self.invariant.by_transaction next c.index-node.ensures in
    let less = falls lane i.nodes (ends_at i.transactions) inv.from slot n h c.self.invariant.by_transaction c.index-node.ensures in
    subst (λ o. to_go i.nodes o < to_go i.nodes c.loop-at.at) (sym c.neighbours-at.ensures.after)
    (subst (λ o. to_go i.nodes n.of_transaction.after < to_go i.nodes o) (sym c.in-Some.is) less)

pub returns-in_default-best-clause-none : goal.returns-in_default-best-clause-none
returns-in_default-best-clause-none g c =
    let i = c.self.inside in
    let m : Meaning = g.B.Behave.means c.args.code.now in
    let r : PendingCall → Option ℤ = rank m c.args.target.0 c.args.trans c.args.site c.args.env.now in
    let lane : ℕ × ℕ = (c.args.target.0, c.args.trans) in
    let inv = c.loop-at.invariant in
    let next = subst (λ o. IsNext (places (links Transaction i.nodes)) lane inv.from o) c.in_default.is inv.next in
    let none = subst (IsBestBelow r i.nodes inv.from) c.in_default-best.is inv.best in
    subst (λ (v : CallList). All (λ (d : PendingCall). r d ≡ None) v.calls) c.self.view_is
    (all_from_among (λ (d : PendingCall). r d ≡ None) (in_order (held_calls i.nodes.slots))
    (all_none m c.args.target.0 c.args.trans c.args.site c.args.env.now i.nodes inv.from next none))

pub returns-clause-chosen : goal.returns-clause-chosen
returns-clause-chosen g c =
    let i = c.self.inside in
    let m : Meaning = g.B.Behave.means c.args.code.now in
    let r : PendingCall → Option ℤ = rank m c.args.target.0 c.args.trans c.args.site c.args.env.now in
    let lane : ℕ × ℕ = (c.args.target.0, c.args.trans) in
    let inv = c.loop-at.invariant in
    let view : List PendingCall = in_order (held_calls i.nodes.slots) in
    let k = c.in-Some-best._rank in
    let next = subst (λ o. IsNext (places (links Transaction i.nodes)) lane inv.from o) c.in_default.is inv.next in
    let b : LeadsBelow r i.nodes inv.from c.in-Some-best.number k = subst (IsBestBelow r i.nodes inv.from) c.in-Some-best.is inv.best in
    let leads =
    list_all_from_among (λ (d : PendingCall). goes_before k b.call.number.0 (r d) d.number.0) view
    (leads_all m c.args.target.0 c.args.trans c.args.site c.args.env.now i.nodes inv.from c.in-Some-best.number k next b)
    in
    let chosen : is_chosen m c.args.target.0 c.args.trans c.args.site c.args.env.now view b.call ≡ true =
    ap (λ o. option_map_or (λ j. list_all (λ (d : PendingCall). goes_before j b.call.number.0 (r d) d.number.0) view) o false) b.ranked ∙ leads
    in (
      b.call,
      subst (λ (v : CallList). Contains v.calls b.call) c.self.view_is (contains_from_among b.call view (among_slot i.nodes.slots b.call b.slot b.at)),
      b.named,
      subst (λ (v : CallList). is_chosen m c.args.target.0 c.args.trans c.args.site c.args.env.now v.calls b.call ≡ true) c.self.view_is chosen,
    )

pub returns-clause-found : goal.returns-clause-found
returns-clause-found g c =
    let i = c.self.inside in
    let view : List PendingCall = in_order (held_calls i.nodes.slots) in
    let chosen = returns-clause-chosen g c in
    let among = among_contained chosen.0 view (subst (λ (v : CallList). Contains v.calls chosen.0) (sym c.self.view_is) chosen.1) in
    let rises = rising i.nodes.slots (slots_apart i.nodes (ends_at i.transactions) c.self.invariant.by_transaction) in
    let found = subst (λ (v : CallList). call_numbered v.calls chosen.0.number.0 ≡ Some chosen.0) c.self.view_is (find_present view chosen.0 rises among) in
    (chosen.0, ap (λ (n : CallId). call_numbered c.args.self.now.calls n.0) (sym chosen.2) ∙ found, chosen.2, chosen.3)
