use Rattle.std.proofs.Common.{◌≡◌, Bool, List, ◌∷◌, filter, not, false, Option, Some, refl, sym, ap, ◌∙◌, subst, All, Contains}
use Rattle.std.specs.Option.{option_map}
use Rattle.std.specs.Prelude.{nat_eq}
use Rattle.std.proofs.lemmas.Bool.{eq-eqb}
use Rattle.cc_queue.specs.Calls.{CallList, call_numbered}
use Rattle.cc_queue.specs.Kept.{held_calls, in_order}
use Rattle.cc_queue.specs.Chains.{IsNext, ends_at, links, places}
use Rattle.cc_queue.specs.declared.call.PendingCall.{PendingCall}
use Rattle.cc_queue.specs.declared.chains.Ends.{Ends}
use Rattle.cc_queue.specs.declared.node.Chain.TheVariants.{Target}
use Rattle.cc_queue.specs.declared.node.Node.{Node}
use Rattle.cc_queue.proofs.Keeping.{find_present, least_of_first, no_call_at, only_call, target_of_first}
use Rattle.cc_queue.proofs.Ordered.{all_from_among, among_contained, contains_from_among, filter_filter, first_passing}
use Rattle.cc_queue.proofs.Views.{among_slot, rising, slots_apart}
use Rattle.cc_queue.proofs.queues.Queues.first_at.Goals as goal

pub returns-in_default-clause-call : goal.returns-in_default-clause-call
returns-in_default-clause-call c =
    let i = c.self.inside in
    let ended = ap (λ q. option_map (λ (e : Ends). e.first) (ends_at i.targets q)) (sym c.lane.ensures) ∙ sym c.first.ensures ∙ c.in_default.is in
    let next = subst (λ o. IsNext (places (links Target i.nodes)) (c.args.target.0, 0) 0 o) ended (c.self.invariant.by_target.first (c.args.target.0, 0)) in
    subst (λ (v : CallList). All (λ (d : PendingCall). nat_eq d.target.0 c.args.target.0 ≡ false) v.calls) c.self.view_is
    (all_from_among (λ (d : PendingCall). nat_eq d.target.0 c.args.target.0 ≡ false) _ (no_call_at i.nodes c.args.target.0 next))

pub returns-clause-only : goal.returns-clause-only
returns-clause-only c =
    λ d held same.
    let i = c.self.inside in
    let slot = c.in-Some.slot in
    let n = c.index.result.now in
    let found = ap (λ q. option_map (λ (e : Ends). e.first) (ends_at i.targets q)) (sym c.lane.ensures) ∙ sym c.first.ensures ∙ c.in-Some.is in
    let next = subst (λ o. IsNext (places (links Target i.nodes)) (c.args.target.0, 0) 0 o) found (c.self.invariant.by_target.first (c.args.target.0, 0)) in
    let among = among_contained d _ (subst (λ (v : CallList). Contains v.calls d) (sym c.self.view_is) held) in
    ap (λ (z : PendingCall). z.target.0) (only_call i.nodes _ slot n c.self.invariant.by_transaction c.index.ensures d among same)
    ∙ target_of_first i.nodes c.args.target.0 slot n next c.index.ensures

pub returns-clause-call : goal.returns-clause-call
returns-clause-call c =
    let i = c.self.inside in
    let slot = c.in-Some.slot in
    let n = c.index.result.now in
    let found = ap (λ q. option_map (λ (e : Ends). e.first) (ends_at i.targets q)) (sym c.lane.ensures) ∙ sym c.first.ensures ∙ c.in-Some.is in
    let next = subst (λ o. IsNext (places (links Target i.nodes)) (c.args.target.0, 0) 0 o) found (c.self.invariant.by_target.first (c.args.target.0, 0)) in
    let e = target_of_first i.nodes c.args.target.0 slot n next c.index.ensures in (
      n.call,
      subst (λ (v : CallList). Contains v.calls n.call) c.self.view_is
          (contains_from_among n.call _ (among_slot i.nodes.slots n.call slot (ap (λ (o : Option Node). option_map (λ (m : Node). m.call) o) c.index.ensures))),
      refl,
      λ j. record { 0 = e j },
    )

pub returns-clause-first : goal.returns-clause-first
returns-clause-first c =
    let i = c.self.inside in
    let slot = c.in-Some.slot in
    let n = c.index.result.now in
    let view : List PendingCall = in_order (held_calls i.nodes.slots) in
    let found = ap (λ q. option_map (λ (e : Ends). e.first) (ends_at i.targets q)) (sym c.lane.ensures) ∙ sym c.first.ensures ∙ c.in-Some.is in
    let next = subst (λ o. IsNext (places (links Target i.nodes)) (c.args.target.0, 0) 0 o) found (c.self.invariant.by_target.first (c.args.target.0, 0)) in
    let e = target_of_first i.nodes c.args.target.0 slot n next c.index.ensures in
    let among = among_slot i.nodes.slots n.call slot (ap (λ (o : Option Node). option_map (λ (m : Node). m.call) o) c.index.ensures) in
    let rises = rising i.nodes.slots (slots_apart i.nodes (ends_at i.transactions) c.self.invariant.by_transaction) in
    let test : PendingCall → Bool = λ d. nat_eq d.target.0 c.args.target.0 in (
      n.call,
      subst (λ (v : CallList). call_numbered v.calls n.call.number.0 ≡ Some n.call) c.self.view_is (find_present view n.call rises among),
      refl,
      subst (λ (v : CallList). filter test v.calls ≡ n.call ∷ filter test (filter (λ (d : PendingCall). not (nat_eq d.number.0 n.call.number.0)) v.calls)) c.self.view_is
          (first_passing test n.call view rises among (eq-eqb n.call.target.0 c.args.target.0 e) (least_of_first i.nodes c.args.target.0 slot n next c.index.ensures)),
    )

pub returns-clause-others : goal.returns-clause-others
returns-clause-others c =
    let i = c.self.inside in
    let n = c.index.result.now in
    let test : PendingCall → Bool = λ d. not (nat_eq d.target.0 c.args.target.0) in
    filter_filter test n.call.number.0 c.args.self.now.calls
    (λ d m e. ap not (eq-eqb d.target.0 c.args.target.0 (returns-clause-only c d (contains_from_among d _ m) e)))
