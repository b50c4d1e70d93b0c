-- The list of the calls in the slots, where one is put in or taken out.
use Rattle.std.proofs.Common.{◌≡◌, ◌≢◌, ℕ, ◌<◌, Bool, not, eqb, List, [], ◌∷◌, ◌++◌, Option, Some, None, filter, refl, sym, ap, ◌∙◌, subst, inl, inr}
use Rattle.std.specs.Option.{option_map}
use Rattle.std.proofs.lemmas.Bool.{cases_eq, eq-eqb, ne_eqb, both_ways}
use Rattle.slab.specs.Slab.{Slab, get}
use Rattle.cc_queue.specs.Calls.{AreRising}
use Rattle.cc_queue.specs.Chains.{Place, link_of, place_of, links, IsChained}
use Rattle.cc_queue.specs.Kept.{held_calls, in_order}
use Rattle.cc_queue.specs.declared.call.PendingCall.{PendingCall}
use Rattle.cc_queue.specs.declared.chains.Ends.{Ends}
use Rattle.cc_queue.specs.declared.node.Chain.TheVariants.{Transaction}
use Rattle.cc_queue.specs.declared.node.Node.{Node}
use Rattle.cc_queue.proofs.Ordered.{Among, in_slot, SlotsApart, among_held, held_among, held_distinct, among_in_order, in_order_among, in_order_rising, same_calls, append_rising, among_append, append_among, filter_rising, among_filter, filter_among}

-- the place of a slot's call
place_of_call : (o : Option Node) (c : PendingCall) → option_map (λ (n : Node). n.call) o ≡ Some c → (p : Place) × (option_map place_of (option_map (link_of Transaction) o) ≡ Some p) × (p.number ≡ c.number.0)
place_of_call None c e = absurd (cc)
place_of_call (Some n) c e =
    let same : n.call ≡ c = cc in
    (place_of (link_of Transaction n), refl, ap (λ (z : PendingCall). z.number.0) same)

pub slots_apart : (nodes : Slab Node) (ends : ℕ × ℕ → Option Ends) → IsChained (links Transaction nodes) ends → SlotsApart nodes.slots
slots_apart nodes ends chained s t c d h k e =
    let p = place_of_call (get nodes s) c h in
    let q = place_of_call (get nodes t) d k in
    chained.apart s t p.0 q.0 p.1 q.1 (p.2 ∙ e ∙ sym q.2)

pub rising : (slots : List (Option Node)) → SlotsApart slots → AreRising (in_order (held_calls slots))
rising slots apart = in_order_rising (held_calls slots) (held_distinct slots apart)

pub slot_of : (slots : List (Option Node)) (c : PendingCall) → Among c (in_order (held_calls slots)) → (s : ℕ) × (in_slot slots s ≡ Some c)
slot_of slots c m = among_held c slots (among_in_order c (held_calls slots) m)

pub among_slot : (slots : List (Option Node)) (c : PendingCall) (s : ℕ) → in_slot slots s ≡ Some c → Among c (in_order (held_calls slots))
among_slot slots c s h = in_order_among c (held_calls slots) (held_among c slots s h)

pub same_call : (o : Option PendingCall) (c d : PendingCall) → o ≡ Some c → o ≡ Some d → c ≡ d
same_call o c d h k = cc

pub view_same : (old new : List (Option Node)) → SlotsApart old → SlotsApart new → ((t : ℕ) → in_slot new t ≡ in_slot old t) → in_order (held_calls new) ≡ in_order (held_calls old)
view_same old new apart apart' same =
    same_calls _ _ (rising new apart') (rising old apart)
    (λ c m. let at = slot_of new c m in among_slot old c at.0 (sym (same at.0) ∙ at.1))
    (λ c m. let at = slot_of old c m in among_slot new c at.0 (same at.0 ∙ at.1))

pub view_added : (old new : List (Option Node)) (slot : ℕ) (c : PendingCall) → SlotsApart old → SlotsApart new → in_slot old slot ≡ None → in_slot new slot ≡ Some c → ((t : ℕ) → t ≢ slot → in_slot new t ≡ in_slot old t) → ((d : PendingCall) → Among d (in_order (held_calls old)) → d.number.0 < c.number.0) → in_order (held_calls new) ≡ in_order (held_calls old) ++ c ∷ []
view_added old new slot c apart apart' vacant here others above =
    same_calls _ _ (rising new apart') (append_rising c _ (rising old apart) above)
    (λ d m.
    let at = slot_of new d m in
    append_among d c _
    (elim (cases_eq at.0 slot) [
      | inl e ↦ inr (same_call (in_slot new slot) c d here (ap (in_slot new) (sym e) ∙ at.1))
      | inr differs ↦ inl (among_slot old d at.0 (sym (others at.0 differs) ∙ at.1))
    ]))
    (λ d m.
    elim (among_append d c _ m) [
      | inl n ↦
          let at = slot_of old d n in
          elim (cases_eq at.0 slot) [
            | inl e ↦ let none : in_slot old at.0 ≡ None = ap (in_slot old) e ∙ vacant in absurd (cc)
            | inr differs ↦ among_slot new d at.0 (others at.0 differs ∙ at.1)
          ]
      | inr e ↦ subst (λ z. Among z (in_order (held_calls new))) e (among_slot new c slot here)
    ])

pub view_removed : (old new : List (Option Node)) (slot : ℕ) (c : PendingCall) → SlotsApart old → SlotsApart new → in_slot old slot ≡ Some c → in_slot new slot ≡ None → ((t : ℕ) → t ≢ slot → in_slot new t ≡ in_slot old t) → in_order (held_calls new) ≡ filter (λ (d : PendingCall). not (eqb d.number.0 c.number.0)) (in_order (held_calls old))
view_removed old new slot c apart apart' here vacant others =
    let test : PendingCall → Bool = λ d. not (eqb d.number.0 c.number.0) in
    same_calls _ _ (rising new apart') (filter_rising test _ (rising old apart))
    (λ d m.
    let at = slot_of new d m in
    elim (cases_eq at.0 slot) [
      | inl e ↦ let none : in_slot new at.0 ≡ None = ap (in_slot new) e ∙ vacant in absurd (cc)
      | inr differs ↦
          let was = sym (others at.0 differs) ∙ at.1 in
          filter_among test d _ (among_slot old d at.0 was)
          (ap not (ne_eqb d.number.0 c.number.0 (λ n. differs (apart at.0 slot d c was here n))))
    ])
    (λ d m.
    let n = among_filter test d _ m in
    let at = slot_of old d n.0 in
    elim (cases_eq at.0 slot) [
      | inl e ↦
          let same = same_call (in_slot old slot) c d here (ap (in_slot old) (sym e) ∙ at.1) in
          absurd (both_ways (test d) (ap not (eq-eqb d.number.0 c.number.0 (ap (λ (z : PendingCall). z.number.0) (sym same)))) n.1)
      | inr differs ↦ among_slot new d at.0 (others at.0 differs ∙ at.1)
    ])
