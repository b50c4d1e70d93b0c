-- The best of the calls of a chain so far, and of all calls once the chain is at its end.
use Rattle.std.proofs.Common.{◌≡◌, ◌≢◌, ℕ, ℤ, ◌+◌, ◌-◌, ◌<◌, ◌≤◌, ◌^◌, ◌⊎◌, Bool, true, false, ◌&&◌, ◌||◌, List, [], ◌∷◌, Option, Some, None, refl, sym, ap, ◌∙◌, subst, inl, inr, arith}
use Rattle.std.specs.Prelude.{int_le, int_lt, nat_eq, nat_le}
use Rattle.std.specs.List.{list_all}
use Rattle.std.specs.Option.{option_map}
use Rattle.std.proofs.lemmas.Bool.{cases_lt, eq-eqb, cond-true, cond-false, cond_both, and_from, and_parts, false_from_ne_true, eqb-true, le-leb, or_left, or_right}
use Rattle.std.proofs.lemmas.Int.{ints}
use Rattle.slab.specs.Slab.{Slab, get}
use Rattle.cc_base.specs.Meaning.{Meaning}
use Rattle.cc_base.specs.declared.names.CallId.{CallId}
use Rattle.cc_queue.specs.Chains.{IsChained, IsNext, Place, call_at, link_of, links, place_of, places}
use Rattle.cc_queue.specs.Choice.{better, goes_before, rank}
use Rattle.cc_queue.specs.Kept.{held_calls, in_order}
use Rattle.cc_queue.specs.declared.call.PendingCall.{PendingCall}
use Rattle.cc_queue.specs.declared.chains.Ends.{Ends}
use Rattle.cc_queue.specs.declared.node.Chain.TheVariants.{Transaction}
use Rattle.cc_queue.specs.declared.node.Node.{Node}
use Rattle.cc_queue.proofs.Linked.{lane_cases}
use Rattle.cc_queue.proofs.Nearest.{same_place}
use Rattle.cc_queue.proofs.Ordered.{Among}
use Rattle.cc_queue.proofs.Views.{same_call, slot_of}

-- this call fits with the rank, and goes before every call whose number is below
pub record LeadsBelow (r : PendingCall → Option ℤ) (nodes : Slab Node) (from : ℕ) (number : CallId) (k : ℤ) : Type 0 where
  pub slot : ℕ
  pub call : PendingCall
  pub at : call_at nodes slot ≡ Some call
  pub named : call.number ≡ number
  pub ranked : r call ≡ Some k
  pub below : call.number.0 < from
  pub leads : (t : ℕ) (c : PendingCall) → call_at nodes t ≡ Some c → c.number.0 < from → goes_before k call.number.0 (r c) c.number.0 ≡ true

-- the best of the calls whose numbers are below
abbrev pub IsBestBelow : (PendingCall → Option ℤ) → Slab Node → ℕ → Option (CallId × ℤ) → Type 0
IsBestBelow r nodes from None = (t : ℕ) (c : PendingCall) → call_at nodes t ≡ Some c → c.number.0 < from → r c ≡ None
IsBestBelow r nodes from (Some found) = LeadsBelow r nodes from found.0 found.1

-- the loop has come to a slot of the chain, and has the best call before it
pub record BestSoFar (r : PendingCall → Option ℤ) (lane : ℕ × ℕ) (nodes : Slab Node) (at : Option ℕ) (found : Option (CallId × ℤ)) : Type 0 where
  pub from : ℕ
  pub next : IsNext (places (links Transaction nodes)) lane from at
  pub best : IsBestBelow r nodes from found

-- how far the numbers of a chain may still rise
abbrev pub left_from : Option Node → ℕ
left_from None = 0
left_from (Some node) = 2 ^ 32 - node.call.number.0

abbrev pub to_go : Slab Node → Option ℕ → ℕ
to_go nodes None = 0
to_go nodes (Some slot) = left_from (get nodes slot)

-- of two ranks
le_or_less : (f j : ℤ) (n m : ℕ) → int_le f j ≡ true → n ≤ m → goes_before f n (Some j) m ≡ true
le_or_less f j n m h l = or_right (int_lt f j) (int_le f j && nat_le n m) (and_from (int_le f j) (nat_le n m) h (le-leb n m l))

less_first : (f j q : ℤ) (n m : ℕ) (b : Bool) → int_lt f q ≡ b → int_le f j ≡ false → (b || int_le f q && nat_le n m) ≡ true → int_lt j q ≡ true
less_first f j q n m true e h g = grind (arith, ints)
less_first f j q n m false e h g =
    let parts = and_parts (int_le f q) (nat_le n m) g in
    let le = parts.0 in
    grind (arith, ints)

stays_before : (f j : ℤ) (n m i : ℕ) (o : Option ℤ) → int_le f j ≡ false → goes_before f n o m ≡ true → goes_before j i o m ≡ true
stays_before f j n m i None h g = refl
stays_before f j n m i (Some q) h g = or_left (int_lt j q) (int_le j q && nat_le i m) (less_first f j q n m (int_lt f q) refl h g)

itself_le : (j : ℤ) → int_le j j ≡ true
itself_le j = grind (arith, ints)

before_none : (k : ℤ) (n m : ℕ) (o : Option ℤ) → o ≡ None → goes_before k n o m ≡ true
before_none k n m o e = ap (λ z. goes_before k n z m) e

before_itself : (k : ℤ) (n : ℕ) (o : Option ℤ) (m : ℕ) → o ≡ Some k → n ≡ m → goes_before k n o m ≡ true
before_itself k n o m e same =
    ap (λ z. goes_before k n z m) e ∙ le_or_less k k n m (itself_le k) (omega arith)

-- a call that is not of the chain has no rank
rank_elsewhere : (m : Meaning) (target trans site : ℕ) (env : List ℤ) (c : PendingCall) → ◌≢◌ {A = ℕ × ℕ} (c.target.0, c.trans) (target, trans) → rank m target trans site env c ≡ None
rank_elsewhere m target trans site env c differs =
    cond-false (nat_eq c.target.0 target && nat_eq c.trans trans) _ _
    (false_from_ne_true (nat_eq c.target.0 target && nat_eq c.trans trans)
    (λ e.
    let parts = and_parts (nat_eq c.target.0 target) (nat_eq c.trans trans) e in
    let a = eqb-true c.target.0 target parts.0 in
    let b = eqb-true c.trans trans parts.1 in
    differs (λ i. (a i, b i))))

rank_here : (m : Meaning) (target trans site : ℕ) (env : List ℤ) (c : PendingCall) → ◌≡◌ {A = ℕ × ℕ} (c.target.0, c.trans) (target, trans) → rank m target trans site env c ≡ m.fit site env c.args
rank_here m target trans site env c same =
    cond-true (nat_eq c.target.0 target && nat_eq c.trans trans) _ _
    (and_from (nat_eq c.target.0 target) (nat_eq c.trans trans) (eq-eqb c.target.0 target (ap (λ (z : ℕ × ℕ). z.0) same)) (eq-eqb c.trans trans (ap (λ (z : ℕ × ℕ). z.1) same)))

place_of_call : (o : Option Node) (c : PendingCall) → option_map (λ (n : Node). n.call) o ≡ Some c → option_map place_of (option_map (link_of Transaction) o) ≡ Some (record { lane = (c.target.0, c.trans); number = c.number.0 })
place_of_call None c e = absurd (cc)
place_of_call (Some n) c e =
    let same : n.call ≡ c = cc in
    ap (λ (z : PendingCall). Some (record { lane = (z.target.0, z.trans); number = z.number.0 })) same

-- what is known at the slot to which the loop has come
pub record Here (lane : ℕ × ℕ) (nodes : Slab Node) (from slot : ℕ) (n : Node) : Type 0 where
  pub lane_is : ◌≡◌ {A = ℕ × ℕ} (n.call.target.0, n.call.trans) lane
  pub within : from ≤ n.call.number.0
  pub fits : n.call.number.0 < 2 ^ 32
  pub next : IsNext (places (links Transaction nodes)) lane (n.call.number.0 + 1) n.of_transaction.after
  pub only : (t : ℕ) (c : PendingCall) → call_at nodes t ≡ Some c → c.number.0 < n.call.number.0 + 1 → (c.number.0 < from) ⊎ ((c ≡ n.call) ⊎ (◌≢◌ {A = ℕ × ℕ} (c.target.0, c.trans) lane))

pub here : (lane : ℕ × ℕ) (nodes : Slab Node) (ends : ℕ × ℕ → Option Ends) (from slot : ℕ) (n : Node) → IsChained (links Transaction nodes) ends → IsNext (places (links Transaction nodes)) lane from (Some slot) → get nodes slot ≡ Some n → Here lane nodes from slot n
here lane nodes ends from slot n c h at =
    let x = link_of Transaction n in
    let linked : links Transaction nodes slot ≡ Some x = ap (λ o. option_map (link_of Transaction) o) at in
    let called : call_at nodes slot ≡ Some n.call = ap (λ o. option_map (λ (m : Node). m.call) o) at in
    let placed : places (links Transaction nodes) slot ≡ Some (place_of x) = ap (λ o. option_map place_of o) linked in
    let same = same_place (places (links Transaction nodes) slot) h.place (place_of x) h.at placed in
    let lane_is : ◌≡◌ {A = ℕ × ℕ} (n.call.target.0, n.call.trans) lane = ap (λ (z : Place). z.lane) (sym same) ∙ h.in_lane in
    let number : h.place.number ≡ n.call.number.0 = ap (λ (z : Place). z.number) same in
    record {
      lane_is = lane_is;
      within = omega (arith, h.within);
      fits = c.fits slot (place_of x) placed;
      next = subst (λ q. IsNext (places (links Transaction nodes)) q (n.call.number.0 + 1) n.of_transaction.after) lane_is (c.after slot x linked);
      only = λ t d e less. elim (cases_lt d.number.0 from) [
        | inl before ↦ inl before
        | inr after ↦
            elim (lane_cases (d.target.0, d.trans) lane) [
              | inl in_lane ↦
                  let p = place_of_call (get nodes t) d e in
                  let near = h.nearest t (record { lane = (d.target.0, d.trans); number = d.number.0 }) p in_lane after in
                  let one : t ≡ slot = c.apart t slot _ (place_of x) p placed (omega (arith, near)) in
                  inr (inl (same_call (call_at nodes slot) d n.call (ap (call_at nodes) (sym one) ∙ e) called))
              | inr differs ↦ inr (inr differs)
            ]
      ];
    }

-- one more call of the chain
pub best_more : (m : Meaning) (target trans site : ℕ) (env : List ℤ) (nodes : Slab Node) (from slot : ℕ) (n : Node) (best : Option (CallId × ℤ)) (f : Option ℤ) → Here (target, trans) nodes from slot n → get nodes slot ≡ Some n → f ≡ m.fit site env n.call.args → IsBestBelow (rank m target trans site env) nodes from best → IsBestBelow (rank m target trans site env) nodes (n.call.number.0 + 1) (better best n.call.number f)
best_more m target trans site env nodes from slot n None None h at fit b =
    let ranked = rank_here m target trans site env n.call h.lane_is ∙ sym fit in
    λ t c e less.
    elim (h.only t c e less) [
      | inl before ↦ b t c e before
      | inr (inl same) ↦ ap (rank m target trans site env) same ∙ ranked
      | inr (inr differs) ↦ rank_elsewhere m target trans site env c differs
    ]
best_more m target trans site env nodes from slot n None (Some j) h at fit b =
    let ranked : rank m target trans site env n.call ≡ Some j = rank_here m target trans site env n.call h.lane_is ∙ sym fit in
    record {
      slot = slot;
      call = n.call;
      at = ap (λ o. option_map (λ (z : Node). z.call) o) at;
      named = refl;
      ranked = ranked;
      below = omega arith;
      leads = λ t c e less. elim (h.only t c e less) [
        | inl before ↦ before_none j n.call.number.0 c.number.0 _ (b t c e before)
        | inr (inl same) ↦ before_itself j n.call.number.0 _ c.number.0 (ap (rank m target trans site env) same ∙ ranked) (ap (λ (z : PendingCall). z.number.0) (sym same))
        | inr (inr differs) ↦ before_none j n.call.number.0 c.number.0 _ (rank_elsewhere m target trans site env c differs)
      ];
    }
best_more m target trans site env nodes from slot n (Some found) None h at fit b =
    let ranked = rank_here m target trans site env n.call h.lane_is ∙ sym fit in
    record {
      slot = b.slot;
      call = b.call;
      at = b.at;
      named = b.named;
      ranked = b.ranked;
      below = omega (arith, b.below, h.within);
      leads = λ t c e less. elim (h.only t c e less) [
        | inl before ↦ b.leads t c e before
        | inr (inl same) ↦ before_none found.1 b.call.number.0 c.number.0 _ (ap (rank m target trans site env) same ∙ ranked)
        | inr (inr differs) ↦ before_none found.1 b.call.number.0 c.number.0 _ (rank_elsewhere m target trans site env c differs)
      ];
    }
best_more m target trans site env nodes from slot n (Some found) (Some j) h at fit b =
    let ranked : rank m target trans site env n.call ≡ Some j = rank_here m target trans site env n.call h.lane_is ∙ sym fit in
    let P : Option (CallId × ℤ) → Type 0 = IsBestBelow (rank m target trans site env) nodes (n.call.number.0 + 1) in
    let stays : int_le found.1 j ≡ true → LeadsBelow (rank m target trans site env) nodes (n.call.number.0 + 1) found.0 found.1 =
    λ le.
    record {
      slot = b.slot;
      call = b.call;
      at = b.at;
      named = b.named;
      ranked = b.ranked;
      below = omega (arith, b.below, h.within);
      leads = λ t c e less. elim (h.only t c e less) [
        | inl before ↦ b.leads t c e before
        | inr (inl same) ↦
            let number : c.number.0 ≡ n.call.number.0 = ap (λ (z : PendingCall). z.number.0) same in
            ap (λ o. goes_before found.1 b.call.number.0 o c.number.0) (ap (rank m target trans site env) same ∙ ranked)
            ∙ le_or_less found.1 j b.call.number.0 c.number.0 le (omega (arith, b.below, h.within))
        | inr (inr differs) ↦ before_none found.1 b.call.number.0 c.number.0 _ (rank_elsewhere m target trans site env c differs)
      ];
    }
    in
    let gives_way : int_le found.1 j ≡ false → LeadsBelow (rank m target trans site env) nodes (n.call.number.0 + 1) n.call.number j =
    λ more.
    record {
      slot = slot;
      call = n.call;
      at = ap (λ o. option_map (λ (z : Node). z.call) o) at;
      named = refl;
      ranked = ranked;
      below = omega arith;
      leads = λ t c e less. elim (h.only t c e less) [
        | inl before ↦ stays_before found.1 j b.call.number.0 c.number.0 n.call.number.0 _ more (b.leads t c e before)
        | inr (inl same) ↦ before_itself j n.call.number.0 _ c.number.0 (ap (rank m target trans site env) same ∙ ranked) (ap (λ (z : PendingCall). z.number.0) (sym same))
        | inr (inr differs) ↦ before_none j n.call.number.0 c.number.0 _ (rank_elsewhere m target trans site env c differs)
      ];
    }
    in
    cond_both (int_le found.1 j) (Some found) (Some (n.call.number, j)) P stays gives_way

-- at the end of the chain every call counts
pub all_none : (m : Meaning) (target trans site : ℕ) (env : List ℤ) (nodes : Slab Node) (from : ℕ) → IsNext (places (links Transaction nodes)) (target, trans) from None → IsBestBelow (rank m target trans site env) nodes from None → (c : PendingCall) → Among c (in_order (held_calls nodes.slots)) → rank m target trans site env c ≡ None
all_none m target trans site env nodes from next b c among =
    let at = slot_of nodes.slots c among in
    elim (cases_lt c.number.0 from) [
      | inl before ↦ b at.0 c at.1 before
      | inr after ↦ rank_elsewhere m target trans site env c (λ lane. next at.0 _ (place_of_call (get nodes at.0) c at.1) lane after)
    ]

pub leads_all : (m : Meaning) (target trans site : ℕ) (env : List ℤ) (nodes : Slab Node) (from : ℕ) (number : CallId) (k : ℤ) → IsNext (places (links Transaction nodes)) (target, trans) from None → (b : LeadsBelow (rank m target trans site env) nodes from number k) → (c : PendingCall) → Among c (in_order (held_calls nodes.slots)) → goes_before k b.call.number.0 (rank m target trans site env c) c.number.0 ≡ true
leads_all m target trans site env nodes from number k next b c among =
    let at = slot_of nodes.slots c among in
    elim (cases_lt c.number.0 from) [
      | inl before ↦ b.leads at.0 c at.1 before
      | inr after ↦
          before_none k b.call.number.0 c.number.0 _
          (rank_elsewhere m target trans site env c (λ lane. next at.0 _ (place_of_call (get nodes at.0) c at.1) lane after))
    ]

pub list_all_from_among : (test : PendingCall → Bool) (cs : List PendingCall) → ((c : PendingCall) → Among c cs → test c ≡ true) → list_all test cs ≡ true
list_all_from_among test [] h = refl
list_all_from_among test (c ∷ cs) h = and_from (test c) (list_all test cs) (h c (inl refl)) (list_all_from_among test cs (λ d m. h d (inr m)))

-- the numbers of a chain rise, so a walk along it ends
pub falls : (lane : ℕ × ℕ) (nodes : Slab Node) (ends : ℕ × ℕ → Option Ends) (from slot : ℕ) (n : Node) → Here lane nodes from slot n → IsChained (links Transaction nodes) ends → get nodes slot ≡ Some n → to_go nodes n.of_transaction.after < to_go nodes (Some slot)
falls lane nodes ends from slot n h c at =
    let now : to_go nodes (Some slot) ≡ 2 ^ 32 - n.call.number.0 = ap left_from at in
    let next : to_go nodes n.of_transaction.after < 2 ^ 32 - n.call.number.0 = later n.of_transaction.after h.next in
    subst (λ z. to_go nodes n.of_transaction.after < z) (sym now) next
  where
    at_node : (o : Option Node) (p : Place) → option_map place_of (option_map (link_of Transaction) o) ≡ Some p → n.call.number.0 + 1 ≤ p.number → left_from o < 2 ^ 32 - n.call.number.0
    at_node None p e w = absurd (cc)
    at_node (Some k) p e w =
        let same : place_of (link_of Transaction k) ≡ p = cc in
        let number : k.call.number.0 ≡ p.number = ap (λ (z : Place). z.number) same in
        omega (arith, h.fits)

    later : (o : Option ℕ) → IsNext (places (links Transaction nodes)) lane (n.call.number.0 + 1) o → to_go nodes o < 2 ^ 32 - n.call.number.0
    later None k = omega (arith, h.fits)
    later (Some s) k = at_node (get nodes s) k.place k.at k.within
