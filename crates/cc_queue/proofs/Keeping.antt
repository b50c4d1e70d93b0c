-- The calls stay kept: where room is made, where one is put in, and where one is taken out.
use Rattle.std.proofs.Common.{◌≡◌, ◌≢◌, ℕ, ◌<◌, ◌≤◌, ◌^◌, ◌⊎◌, true, false, cond, eqb, List, [], ◌∷◌, ◌++◌, get_or, Option, Some, None, is_some, count_by, filter, not, nat_eq, All, refl, sym, ap, ◌∙◌, subst, inl, inr, arith}
use Rattle.std.specs.Option.{option_map}
use Rattle.std.proofs.lemmas.Bool.{cases_eq, eq-eqb, eqb-true, ne_eqb, cond-true, cond-false}
use Rattle.slab.specs.Slab.{Slab, get, slab_len, HasRoomFor, Updates}
use Rattle.cc_queue.specs.Chains.{Link, Place, link_of, place_of, places, links, but, call_at, IsNext, IsPrevious, IsChained}
use Rattle.cc_queue.specs.Calls.{AreRising, CallList, call_numbered}
use Rattle.cc_queue.specs.Kept.{held_calls, in_order, AreKept}
use Rattle.cc_queue.specs.Room.{HasMore}
use Rattle.cc_queue.specs.declared.call.PendingCall.{PendingCall}
use Rattle.cc_queue.specs.declared.chains.Ends.{Ends}
use Rattle.cc_queue.specs.declared.node.Chain.{Chain}
use Rattle.cc_queue.specs.declared.node.Chain.TheVariants.{Transaction, Target}
use Rattle.cc_queue.specs.declared.node.Node.{Node}
use Rattle.cc_queue.proofs.Linked.{but_here, but_other}
use Rattle.cc_queue.proofs.Ordered.{Among, among_all, below_among}
use Rattle.cc_queue.proofs.Views.{same_call, among_slot, slot_of, slots_apart, view_added, view_removed}

same_slot : (o : Option ℕ) (s t : ℕ) → o ≡ Some s → o ≡ Some t → s ≡ t
same_slot o s t h k = cc

-- chains whose links and ends are the same are whole alike
pub chained_along : (A B : ℕ → Option Link) (E F : ℕ × ℕ → Option Ends) → ((t : ℕ) → A t ≡ B t) → ((q : ℕ × ℕ) → E q ≡ F q) → IsChained A E → IsChained B F
chained_along A B E F same ends c =
    let links : A ≡ B = λ i t. same t i in
    let moved : E ≡ F = λ i q. ends q i in
    subst (λ L. IsChained L F) links (subst (λ e. IsChained A e) moved c)

pub chained_links : (A B : ℕ → Option Link) (E : ℕ × ℕ → Option Ends) → ((t : ℕ) → A t ≡ B t) → IsChained A E → IsChained B E
chained_links A B E same c = chained_along A B E E same (λ q. refl) c

-- no calls
empty_chained : (held : ℕ → Option Link) (ends : ℕ × ℕ → Option Ends) → ((t : ℕ) → held t ≡ None) → ((q : ℕ × ℕ) → ends q ≡ None) → IsChained held ends
empty_chained held ends none gone =
    let no_place : (t : ℕ) → places held t ≡ None = λ t. ap (λ o. option_map place_of o) (none t) in
    record {
      apart = λ s t p q h k e. let n = no_place s in absurd (cc);
      fits = λ s p h. let n = no_place s in absurd (cc);
      after = λ s x h. let n = none s in absurd (cc);
      before = λ s x h. let n = none s in absurd (cc);
      first = λ lane.
          subst (λ o. IsNext (places held) lane 0 (option_map (λ (e : Ends). e.first) o)) (sym (gone lane))
          (λ t p h l w. let n = no_place t in cc);
      last = λ lane.
          subst (λ o. IsPrevious (places held) lane (2 ^ 32) (option_map (λ (e : Ends). e.last) o)) (sym (gone lane))
          (λ t p h l w. let n = no_place t in cc);
    }

pub kept_empty : (nodes : Slab Node) (slots : ℕ → Option ℕ) (transactions targets : ℕ × ℕ → Option Ends) (a b d : ℕ) → nodes.slots ≡ [] → ((n : ℕ) → slots n ≡ None) → ((q : ℕ × ℕ) → transactions q ≡ None) → ((q : ℕ × ℕ) → targets q ≡ None) → AreKept nodes slots transactions targets 0 a b d
kept_empty nodes slots transactions targets a b d none no_slot no_ends no_targets =
    let nothing : (t : ℕ) → get nodes t ≡ None = λ t. ap (λ (xs : List (Option Node)). get_or xs t None) none in
    let len : slab_len nodes ≡ 0 = ap (λ (xs : List (Option Node)). count_by is_some xs) none in
    record {
      numbered = λ s c h. let n = ap (λ o. option_map (λ (n : Node). n.call) o) (nothing s) in absurd (cc);
      held = λ n s h. let e = no_slot n in absurd (cc);
      by_transaction = empty_chained (links Transaction nodes) transactions (λ t. ap (λ o. option_map (link_of Transaction) o) (nothing t)) no_ends;
      by_target = empty_chained (links Target nodes) targets (λ t. ap (λ o. option_map (link_of Target) o) (nothing t)) no_targets;
      room = omega (arith, len);
      slots_room = omega arith;
      transactions_room = omega arith;
      targets_room = omega arith;
    }

-- where room is made
pub kept_with_room : (n0 n1 : Slab Node) (s0 s1 : ℕ → Option ℕ) (e0 e1 f0 f1 : ℕ × ℕ → Option Ends) (spare a b d spare' a' b' d' : ℕ) → HasMore n0 n1 → ((n : ℕ) → s1 n ≡ s0 n) → ((q : ℕ × ℕ) → e1 q ≡ e0 q) → ((q : ℕ × ℕ) → f1 q ≡ f0 q) → AreKept n0 s0 e0 f0 spare a b d → HasRoomFor n1 spare' → spare' ≤ a' → spare' ≤ b' → spare' ≤ d' → AreKept n1 s1 e1 f1 spare' a' b' d'
kept_with_room n0 n1 s0 s1 e0 e1 f0 f1 spare a b d spare' a' b' d' more s e f k room ra rb rd =
    let nodes : (t : ℕ) → get n1 t ≡ get n0 t = λ t. ap (λ (xs : List (Option Node)). get_or xs t None) more.slots in
    let calls : (t : ℕ) → call_at n1 t ≡ call_at n0 t = λ t. ap (λ o. option_map (λ (n : Node). n.call) o) (nodes t) in
    record {
      numbered = λ t c h. s c.number.0 ∙ k.numbered t c (sym (calls t) ∙ h);
      held = λ n t h. let was = k.held n t (sym (s n) ∙ h) in (was.0, calls t ∙ was.1, was.2);
      by_transaction = chained_along (links Transaction n0) (links Transaction n1) e0 e1 (λ t. ap (λ o. option_map (link_of Transaction) o) (sym (nodes t))) (λ q. sym (e q)) k.by_transaction;
      by_target = chained_along (links Target n0) (links Target n1) f0 f1 (λ t. ap (λ o. option_map (link_of Target) o) (sym (nodes t))) (λ q. sym (f q)) k.by_target;
      room = room;
      slots_room = ra;
      transactions_room = rb;
      targets_room = rd;
    }

pub room_stays : (n0 n1 : Slab Node) (spare : ℕ) → HasMore n0 n1 → HasRoomFor n0 spare → HasRoomFor n1 spare
room_stays n0 n1 spare more room =
    let len : slab_len n1 ≡ slab_len n0 = ap (λ (xs : List (Option Node)). count_by is_some xs) more.slots in
    omega (arith, len, more.capacity, room)

pub same_view : (n0 n1 : Slab Node) → HasMore n0 n1 → in_order (held_calls n1.slots) ≡ in_order (held_calls n0.slots)
same_view n0 n1 more = ap (λ (xs : List (Option Node)). in_order (held_calls xs)) more.slots

-- where a call is put in
pub record Placed (old new : Slab Node) (slot : ℕ) (node : Node) : Type 0 where
  pub vacant : get old slot ≡ None
  pub at : get new slot ≡ Some node
  pub others : (t : ℕ) → t ≢ slot → get new t ≡ get old t

pub placed_from : (old new : Slab Node) (slot : ℕ) (node : Node) → get old slot ≡ None → Updates old new slot (Some node) → Placed old new slot node
placed_from old new slot node vacant u = record { vacant = vacant; at = u.changed; others = u.others }

pub but_placed : (chain : Chain) (n0 n1 n2 : Slab Node) (slot : ℕ) (node : Node) → Placed n0 n1 slot node → ((t : ℕ) → links chain n2 t ≡ links chain n1 t) → (t : ℕ) → but slot (links chain n2) t ≡ links chain n0 t
but_placed chain n0 n1 n2 slot node p same t =
    elim (cases_eq t slot) [
      | inl e ↦
          ap (but slot (links chain n2)) e ∙ but_here slot (links chain n2)
          ∙ sym (ap (links chain n0) e ∙ ap (λ o. option_map (link_of chain) o) p.vacant)
      | inr differs ↦ but_other slot (links chain n2) t differs ∙ same t ∙ ap (λ o. option_map (link_of chain) o) (p.others t differs)
    ]

call_of_link : (chain : Chain) (o : Option Node) (y : Link) → option_map (link_of chain) o ≡ Some y → (c : PendingCall) × (option_map (λ (n : Node). n.call) o ≡ Some c) × (c.number.0 ≡ y.number)
call_of_link chain None y e = absurd (cc)
call_of_link Transaction (Some n) y e = let same : link_of Transaction n ≡ y = cc in (n.call, refl, ap (λ (z : Link). z.number) same)
call_of_link Target (Some n) y e = let same : link_of Target n ≡ y = cc in (n.call, refl, ap (λ (z : Link). z.number) same)

-- the new number is above those of all links
pub above_links : (chain : Chain) (n0 : Slab Node) (number : ℕ) (A : ℕ → Option Link) → ((t : ℕ) → A t ≡ links chain n0 t) → ((d : PendingCall) → Among d (in_order (held_calls n0.slots)) → d.number.0 < number) → (t : ℕ) (y : Link) → A t ≡ Some y → y.number < number
above_links chain n0 number A same all t y h =
    let c = call_of_link chain (get n0 t) y (sym (same t) ∙ h) in
    subst (λ n. n < number) c.2 (all c.0 (among_slot n0.slots c.0 t c.1))

call_placed : (n0 n1 : Slab Node) (slot : ℕ) (node : Node) → Placed n0 n1 slot node → (t : ℕ) (c : PendingCall) → call_at n1 t ≡ Some c → ((t ≡ slot) × (c ≡ node.call)) ⊎ ((t ≢ slot) × (call_at n0 t ≡ Some c))
call_placed n0 n1 slot node p t c h =
    elim (cases_eq t slot) [
      | inl e ↦
          let here : call_at n1 t ≡ Some node.call = ap (call_at n1) e ∙ ap (λ o. option_map (λ (n : Node). n.call) o) p.at in
          inl (e, same_call (call_at n1 t) c node.call h here)
      | inr differs ↦ inr (differs, ap (λ o. option_map (λ (n : Node). n.call) o) (sym (p.others t differs)) ∙ h)
    ]

pub kept_added : (n0 n1 n3 : Slab Node) (slot : ℕ) (node : Node) (s0 s1 : ℕ → Option ℕ) (e0 e1 f0 f1 : ℕ × ℕ → Option Ends) (spare a b d spare' a' b' d' : ℕ) → Placed n0 n1 slot node → ((t : ℕ) → call_at n3 t ≡ call_at n1 t) → AreKept n0 s0 e0 f0 spare a b d → ((q : ℕ) → s1 q ≡ cond (eqb node.call.number.0 q) (Some slot) (s0 q)) → ((c : PendingCall) → Among c (in_order (held_calls n0.slots)) → c.number.0 < node.call.number.0) → IsChained (links Transaction n3) e1 → IsChained (links Target n3) f1 → HasRoomFor n3 spare' → spare' ≤ a' → spare' ≤ b' → spare' ≤ d' → AreKept n3 s1 e1 f1 spare' a' b' d'
kept_added n0 n1 n3 slot node s0 s1 e0 e1 f0 f1 spare a b d spare' a' b' d' p same k s all ct cp room ra rb rd =
    let number = node.call.number.0 in
    record {
      numbered = λ t c h. elim (call_placed n0 n1 slot node p t c (sym (same t) ∙ h)) [
        | inl here ↦
            s c.number.0 ∙ cond-true (eqb number c.number.0) _ _ (eq-eqb number c.number.0 (ap (λ (z : PendingCall). z.number.0) (sym here.1))) ∙ ap (λ z. Some z) (sym here.0)
        | inr was ↦
            let less : c.number.0 < number = all c (among_slot n0.slots c t was.1) in
            s c.number.0 ∙ cond-false (eqb number c.number.0) _ _ (ne_eqb number c.number.0 (λ e. omega arith)) ∙ k.numbered t c was.1
      ];
      held = λ n t h. elim (cases_eq number n) [
        | inl e ↦
            let found : s1 n ≡ Some slot = s n ∙ cond-true (eqb number n) _ _ (eq-eqb number n e) in
            let here : slot ≡ t = cc in
            (node.call, same t ∙ ap (call_at n1) (sym here) ∙ ap (λ o. option_map (λ (m : Node). m.call) o) p.at, e)
        | inr differs ↦
            let was = k.held n t (sym (s n ∙ cond-false (eqb number n) _ _ (ne_eqb number n differs)) ∙ h) in
            elim (cases_eq t slot) [
              | inl e ↦
                  let none : call_at n0 t ≡ None = ap (call_at n0) e ∙ ap (λ o. option_map (λ (m : Node). m.call) o) p.vacant in
                  let some = was.1 in
                  absurd (cc)
              | inr other ↦ (was.0, same t ∙ ap (λ o. option_map (λ (m : Node). m.call) o) (p.others t other) ∙ was.1, was.2)
            ]
      ];
      by_transaction = ct;
      by_target = cp;
      room = room;
      slots_room = ra;
      transactions_room = rb;
      targets_room = rd;
    }

pub view_placed : (n0 n1 n3 : Slab Node) (slot : ℕ) (node : Node) (e0 e1 : ℕ × ℕ → Option Ends) → Placed n0 n1 slot node → ((t : ℕ) → call_at n3 t ≡ call_at n1 t) → IsChained (links Transaction n0) e0 → IsChained (links Transaction n3) e1 → ((c : PendingCall) → Among c (in_order (held_calls n0.slots)) → c.number.0 < node.call.number.0) → in_order (held_calls n3.slots) ≡ in_order (held_calls n0.slots) ++ node.call ∷ []
view_placed n0 n1 n3 slot node e0 e1 p same c0 c3 all =
    view_added n0.slots n3.slots slot node.call (slots_apart n0 e0 c0) (slots_apart n3 e1 c3)
    (ap (λ o. option_map (λ (n : Node). n.call) o) p.vacant)
    (same slot ∙ ap (λ o. option_map (λ (n : Node). n.call) o) p.at)
    (λ t differs. same t ∙ ap (λ o. option_map (λ (n : Node). n.call) o) (p.others t differs))
    all

-- where a call is taken out
pub kept_removed : (n0 n2 n3 : Slab Node) (slot number : ℕ) (s0 s1 : ℕ → Option ℕ) (e0 e1 f0 f1 : ℕ × ℕ → Option Ends) (spare a b d a' b' d' : ℕ) → ((t : ℕ) → call_at n2 t ≡ call_at n0 t) → Updates n2 n3 slot None → AreKept n0 s0 e0 f0 spare a b d → s0 number ≡ Some slot → ((q : ℕ) → s1 q ≡ cond (eqb number q) None (s0 q)) → IsChained (links Transaction n3) e1 → IsChained (links Target n3) f1 → HasRoomFor n3 spare → a ≤ a' → b ≤ b' → d ≤ d' → AreKept n3 s1 e1 f1 spare a' b' d'
kept_removed n0 n2 n3 slot number s0 s1 e0 e1 f0 f1 spare a b d a' b' d' same u k there s ct cp room ra rb rd =
    let call_of : Option Node → Option PendingCall = λ o. option_map (λ (n : Node). n.call) o in
    let asked = k.held number slot there in
    record {
      numbered = λ t c h. elim (cases_eq t slot) [
        | inl e ↦ let none : call_at n3 t ≡ None = ap (call_at n3) e ∙ ap call_of u.changed in absurd (cc)
        | inr differs ↦
            let was = sym (ap call_of (u.others t differs) ∙ same t) ∙ h in
            let found = k.numbered t c was in
            let other : number ≢ c.number.0 = λ e. differs (same_slot (s0 number) t slot (ap s0 e ∙ found) there) in
            s c.number.0 ∙ cond-false (eqb number c.number.0) _ _ (ne_eqb number c.number.0 other) ∙ found
      ];
      held = λ n t h. elim (cases_eq number n) [
        | inl e ↦ let none : s1 n ≡ None = s n ∙ cond-true (eqb number n) _ _ (eq-eqb number n e) in absurd (cc)
        | inr differs ↦
            let was = k.held n t (sym (s n ∙ cond-false (eqb number n) _ _ (ne_eqb number n differs)) ∙ h) in
            elim (cases_eq t slot) [
              | inl e ↦
                  let same_one = same_call (call_at n0 slot) asked.0 was.0 asked.1 (ap (call_at n0) (sym e) ∙ was.1) in
                  absurd (differs (sym asked.2 ∙ ap (λ (z : PendingCall). z.number.0) same_one ∙ was.2))
              | inr other ↦ (was.0, ap call_of (u.others t other) ∙ same t ∙ was.1, was.2)
            ]
      ];
      by_transaction = ct;
      by_target = cp;
      room = room;
      slots_room = omega (arith, k.slots_room, ra);
      transactions_room = omega (arith, k.transactions_room, rb);
      targets_room = omega (arith, k.targets_room, rd);
    }

-- the links that are left once a node was taken out of its chains and then of the slab
pub links_left : (chain : Chain) (n1 n2 n3 : Slab Node) (slot : ℕ) → ((t : ℕ) → links chain n2 t ≡ links chain n1 t) → Updates n2 n3 slot None → (t : ℕ) → but slot (links chain n1) t ≡ links chain n3 t
links_left chain n1 n2 n3 slot same u t =
    elim (cases_eq t slot) [
      | inl e ↦
          ap (but slot (links chain n1)) e ∙ but_here slot (links chain n1)
          ∙ sym (ap (links chain n3) e ∙ ap (λ o. option_map (link_of chain) o) u.changed)
      | inr differs ↦ but_other slot (links chain n1) t differs ∙ sym (same t) ∙ sym (ap (λ o. option_map (link_of chain) o) (u.others t differs))
    ]

pub view_left : (n0 n2 n3 : Slab Node) (slot : ℕ) (c : PendingCall) (e0 e1 : ℕ × ℕ → Option Ends) → ((t : ℕ) → call_at n2 t ≡ call_at n0 t) → Updates n2 n3 slot None → call_at n0 slot ≡ Some c → IsChained (links Transaction n0) e0 → IsChained (links Transaction n3) e1 → in_order (held_calls n3.slots) ≡ filter (λ (d : PendingCall). not (eqb d.number.0 c.number.0)) (in_order (held_calls n0.slots))
view_left n0 n2 n3 slot c e0 e1 same u here c0 c3 =
    view_removed n0.slots n3.slots slot c (slots_apart n0 e0 c0) (slots_apart n3 e1 c3) here
    (ap (λ o. option_map (λ (n : Node). n.call) o) u.changed)
    (λ t differs. ap (λ o. option_map (λ (n : Node). n.call) o) (u.others t differs) ∙ same t)

-- the number of a call to come, by the list that callers see
pub all_below : (view now : CallList) (number : ℕ) → view ≡ now → All (λ (c : PendingCall). c.number.0 < number) now.calls → (d : PendingCall) → Among d view.calls → d.number.0 < number
all_below view now number e all = among_all (λ (c : PendingCall). c.number.0 < number) view.calls (subst (λ (v : CallList). All (λ (c : PendingCall). c.number.0 < number) v.calls) (sym e) all)

-- a list without calls of this number
pub find_absent : (cs : List PendingCall) (number : ℕ) → ((d : PendingCall) → Among d cs → d.number.0 ≢ number) → call_numbered cs number ≡ None
find_absent [] number h = refl
find_absent (c ∷ cs) number h =
    cond-false (eqb c.number.0 number) _ _ (ne_eqb c.number.0 number (h c (inl refl))) ∙ find_absent cs number (λ d m. h d (inr m))

pub filter_absent : (cs : List PendingCall) (number : ℕ) → ((d : PendingCall) → Among d cs → d.number.0 ≢ number) → filter (λ (d : PendingCall). not (eqb d.number.0 number)) cs ≡ cs
filter_absent [] number h = refl
filter_absent (c ∷ cs) number h =
    cond-true (not (eqb c.number.0 number)) _ _ (ap not (ne_eqb c.number.0 number (h c (inl refl)))) ∙ ap (λ z. c ∷ z) (filter_absent cs number (λ d m. h d (inr m)))

pub find_present : (cs : List PendingCall) (c : PendingCall) → AreRising cs → Among c cs → call_numbered cs c.number.0 ≡ Some c
find_present [] c r m = absurd m
find_present (d ∷ ds) c r (inl same) =
    cond-true (eqb d.number.0 c.number.0) _ _ (eq-eqb d.number.0 c.number.0 (ap (λ (z : PendingCall). z.number.0) same)) ∙ ap (λ z. Some z) same
find_present (d ∷ ds) c r (inr m) =
    let less : d.number.0 < c.number.0 = below_among d c ds r.0 m in
    cond-false (eqb d.number.0 c.number.0) _ _ (ne_eqb d.number.0 c.number.0 (λ e. omega arith)) ∙ find_present ds c r.1 m

-- a number that leads to no slot is that of no call
pub absent_number : (nodes : Slab Node) (slots : ℕ → Option ℕ) (e f : ℕ × ℕ → Option Ends) (spare a b d number : ℕ) → AreKept nodes slots e f spare a b d → slots number ≡ None → (c : PendingCall) → Among c (in_order (held_calls nodes.slots)) → c.number.0 ≢ number
absent_number nodes slots e f spare a b d number k none c m same =
    let at = slot_of nodes.slots c m in
    let found = k.numbered at.0 c at.1 in
    let there : slots number ≡ Some at.0 = ap slots (sym same) ∙ found in
    cc

-- the calls of a target
target_place : (o : Option Node) (c : PendingCall) → option_map (λ (n : Node). n.call) o ≡ Some c → (p : Place) × (option_map place_of (option_map (link_of Target) o) ≡ Some p) × (p.lane ≡ (c.target.0, 0))
target_place None c e = absurd (cc)
target_place (Some n) c e =
    let same : n.call ≡ c = cc in
    (place_of (link_of Target n), refl, ap (λ (z : PendingCall). (z.target.0, 0)) same)

pub no_call_at : (nodes : Slab Node) (target : ℕ) → IsNext (places (links Target nodes)) (target, 0) 0 None → (d : PendingCall) → Among d (in_order (held_calls nodes.slots)) → nat_eq d.target.0 target ≡ false
no_call_at nodes target none d m =
    let at = slot_of nodes.slots d m in
    let p = target_place (get nodes at.0) d at.1 in
    ne_eqb d.target.0 target (λ e. none at.0 p.0 p.1 (p.2 ∙ ap (λ n. (n, 0)) e) (omega arith))

pub target_of_first : (nodes : Slab Node) (target slot : ℕ) (n : Node) → IsNext (places (links Target nodes)) (target, 0) 0 (Some slot) → get nodes slot ≡ Some n → n.call.target.0 ≡ target
target_of_first nodes target slot n next at =
    let p = target_place (get nodes slot) n.call (ap (λ o. option_map (λ (m : Node). m.call) o) at) in
    let same : p.0 ≡ next.place = cc (p.1, next.at) in
    ap (λ (z : ℕ × ℕ). z.0) (sym p.2 ∙ ap (λ (z : Place). z.lane) same ∙ next.in_lane)

-- a slot's call is the only one of its number
pub only_call : (nodes : Slab Node) (ends : ℕ × ℕ → Option Ends) (slot : ℕ) (n : Node) → IsChained (links Transaction nodes) ends → get nodes slot ≡ Some n → (d : PendingCall) → Among d (in_order (held_calls nodes.slots)) → d.number.0 ≡ n.call.number.0 → d ≡ n.call
only_call nodes ends slot n chained at d m e =
    let found = slot_of nodes.slots d m in
    let called : call_at nodes slot ≡ Some n.call = ap (λ o. option_map (λ (z : Node). z.call) o) at in
    let one = slots_apart nodes ends chained found.0 slot d n.call found.1 called e in
    same_call (call_at nodes slot) d n.call (ap (call_at nodes) (sym one) ∙ found.1) called

-- and none of the target's has a smaller number
pub least_of_first : (nodes : Slab Node) (target slot : ℕ) (n : Node) → IsNext (places (links Target nodes)) (target, 0) 0 (Some slot) → get nodes slot ≡ Some n → (d : PendingCall) → Among d (in_order (held_calls nodes.slots)) → nat_eq d.target.0 target ≡ true → n.call.number.0 ≤ d.number.0
least_of_first nodes target slot n next at d m e =
    let p = target_place (get nodes slot) n.call (ap (λ o. option_map (λ (m : Node). m.call) o) at) in
    let same : p.0 ≡ next.place = cc (p.1, next.at) in
    let found = slot_of nodes.slots d m in
    let q = target_place (get nodes found.0) d found.1 in
    let less = next.nearest found.0 q.0 q.1 (q.2 ∙ ap (λ k. (k, 0)) (eqb-true d.target.0 target e)) (omega arith) in
    let here = target_number (get nodes slot) n.call p.0 (ap (λ o. option_map (λ (m : Node). m.call) o) at) p.1 in
    let there = target_number (get nodes found.0) d q.0 found.1 q.1 in
    let one = ap (λ (z : Place). z.number) same in
    omega (arith, less, here, there, one)
  where
    target_number : (o : Option Node) (c : PendingCall) (p : Place) → option_map (λ (n : Node). n.call) o ≡ Some c → option_map place_of (option_map (link_of Target) o) ≡ Some p → p.number ≡ c.number.0
    target_number None c p e h = absurd (cc)
    target_number (Some n) c p e h =
        let same : n.call ≡ c = cc in
        let placed : place_of (link_of Target n) ≡ p = cc in
        ap (λ (z : Place). z.number) (sym placed) ∙ ap (λ (z : PendingCall). z.number.0) same
