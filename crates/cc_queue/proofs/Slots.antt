-- What becomes of the nodes in a slab where one is written, put in or taken out.
use Rattle.std.proofs.Common.{◌≡◌, ◌≢◌, ℕ, ◌<◌, ◌^◌, Bool, true, false, cond, eqb, Option, Some, None, is_some, get_or, refl, sym, ap, ◌∙◌, subst, inl, inr, arith, rules}
use Rattle.std.specs.Prelude.{IsOk, IsSome, OnOk, Result, Ok, Err}
use Rattle.std.specs.Option.{option_map}
use Rattle.std.proofs.lemmas.Bool.{cases_eq, eq-eqb, ne_eqb, cond-true, cond-false}
use Rattle.std.proofs.lemmas.List.Sums.{sum_by-set}
use Rattle.slab.specs.Slab.{Slab, get, slab_len, with_value, ContainsKey}
use Rattle.slab.proofs.SlabLemmas.{ContainsKey-within, Updates-with_value}
use Rattle.cc_queue.specs.Chains.{Link, link_of, place_of, places, links, but, other_chain, is_lane, is_slot, has_last, with_before, with_after, Standing, IsWritten, IsChained, IsPrevious}
use Rattle.cc_queue.specs.declared.chains.Ends.{Ends}
use Rattle.cc_queue.specs.declared.node.Chain.{Chain}
use Rattle.cc_queue.specs.declared.node.Node.{Node}
use Rattle.cc_queue.proofs.Linked.{lane_itself, lane_differs, slot_named, slot_not_named, Links, linked_chained, but_here}

-- what is said of an `Ok` that came
pub on_ok : {T E P : Type 0} (r : Result T E) → IsOk r → OnOk r P → P
on_ok (Ok x) i p = p
on_ok (Err e) i p = absurd (cc)

contains : (s : Slab Node) (slot : ℕ) (n : Node) → get s slot ≡ Some n → ContainsKey s slot
contains s slot n at = subst (λ o. IsSome o) (sym at) (search rules)

-- what is read of a slot once its node is written
read_written : {X : Type 0} (f : Node → X) (s : Slab Node) (slot : ℕ) (n m : Node) → get s slot ≡ Some n → f m ≡ f n → (t : ℕ) → option_map f (get (with_value s slot m) t) ≡ option_map f (get s t)
read_written f s slot n m at same t =
    let u = Updates-with_value s slot m (contains s slot n at) in
    elim (cases_eq t slot) [
      | inl e ↦ ap (λ z. option_map f (get (with_value s slot m) z)) e ∙ ap (λ o. option_map f o) u.changed ∙ ap (λ z. Some z) same ∙ ap (λ o. option_map f o) (sym at) ∙ ap (λ z. option_map f (get s z)) (sym e)
      | inr differs ↦ ap (λ o. option_map f o) (u.others t differs)
    ]

changed_written : {X : Type 0} (f : Node → X) (change : X → X) (s : Slab Node) (slot : ℕ) (n m : Node) → get s slot ≡ Some n → f m ≡ change (f n) → (t : ℕ) → option_map f (get (with_value s slot m) t) ≡ cond (eqb t slot) (option_map change (option_map f (get s t))) (option_map f (get s t))
changed_written f change s slot n m at same t =
    let u = Updates-with_value s slot m (contains s slot n at) in
    elim (cases_eq t slot) [
      | inl e ↦
          ap (λ z. option_map f (get (with_value s slot m) z)) e ∙ ap (λ o. option_map f o) u.changed ∙ ap (λ z. Some z) same
          ∙ ap (λ o. option_map change (option_map f o)) (sym at) ∙ ap (λ z. option_map change (option_map f (get s z))) (sym e)
          ∙ sym (cond-true (eqb t slot) _ _ (eq-eqb t slot e))
      | inr differs ↦ ap (λ o. option_map f o) (u.others t differs) ∙ sym (cond-false (eqb t slot) _ _ (ne_eqb t slot differs))
    ]

count_written : (s : Slab Node) (slot : ℕ) (n m : Node) → get s slot ≡ Some n → slab_len (with_value s slot m) ≡ slab_len s
count_written s slot n m at =
    let within = ContainsKey-within s slot (contains s slot n at) in
    let step = sum_by-set (λ (o : Option Node). cond (is_some o) 1 0) s.slots slot (Some m) None within in
    let one : ◌≡◌ {A = ℕ} (cond (is_some (get_or s.slots slot None)) 1 0) 1 = ap (λ (o : Option Node). cond (is_some o) 1 0) at in
    omega (arith, step, one)

pub written : (chain : Chain) (slot : ℕ) (change : Link → Link) (old : Slab Node) (n m : Node) → get old slot ≡ Some n → link_of chain m ≡ change (link_of chain n) → link_of (other_chain chain) m ≡ link_of (other_chain chain) n → m.call ≡ n.call → IsWritten chain slot change old (with_value old slot m)
written chain slot change old n m at link other call =
    record {
      written = changed_written (link_of chain) change old slot n m at link;
      standing = record {
        calls = read_written (λ (x : Node). x.call) old slot n m at call;
        other = read_written (link_of (other_chain chain)) old slot n m at other;
        count = count_written old slot n m at;
        capacity = refl;
      };
    }

pub standing_same : (chain : Chain) (s : Slab Node) → Standing chain s s
standing_same chain s = record { calls = λ t. refl; other = λ t. refl; count = refl; capacity = refl }

pub standing_then : (chain : Chain) (a b c : Slab Node) → Standing chain a b → Standing chain b c → Standing chain a c
standing_then chain a b c h k =
    record {
      calls = λ t. k.calls t ∙ h.calls t;
      other = λ t. k.other t ∙ h.other t;
      count = k.count ∙ h.count;
      capacity = k.capacity ∙ h.capacity;
    }

nothing_written : (b : Bool) (change : Link → Link) (o : Option Link) → o ≡ None → o ≡ cond b (option_map change o) o
nothing_written true change None e = refl
nothing_written true change (Some x) e = absurd (cc)
nothing_written false change o e = refl

-- where the slot has no node, nothing is written
pub not_written : (chain : Chain) (slot : ℕ) (change : Link → Link) (s : Slab Node) → get s slot ≡ None → IsWritten chain slot change s s
not_written chain slot change s none =
    record {
      written = λ t. elim (cases_eq t slot) [
        | inl e ↦ nothing_written (eqb t slot) change (links chain s t) (ap (links chain s) e ∙ ap (λ o. option_map (link_of chain) o) none)
        | inr differs ↦ sym (cond-false (eqb t slot) _ _ (ne_eqb t slot differs))
      ];
      standing = standing_same chain s;
    }

-- the last of a chain is not the slot that is in none
pub last_elsewhere : (held : ℕ → Option Link) (ends : ℕ × ℕ → Option Ends) (slot : ℕ) (lane : ℕ × ℕ) → IsChained (but slot held) ends → option_map (λ (e : Ends). e.last) (ends lane) ≢ Some slot
last_elsewhere held ends slot lane c e =
    let previous = subst (λ o. IsPrevious (places (but slot held)) lane (2 ^ 32) o) e (c.last lane) in
    let none : places (but slot held) slot ≡ None = ap (λ o. option_map place_of o) (but_here slot held) in
    let some = previous.at in
    absurd (cc)

pub record Writes (held mid new : ℕ → Option Link) (slot : ℕ) (last : Option ℕ) : Type 0 where
  pub at_last : (t : ℕ) → last ≡ Some t → mid t ≡ option_map (with_after (Some slot)) (held t)
  pub others : (t : ℕ) → last ≢ Some t → mid t ≡ held t
  pub here : (t : ℕ) → new t ≡ cond (eqb t slot) (option_map (with_before last) (mid t)) (mid t)

pub links_made : {held mid new : ℕ → Option Link} {ends moved : ℕ × ℕ → Option Ends} (slot : ℕ) (x : Link) → IsChained (but slot held) ends → held slot ≡ Some x → x.after ≡ None → x.number < 2 ^ 32 → ((t : ℕ) (y : Link) → but slot held t ≡ Some y → y.number < x.number) → Writes held mid new slot (option_map (λ (e : Ends). e.last) (ends x.lane)) → ((q : ℕ × ℕ) → moved q ≡ cond (is_lane x.lane q) (Some (has_last slot (ends x.lane))) (ends q)) → Links held new ends moved slot x
links_made {held} {mid} {new} {ends} {moved} slot x c at alone fits above w e =
    let last = option_map (λ (z : Ends). z.last) (ends x.lane) in
    record {
      at = at;
      alone = alone;
      fits = fits;
      above = above;
      here =
          w.here slot ∙ cond-true (eqb slot slot) _ _ (eq-eqb slot slot refl)
          ∙ ap (λ o. option_map (with_before last) o) (w.others slot (last_elsewhere held ends slot x.lane c) ∙ at);
      at_last = λ t differs l. w.here t ∙ cond-false (eqb t slot) _ _ (ne_eqb t slot differs) ∙ w.at_last t l;
      others = λ t differs l. w.here t ∙ cond-false (eqb t slot) _ _ (ne_eqb t slot differs) ∙ w.others t l;
      ends_here = e x.lane ∙ cond-true (is_lane x.lane x.lane) _ _ (lane_itself x.lane);
      ends_others = λ q differs. e q ∙ cond-false (is_lane x.lane q) _ _ (lane_differs x.lane q differs);
    }

-- the same in terms of the last call and the key as they were read
pub linked_by : (held mid new : ℕ → Option Link) (ends moved : ℕ × ℕ → Option Ends) (slot : ℕ) (x : Link) (last : Option ℕ) (lane : ℕ × ℕ) → IsChained (but slot held) ends → held slot ≡ Some x → x.lane ≡ lane → x.after ≡ None → x.number < 2 ^ 32 → ((t : ℕ) (y : Link) → but slot held t ≡ Some y → y.number < x.number) → last ≡ option_map (λ (e : Ends). e.last) (ends lane) → ((t : ℕ) → mid t ≡ cond (is_slot last t) (option_map (with_after (Some slot)) (held t)) (held t)) → ((t : ℕ) → new t ≡ cond (eqb t slot) (option_map (with_before last) (mid t)) (mid t)) → ((q : ℕ × ℕ) → moved q ≡ cond (is_lane lane q) (Some (has_last slot (ends lane))) (ends q)) → IsChained new moved
linked_by held mid new ends moved slot x last lane c at same alone fits above was m n e =
    let F : Option ℕ × (ℕ × ℕ) → Type 0 =
    λ z. ((t : ℕ) → mid t ≡ cond (is_slot z.0 t) (option_map (with_after (Some slot)) (held t)) (held t)) → ((t : ℕ) → new t ≡ cond (eqb t slot) (option_map (with_before z.0) (mid t)) (mid t)) → ((q : ℕ × ℕ) → moved q ≡ cond (is_lane z.1 q) (Some (has_last slot (ends z.1))) (ends q)) → IsChained new moved
    in
    let ended : Option ℕ = option_map (λ (z : Ends). z.last) (ends x.lane) in
    let there : ended ≡ last = ap (λ q. option_map (λ (z : Ends). z.last) (ends q)) same ∙ sym was in
    let read : (ended, x.lane) ≡ (last, lane) = λ i. (there i, same i) in
    let made : F (ended, x.lane) =
    λ m' n' e'.
    linked_chained c
    (links_made {held = held} {mid = mid} {new = new} {ends = ends} {moved = moved} slot x c at alone fits above
    (record {
      at_last = λ t p. m' t ∙ cond-true (is_slot ended t) _ _ (slot_named ended t p);
      others = λ t p. m' t ∙ cond-false (is_slot ended t) _ _ (slot_not_named ended t p);
      here = n';
    })
    e')
    in
    subst F read made m n e
