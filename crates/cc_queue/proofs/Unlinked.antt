-- The chains without a call are whole again once its neighbours are each other's.
use Rattle.std.proofs.Common.{◌≡◌, ◌≢◌, ℕ, ◌+◌, ◌<◌, ◌≤◌, ◌^◌, ◌⊎◌, Bool, true, false, cond, ◌&&◌, Option, Some, None, refl, sym, ap, ◌∙◌, subst, inl, inr}
use Rattle.std.proofs.lemmas.Bool.{cases_eq, cond-true, cond-false, true≢false, false≢true}
use Rattle.std.specs.Option.{option_map}
use Rattle.cc_queue.specs.Chains.{Link, Place, place_of, places, but, is_slot, is_end, is_lane, first_moved, last_moved, with_before, with_after, IsNext, IsPrevious, IsChained}
use Rattle.cc_queue.specs.declared.chains.Ends.{Ends}
use Rattle.cc_queue.proofs.Nearest.{Removes, nearest_stays, next_moves, previous_moves, apart_removed, new_is_old}
use Rattle.cc_queue.proofs.Linked.{but_here, but_other, slot_cases, lane_cases, lane_itself, lane_differs, slot_named, slot_not_named, same_places, place_at_link, before_after, after_before, first_from_none, last_from_none, none_before_first, none_after_last}

-- what becomes of the link y of slot t where x is taken out: it stays but for neighbours that were x's slot
pub record Relinks (x : Link) (t : ℕ) (y z : Link) : Type 0 where
  pub place : place_of z ≡ place_of y
  pub after_next : x.before ≡ Some t → z.after ≡ x.after
  pub after_stays : x.before ≢ Some t → z.after ≡ y.after
  pub before_previous : x.after ≡ Some t → z.before ≡ x.before
  pub before_stays : x.after ≢ Some t → z.before ≡ y.before

-- the neighbours of the call in the slot became each other's
pub record Unlinks (links unlinked : ℕ → Option Link) (ends moved : ℕ × ℕ → Option Ends) (slot : ℕ) (x : Link) : Type 0 where
  pub at : links slot ≡ Some x
  pub same : (t : ℕ) → places unlinked t ≡ places links t
  pub relinks : (t : ℕ) (z : Link) → unlinked t ≡ Some z → (y : Link) × (links t ≡ Some y) × Relinks x t y z
  pub first_next : x.before ≡ None → option_map (λ (e : Ends). e.first) (moved x.lane) ≡ x.after
  pub first_stays : x.before ≢ None → option_map (λ (e : Ends). e.first) (moved x.lane) ≡ option_map (λ (e : Ends). e.first) (ends x.lane)
  pub last_previous : x.after ≡ None → option_map (λ (e : Ends). e.last) (moved x.lane) ≡ x.before
  pub last_stays : x.after ≢ None → option_map (λ (e : Ends). e.last) (moved x.lane) ≡ option_map (λ (e : Ends). e.last) (ends x.lane)
  pub ends_others : (q : ℕ × ℕ) → x.lane ≢ q → moved q ≡ ends q

pub same_link : (y z : Link) → Some y ≡ Some z → y ≡ z
same_link y z e = cc

none_or_not : (o : Option ℕ) → (o ≡ None) ⊎ (o ≢ None)
none_or_not None = inl refl
none_or_not (Some s) = inr (λ e. cc)

-- a link that is left
left : (slot : ℕ) (links : ℕ → Option Link) (s : ℕ) (z : Link) → but slot links s ≡ Some z → (s ≢ slot) × (links s ≡ Some z)
left slot links s z h =
    elim (cases_eq s slot) [
      | inl e ↦ let none : but slot links s ≡ None = ap (but slot links) e ∙ but_here slot links in absurd (cc)
      | inr differs ↦ (differs, sym (but_other slot links s differs) ∙ h)
    ]

module _ {links unlinked : ℕ → Option Link} {ends moved : ℕ × ℕ → Option Ends} {slot : ℕ} {x : Link} where
  removes : IsChained links ends → Unlinks links unlinked ends moved slot x → Removes (places links) (places (but slot unlinked)) slot (place_of x)
  removes c u =
      record {
        at = place_at_link (links slot) x u.at;
        vacant = ap (λ z. option_map place_of z) (but_here slot unlinked);
        others = λ t differs. ap (λ z. option_map place_of z) (but_other slot unlinked t differs) ∙ u.same t;
        apart = c.apart;
      }

  after_unlinked : IsChained links ends → Unlinks links unlinked ends moved slot x → (s : ℕ) (z : Link) → but slot unlinked s ≡ Some z → IsNext (places (but slot unlinked)) z.lane (z.number + 1) z.after
  after_unlinked c u s z h =
      let was = u.relinks s z (left slot unlinked s z h).1 in
      let y = was.0 in
      let new : (o : Option ℕ) → z.after ≡ o → IsNext (places (but slot unlinked)) y.lane (y.number + 1) o → IsNext (places (but slot unlinked)) z.lane (z.number + 1) z.after =
      λ o e k.
      subst (λ a. IsNext (places (but slot unlinked)) z.lane (z.number + 1) a) (sym e)
      (subst (λ (p : Place). IsNext (places (but slot unlinked)) p.lane (p.number + 1) o) (sym was.2.place) k)
      in
      elim (slot_cases x.before s) [
        | inl e ↦
            let next = after_before c slot s x y u.at was.1 e in
            new x.after (was.2.after_next e)
            (next_moves y.lane (y.number + 1) x.after (removes c u) (subst (λ a. IsNext (places links) y.lane (y.number + 1) a) next (c.after s y was.1)) (c.after slot x u.at))
        | inr other ↦
            new y.after (was.2.after_stays other)
            (nearest_stays (λ n. y.number + 1 ≤ n) (λ m n. m ≤ n) y.lane y.after (removes c u) (λ e. other (before_after c s slot y x was.1 u.at e)) (c.after s y was.1))
      ]

  before_unlinked : IsChained links ends → Unlinks links unlinked ends moved slot x → (s : ℕ) (z : Link) → but slot unlinked s ≡ Some z → IsPrevious (places (but slot unlinked)) z.lane z.number z.before
  before_unlinked c u s z h =
      let was = u.relinks s z (left slot unlinked s z h).1 in
      let y = was.0 in
      let new : (o : Option ℕ) → z.before ≡ o → IsPrevious (places (but slot unlinked)) y.lane y.number o → IsPrevious (places (but slot unlinked)) z.lane z.number z.before =
      λ o e k.
      subst (λ a. IsPrevious (places (but slot unlinked)) z.lane z.number a) (sym e)
      (subst (λ (p : Place). IsPrevious (places (but slot unlinked)) p.lane p.number o) (sym was.2.place) k)
      in
      elim (slot_cases x.after s) [
        | inl e ↦
            let previous = before_after c slot s x y u.at was.1 e in
            new x.before (was.2.before_previous e)
            (previous_moves y.lane y.number x.before (removes c u) (subst (λ a. IsPrevious (places links) y.lane y.number a) previous (c.before s y was.1)) (c.before slot x u.at))
        | inr other ↦
            new y.before (was.2.before_stays other)
            (nearest_stays (λ n. n < y.number) (λ m n. n ≤ m) y.lane y.before (removes c u) (λ e. other (after_before c s slot y x was.1 u.at e)) (c.before s y was.1))
      ]

  first_unlinked : IsChained links ends → Unlinks links unlinked ends moved slot x → (lane : ℕ × ℕ) → IsNext (places (but slot unlinked)) lane 0 (option_map (λ (e : Ends). e.first) (moved lane))
  first_unlinked c u lane =
      elim (lane_cases x.lane lane) [
        | inl same ↦ subst (λ q. IsNext (places (but slot unlinked)) q 0 (option_map (λ (e : Ends). e.first) (moved q))) same here
        | inr differs ↦
            subst (λ o. IsNext (places (but slot unlinked)) lane 0 (option_map (λ (e : Ends). e.first) o)) (sym (u.ends_others lane differs))
            (nearest_stays (λ n. 0 ≤ n) (λ m n. m ≤ n) lane (option_map (λ (e : Ends). e.first) (ends lane)) (removes c u) (λ e. differs (none_before_first c slot x lane u.at e).0) (c.first lane))
      ]
    where
      here : IsNext (places (but slot unlinked)) x.lane 0 (option_map (λ (e : Ends). e.first) (moved x.lane))
      here =
          elim (none_or_not x.before) [
            | inl none ↦
                subst (λ o. IsNext (places (but slot unlinked)) x.lane 0 o) (sym (u.first_next none))
                (next_moves x.lane 0 x.after (removes c u) (subst (λ o. IsNext (places links) x.lane 0 o) (first_from_none c slot x u.at none) (c.first x.lane)) (c.after slot x u.at))
            | inr some ↦
                subst (λ o. IsNext (places (but slot unlinked)) x.lane 0 o) (sym (u.first_stays some))
                (nearest_stays (λ n. 0 ≤ n) (λ m n. m ≤ n) x.lane (option_map (λ (e : Ends). e.first) (ends x.lane)) (removes c u) (λ e. some (none_before_first c slot x x.lane u.at e).1) (c.first x.lane))
          ]

  last_unlinked : IsChained links ends → Unlinks links unlinked ends moved slot x → (lane : ℕ × ℕ) → IsPrevious (places (but slot unlinked)) lane (2 ^ 32) (option_map (λ (e : Ends). e.last) (moved lane))
  last_unlinked c u lane =
      elim (lane_cases x.lane lane) [
        | inl same ↦ subst (λ q. IsPrevious (places (but slot unlinked)) q (2 ^ 32) (option_map (λ (e : Ends). e.last) (moved q))) same here
        | inr differs ↦
            subst (λ o. IsPrevious (places (but slot unlinked)) lane (2 ^ 32) (option_map (λ (e : Ends). e.last) o)) (sym (u.ends_others lane differs))
            (nearest_stays (λ n. n < 2 ^ 32) (λ m n. n ≤ m) lane (option_map (λ (e : Ends). e.last) (ends lane)) (removes c u) (λ e. differs (none_after_last c slot x lane u.at e).0) (c.last lane))
      ]
    where
      here : IsPrevious (places (but slot unlinked)) x.lane (2 ^ 32) (option_map (λ (e : Ends). e.last) (moved x.lane))
      here =
          elim (none_or_not x.after) [
            | inl none ↦
                subst (λ o. IsPrevious (places (but slot unlinked)) x.lane (2 ^ 32) o) (sym (u.last_previous none))
                (previous_moves x.lane (2 ^ 32) x.before (removes c u) (subst (λ o. IsPrevious (places links) x.lane (2 ^ 32) o) (last_from_none c slot x u.at none) (c.last x.lane)) (c.before slot x u.at))
            | inr some ↦
                subst (λ o. IsPrevious (places (but slot unlinked)) x.lane (2 ^ 32) o) (sym (u.last_stays some))
                (nearest_stays (λ n. n < 2 ^ 32) (λ m n. n ≤ m) x.lane (option_map (λ (e : Ends). e.last) (ends x.lane)) (removes c u) (λ e. some (none_after_last c slot x x.lane u.at e).1) (c.last x.lane))
          ]

  pub unlinked_chained : IsChained links ends → Unlinks links unlinked ends moved slot x → IsChained (but slot unlinked) moved
  unlinked_chained c u =
      record {
        apart = apart_removed (removes c u);
        fits = λ s p h. c.fits s p (new_is_old (removes c u) s p h).1;
        after = after_unlinked c u;
        before = before_unlinked c u;
        first = first_unlinked c u;
        last = last_unlinked c u;
      }

-- the writes of `unlink`, one by one, make the neighbours of a call each other's
places_kept : (b : Bool) (change : Link → Link) (stays : (x : Link) → place_of (change x) ≡ place_of x) (o : Option Link) → option_map place_of (cond b (option_map change o) o) ≡ option_map place_of o
places_kept true change stays o = same_places change stays o
places_kept false change stays o = refl

abbrev relinked : Link → Bool → Bool → Link → Link
relinked x b a y =
    let mid = cond b (with_after x.after y) y in
    cond a (with_before x.before mid) mid

relinked_is : (x : Link) (t : ℕ) (b a : Bool) (y z : Link) → is_slot x.before t ≡ b → is_slot x.after t ≡ a → z ≡ relinked x b a y → Relinks x t y z
relinked_is x t true true y z p q e =
    record {
      place = ap place_of e;
      after_next = λ n. ap (λ (v : Link). v.after) e;
      after_stays = λ n. absurd (true≢false (sym p ∙ slot_not_named x.before t n));
      before_previous = λ n. ap (λ (v : Link). v.before) e;
      before_stays = λ n. absurd (true≢false (sym q ∙ slot_not_named x.after t n));
    }
relinked_is x t true false y z p q e =
    record {
      place = ap place_of e;
      after_next = λ n. ap (λ (v : Link). v.after) e;
      after_stays = λ n. absurd (true≢false (sym p ∙ slot_not_named x.before t n));
      before_previous = λ n. absurd (false≢true (sym q ∙ slot_named x.after t n));
      before_stays = λ n. ap (λ (v : Link). v.before) e;
    }
relinked_is x t false true y z p q e =
    record {
      place = ap place_of e;
      after_next = λ n. absurd (false≢true (sym p ∙ slot_named x.before t n));
      after_stays = λ n. ap (λ (v : Link). v.after) e;
      before_previous = λ n. ap (λ (v : Link). v.before) e;
      before_stays = λ n. absurd (true≢false (sym q ∙ slot_not_named x.after t n));
    }
relinked_is x t false false y z p q e =
    record {
      place = ap place_of e;
      after_next = λ n. absurd (false≢true (sym p ∙ slot_named x.before t n));
      after_stays = λ n. ap (λ (v : Link). v.after) e;
      before_previous = λ n. absurd (false≢true (sym q ∙ slot_named x.after t n));
      before_stays = λ n. ap (λ (v : Link). v.before) e;
    }

-- what two writes leave of a link
abbrev rewritten : Link → Bool → Bool → Option Link → Option Link
rewritten x b a o =
    let mid = cond b (option_map (with_after x.after) o) o in
    cond a (option_map (with_before x.before) mid) mid

rewritten_some : (x : Link) (b a : Bool) (y : Link) → rewritten x b a (Some y) ≡ Some (relinked x b a y)
rewritten_some x true true y = refl
rewritten_some x true false y = refl
rewritten_some x false true y = refl
rewritten_some x false false y = refl

rewritten_none : (x : Link) (b a : Bool) → rewritten x b a None ≡ None
rewritten_none x true true = refl
rewritten_none x true false = refl
rewritten_none x false true = refl
rewritten_none x false false = refl

relinks_at : (x : Link) (t : ℕ) (o : Option Link) (z : Link) → rewritten x (is_slot x.before t) (is_slot x.after t) o ≡ Some z → (y : Link) × (o ≡ Some y) × Relinks x t y z
relinks_at x t None z e = let none = rewritten_none x (is_slot x.before t) (is_slot x.after t) in absurd (cc)
relinks_at x t (Some y) z e =
    let some = rewritten_some x (is_slot x.before t) (is_slot x.after t) y in
    let same : z ≡ relinked x (is_slot x.before t) (is_slot x.after t) y = same_link _ _ (sym e ∙ some) in
    (y, refl, relinked_is x t (is_slot x.before t) (is_slot x.after t) y z refl refl same)

-- the ends of the chain after both moves
abbrev final : Option ℕ → Option ℕ → Option Ends → Option Ends
final b a ends =
    let half = cond (is_end b) (first_moved a ends) ends in
    cond (is_end a) (last_moved b half) half

final_first_next : (b a : Option ℕ) (ends : Option Ends) (slot : ℕ) → b ≡ None → option_map (λ (e : Ends). e.first) ends ≡ Some slot → option_map (λ (e : Ends). e.first) (final b a ends) ≡ a
final_first_next None None ends slot p e = refl
final_first_next None (Some s) None slot p e = absurd (cc)
final_first_next None (Some s) (Some ends) slot p e = refl
final_first_next (Some s) a ends slot p e = absurd (cc)

final_first_stays : (b a : Option ℕ) (ends : Option Ends) → b ≢ None → option_map (λ (e : Ends). e.first) (final b a ends) ≡ option_map (λ (e : Ends). e.first) ends
final_first_stays None a ends p = absurd (p refl)
final_first_stays (Some s) None None p = refl
final_first_stays (Some s) None (Some ends) p = refl
final_first_stays (Some s) (Some r) ends p = refl

final_last_previous : (b a : Option ℕ) (ends : Option Ends) (slot : ℕ) → a ≡ None → option_map (λ (e : Ends). e.last) ends ≡ Some slot → option_map (λ (e : Ends). e.last) (final b a ends) ≡ b
final_last_previous None None ends slot p e = refl
final_last_previous (Some s) None None slot p e = absurd (cc)
final_last_previous (Some s) None (Some ends) slot p e = refl
final_last_previous b (Some s) ends slot p e = absurd (cc)

final_last_stays : (b a : Option ℕ) (ends : Option Ends) → a ≢ None → option_map (λ (e : Ends). e.last) (final b a ends) ≡ option_map (λ (e : Ends). e.last) ends
final_last_stays b None ends p = absurd (p refl)
final_last_stays None (Some s) None p = refl
final_last_stays None (Some s) (Some ends) p = refl
final_last_stays (Some r) (Some s) ends p = refl

here_or : (b : Bool) (l : ℕ × ℕ) {A : Type 0} (x y : A) → cond (b && is_lane l l) x y ≡ cond b x y
here_or true l x y = cond-true (is_lane l l) x y (lane_itself l)
here_or false l x y = refl

elsewhere : (b : Bool) (l q : ℕ × ℕ) {A : Type 0} (x y : A) → l ≢ q → cond (b && is_lane l q) x y ≡ y
elsewhere true l q x y differs = cond-false (is_lane l q) x y (lane_differs l q differs)
elsewhere false l q x y differs = refl

pub unlinks_made : {held mid new : ℕ → Option Link} {ends half moved : ℕ × ℕ → Option Ends} (slot : ℕ) (x : Link) → IsChained held ends → held slot ≡ Some x → ((t : ℕ) → mid t ≡ cond (is_slot x.before t) (option_map (with_after x.after) (held t)) (held t)) → ((t : ℕ) → new t ≡ cond (is_slot x.after t) (option_map (with_before x.before) (mid t)) (mid t)) → ((q : ℕ × ℕ) → half q ≡ cond (is_end x.before && is_lane x.lane q) (first_moved x.after (ends x.lane)) (ends q)) → ((q : ℕ × ℕ) → moved q ≡ cond (is_end x.after && is_lane x.lane q) (last_moved x.before (half x.lane)) (half q)) → Unlinks held new ends moved slot x
unlinks_made {held} {mid} {new} {ends} {half} {moved} slot x c at m n e f =
    let both : (t : ℕ) → new t ≡ rewritten x (is_slot x.before t) (is_slot x.after t) (held t) =
    λ t. n t ∙ ap (λ o. cond (is_slot x.after t) (option_map (with_before x.before) o) o) (m t)
    in
    let half_here : half x.lane ≡ cond (is_end x.before) (first_moved x.after (ends x.lane)) (ends x.lane) =
    e x.lane ∙ here_or (is_end x.before) x.lane (first_moved x.after (ends x.lane)) (ends x.lane)
    in
    let here : moved x.lane ≡ final x.before x.after (ends x.lane) =
    f x.lane ∙ here_or (is_end x.after) x.lane (last_moved x.before (half x.lane)) (half x.lane)
    ∙ ap (λ o. cond (is_end x.after) (last_moved x.before o) o) half_here
    in
    record {
      at = at;
      same = λ t.
          ap (λ o. option_map place_of o) (n t) ∙ places_kept (is_slot x.after t) (with_before x.before) (λ y. refl) (mid t)
          ∙ ap (λ o. option_map place_of o) (m t) ∙ places_kept (is_slot x.before t) (with_after x.after) (λ y. refl) (held t);
      relinks = λ t z h. relinks_at x t (held t) z (sym (both t) ∙ h);
      first_next = λ p. ap (λ o. option_map (λ (z : Ends). z.first) o) here ∙ final_first_next x.before x.after (ends x.lane) slot p (first_from_none c slot x at p);
      first_stays = λ p. ap (λ o. option_map (λ (z : Ends). z.first) o) here ∙ final_first_stays x.before x.after (ends x.lane) p;
      last_previous = λ p. ap (λ o. option_map (λ (z : Ends). z.last) o) here ∙ final_last_previous x.before x.after (ends x.lane) slot p (last_from_none c slot x at p);
      last_stays = λ p. ap (λ o. option_map (λ (z : Ends). z.last) o) here ∙ final_last_stays x.before x.after (ends x.lane) p;
      ends_others = λ q differs.
          f q ∙ elsewhere (is_end x.after) x.lane q (last_moved x.before (half x.lane)) (half q) differs
          ∙ e q ∙ elsewhere (is_end x.before) x.lane q (first_moved x.after (ends x.lane)) (ends q) differs;
    }

-- the same in terms of the call's neighbours and key as they were read
pub unlinked_by : {held mid new : ℕ → Option Link} {ends half moved : ℕ × ℕ → Option Ends} (slot : ℕ) (x : Link) (b a : Option ℕ) (lane : ℕ × ℕ) → IsChained held ends → held slot ≡ Some x → b ≡ x.before → a ≡ x.after → lane ≡ x.lane → ((t : ℕ) → mid t ≡ cond (is_slot b t) (option_map (with_after a) (held t)) (held t)) → ((t : ℕ) → new t ≡ cond (is_slot a t) (option_map (with_before b) (mid t)) (mid t)) → ((q : ℕ × ℕ) → half q ≡ cond (is_end b && is_lane lane q) (first_moved a (ends lane)) (ends q)) → ((q : ℕ × ℕ) → moved q ≡ cond (is_end a && is_lane lane q) (last_moved b (half lane)) (half q)) → IsChained (but slot new) moved
unlinked_by {held} {mid} {new} {ends} {half} {moved} slot x b a lane c at e1 e2 e3 m n e f =
    let F : Option ℕ × Option ℕ × (ℕ × ℕ) → Type 0 =
    λ z. ((t : ℕ) → mid t ≡ cond (is_slot z.0 t) (option_map (with_after z.1) (held t)) (held t)) → ((t : ℕ) → new t ≡ cond (is_slot z.1 t) (option_map (with_before z.0) (mid t)) (mid t)) → ((q : ℕ × ℕ) → half q ≡ cond (is_end z.0 && is_lane z.2 q) (first_moved z.1 (ends z.2)) (ends q)) → ((q : ℕ × ℕ) → moved q ≡ cond (is_end z.1 && is_lane z.2 q) (last_moved z.0 (half z.2)) (half q)) → IsChained (but slot new) moved
    in
    let read : (x.before, x.after, x.lane) ≡ (b, a, lane) = λ i. (sym e1 i, sym e2 i, sym e3 i) in
    subst F read (λ m' n' e' f'. unlinked_chained c (unlinks_made slot x c at m' n' e' f')) m n e f
