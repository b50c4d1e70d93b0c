-- What a chain's links say of each other, and that the chains are whole again once a call is put at the end of its chain.
use Rattle.std.proofs.Common.{◌≡◌, ◌≢◌, ℕ, ◌+◌, ◌<◌, ◌^◌, ◌⊎◌, true, false, eqb, Option, Some, None, refl, sym, ap, ◌∙◌, subst, inl, inr, arith}
use Rattle.std.proofs.lemmas.Bool.{cases_eq, cases_lt, eq-eqb, ne_eqb, eqb-true, cond-true, cond-false, and_parts, and_from, false_from_ne_true}
use Rattle.std.specs.Option.{option_map}
use Rattle.cc_queue.specs.Chains.{Link, Place, place_of, places, but, has_last, is_lane, is_slot, with_before, with_after, IsNext, IsPrevious, IsChained}
use Rattle.cc_queue.specs.declared.chains.Ends.{Ends}
use Rattle.cc_queue.proofs.Nearest.{same_place, Adds, added_or_old, next_kept, next_kept_some, next_kept_apart, next_added, previous_kept, previous_kept_apart, previous_added, previous_down, apart_added}

pub but_here : (slot : ℕ) (links : ℕ → Option Link) → but slot links slot ≡ None
but_here slot links = cond-true (eqb slot slot) None (links slot) (eq-eqb slot slot refl)

pub but_other : (slot : ℕ) (links : ℕ → Option Link) (t : ℕ) → t ≢ slot → but slot links t ≡ links t
but_other slot links t differs = cond-false (eqb t slot) None (links t) (ne_eqb t slot differs)

pub option_cases : {A : Type 0} (o : Option A) → (o ≡ None) ⊎ ((a : A) × (o ≡ Some a))
option_cases None = inl refl
option_cases (Some a) = inr (a, refl)

pub slot_cases : (o : Option ℕ) (t : ℕ) → (o ≡ Some t) ⊎ (o ≢ Some t)
slot_cases None t = inr (λ e. cc)
slot_cases (Some s) t =
    elim (cases_eq s t) [ inl e ↦ inl (ap (λ z. Some z) e) | inr differs ↦ inr (λ e. differs (cc)) ]

pub lane_cases : (l k : ℕ × ℕ) → (l ≡ k) ⊎ (l ≢ k)
lane_cases l k =
    elim (cases_eq l.0 k.0) [
      | inl e ↦
          elim (cases_eq l.1 k.1) [
            | inl f ↦ inl (λ i. (e i, f i))
            | inr differs ↦ inr (λ e. differs (ap (λ z. z.1) e))
          ]
      | inr differs ↦ inr (λ e. differs (ap (λ z. z.0) e))
    ]

pub lane_same : (l k : ℕ × ℕ) → is_lane l k ≡ true → l ≡ k
lane_same l k e =
    let parts = and_parts (eqb l.0 k.0) (eqb l.1 k.1) e in
    let p = eqb-true l.0 k.0 parts.0 in
    let q = eqb-true l.1 k.1 parts.1 in
    λ i. (p i, q i)

pub lane_itself : (l : ℕ × ℕ) → is_lane l l ≡ true
lane_itself l = and_from (eqb l.0 l.0) (eqb l.1 l.1) (eq-eqb l.0 l.0 refl) (eq-eqb l.1 l.1 refl)

pub lane_differs : (l k : ℕ × ℕ) → l ≢ k → is_lane l k ≡ false
lane_differs l k differs = false_from_ne_true (is_lane l k) (λ e. differs (lane_same l k e))

pub slot_named : (o : Option ℕ) (t : ℕ) → o ≡ Some t → is_slot o t ≡ true
slot_named o t e = ap (λ z. is_slot z t) e ∙ eq-eqb t t refl

pub slot_not_named : (o : Option ℕ) (t : ℕ) → o ≢ Some t → is_slot o t ≡ false
slot_not_named None t differs = refl
slot_not_named (Some s) t differs = ne_eqb t s (λ e. differs (ap (λ z. Some z) (sym e)))

-- the link of a slot that has a place
pub link_at_place : (o : Option Link) (p : Place) → option_map place_of o ≡ Some p → (x : Link) × (o ≡ Some x) × (place_of x ≡ p)
link_at_place None p e = absurd (cc)
link_at_place (Some x) p e = (x, refl, cc)

pub place_at_link : (o : Option Link) (x : Link) → o ≡ Some x → option_map place_of o ≡ Some (place_of x)
place_at_link o x e = ap (λ z. option_map place_of z) e

-- a change that leaves lane and number leaves the place
pub same_places : (change : Link → Link) (stays : (x : Link) → place_of (change x) ≡ place_of x) (o : Option Link) → option_map place_of (option_map change o) ≡ option_map place_of o
same_places change stays None = refl
same_places change stays (Some x) = ap (λ z. Some z) (stays x)

module _ {links : ℕ → Option Link} {ends : ℕ × ℕ → Option Ends} where
  -- the call after a call has that before it
  pub before_after : IsChained links ends → (s t : ℕ) (y x : Link) → links s ≡ Some y → links t ≡ Some x → y.after ≡ Some t → x.before ≡ Some s
  before_after c s t y x at_s at_t e =
      let next = subst (λ z. IsNext (places links) y.lane (y.number + 1) z) e (c.after s y at_s) in
      let is_x = same_place (places links t) next.place (place_of x) next.at (place_at_link (links t) x at_t) in
      let lane : x.lane ≡ y.lane = ap (λ (z : Place). z.lane) (sym is_x) ∙ next.in_lane in
      let number : next.place.number ≡ x.number = ap (λ (z : Place). z.number) is_x in
      elim (option_cases x.before) [
        | inl none ↦
            let previous = subst (λ z. IsPrevious (places links) x.lane x.number z) none (c.before t x at_t) in
            absurd (previous s (place_of y) (place_at_link (links s) y at_s) (sym lane) (omega (arith, next.within)))
        | inr some ↦
            let u = some.0 in
            let previous = subst (λ z. IsPrevious (places links) x.lane x.number z) some.1 (c.before t x at_t) in
            let least = previous.nearest s (place_of y) (place_at_link (links s) y at_s) (sym lane) (omega (arith, next.within)) in
            let same : y.number ≡ previous.place.number =
            elim (cases_lt y.number previous.place.number) [
              | inl less ↦ absurd (omega (arith, previous.within, next.nearest u previous.place previous.at (previous.in_lane ∙ lane) (omega arith)))
              | inr more ↦ omega arith
            ]
            in
            some.1 ∙ ap (λ z. Some z) (c.apart u s previous.place (place_of y) previous.at (place_at_link (links s) y at_s) (sym same))
      ]

  -- the call before a call has that after it
  pub after_before : IsChained links ends → (s t : ℕ) (y x : Link) → links s ≡ Some y → links t ≡ Some x → y.before ≡ Some t → x.after ≡ Some s
  after_before c s t y x at_s at_t e =
      let previous = subst (λ z. IsPrevious (places links) y.lane y.number z) e (c.before s y at_s) in
      let is_x = same_place (places links t) previous.place (place_of x) previous.at (place_at_link (links t) x at_t) in
      let lane : x.lane ≡ y.lane = ap (λ (z : Place). z.lane) (sym is_x) ∙ previous.in_lane in
      let number : previous.place.number ≡ x.number = ap (λ (z : Place). z.number) is_x in
      elim (option_cases x.after) [
        | inl none ↦
            let next = subst (λ z. IsNext (places links) x.lane (x.number + 1) z) none (c.after t x at_t) in
            absurd (next s (place_of y) (place_at_link (links s) y at_s) (sym lane) (omega (arith, previous.within)))
        | inr some ↦
            let u = some.0 in
            let next = subst (λ z. IsNext (places links) x.lane (x.number + 1) z) some.1 (c.after t x at_t) in
            let least = next.nearest s (place_of y) (place_at_link (links s) y at_s) (sym lane) (omega (arith, previous.within)) in
            let same : y.number ≡ next.place.number =
            elim (cases_lt next.place.number y.number) [
              | inl less ↦ absurd (omega (arith, next.within, previous.nearest u next.place next.at (next.in_lane ∙ lane) less))
              | inr more ↦ omega arith
            ]
            in
            some.1 ∙ ap (λ z. Some z) (c.apart u s next.place (place_of y) next.at (place_at_link (links s) y at_s) (sym same))
      ]

  -- a call with none before it is the first of its chain
  pub first_from_none : IsChained links ends → (s : ℕ) (y : Link) → links s ≡ Some y → y.before ≡ None → option_map (λ (e : Ends). e.first) (ends y.lane) ≡ Some s
  first_from_none c s y at none =
      let previous = subst (λ z. IsPrevious (places links) y.lane y.number z) none (c.before s y at) in
      elim (option_cases (option_map (λ (e : Ends). e.first) (ends y.lane))) [
        | inl nothing ↦
            let next = subst (λ z. IsNext (places links) y.lane 0 z) nothing (c.first y.lane) in
            absurd (next s (place_of y) (place_at_link (links s) y at) refl (omega arith))
        | inr some ↦
            let u = some.0 in
            let next = subst (λ z. IsNext (places links) y.lane 0 z) some.1 (c.first y.lane) in
            let least = next.nearest s (place_of y) (place_at_link (links s) y at) refl (omega arith) in
            let same : y.number ≡ next.place.number =
            elim (cases_lt next.place.number y.number) [
              | inl less ↦ absurd (previous u next.place next.at next.in_lane less)
              | inr more ↦ omega arith
            ]
            in
            some.1 ∙ ap (λ z. Some z) (c.apart u s next.place (place_of y) next.at (place_at_link (links s) y at) (sym same))
      ]

  -- a call with none after it is the last of its chain
  pub last_from_none : IsChained links ends → (s : ℕ) (y : Link) → links s ≡ Some y → y.after ≡ None → option_map (λ (e : Ends). e.last) (ends y.lane) ≡ Some s
  last_from_none c s y at none =
      let next = subst (λ z. IsNext (places links) y.lane (y.number + 1) z) none (c.after s y at) in
      let fits : y.number < 2 ^ 32 = c.fits s (place_of y) (place_at_link (links s) y at) in
      elim (option_cases (option_map (λ (e : Ends). e.last) (ends y.lane))) [
        | inl nothing ↦
            let previous = subst (λ z. IsPrevious (places links) y.lane (2 ^ 32) z) nothing (c.last y.lane) in
            absurd (previous s (place_of y) (place_at_link (links s) y at) refl fits)
        | inr some ↦
            let u = some.0 in
            let previous = subst (λ z. IsPrevious (places links) y.lane (2 ^ 32) z) some.1 (c.last y.lane) in
            let most = previous.nearest s (place_of y) (place_at_link (links s) y at) refl fits in
            let same : y.number ≡ previous.place.number =
            elim (cases_lt y.number previous.place.number) [
              | inl less ↦ absurd (next u previous.place previous.at previous.in_lane (omega arith))
              | inr more ↦ omega arith
            ]
            in
            some.1 ∙ ap (λ z. Some z) (c.apart u s previous.place (place_of y) previous.at (place_at_link (links s) y at) (sym same))
      ]

  -- the first of a chain has none before it
  pub none_before_first : IsChained links ends → (s : ℕ) (y : Link) (lane : ℕ × ℕ) → links s ≡ Some y → option_map (λ (e : Ends). e.first) (ends lane) ≡ Some s → (y.lane ≡ lane) × (y.before ≡ None)
  none_before_first c s y lane at e =
      let next = subst (λ z. IsNext (places links) lane 0 z) e (c.first lane) in
      let is_y = same_place (places links s) next.place (place_of y) next.at (place_at_link (links s) y at) in
      let same : y.lane ≡ lane = ap (λ (z : Place). z.lane) (sym is_y) ∙ next.in_lane in
      let number : next.place.number ≡ y.number = ap (λ (z : Place). z.number) is_y in (
        same,
        elim (option_cases y.before) [
          | inl none ↦ none
          | inr some ↦
              let previous = subst (λ z. IsPrevious (places links) y.lane y.number z) some.1 (c.before s y at) in
              absurd (omega (arith, previous.within, next.nearest some.0 previous.place previous.at (previous.in_lane ∙ same) (omega arith)))
        ],
      )

  -- the last of a chain has none after it
  pub none_after_last : IsChained links ends → (s : ℕ) (y : Link) (lane : ℕ × ℕ) → links s ≡ Some y → option_map (λ (e : Ends). e.last) (ends lane) ≡ Some s → (y.lane ≡ lane) × (y.after ≡ None)
  none_after_last c s y lane at e =
      let previous = subst (λ z. IsPrevious (places links) lane (2 ^ 32) z) e (c.last lane) in
      let is_y = same_place (places links s) previous.place (place_of y) previous.at (place_at_link (links s) y at) in
      let same : y.lane ≡ lane = ap (λ (z : Place). z.lane) (sym is_y) ∙ previous.in_lane in
      let number : previous.place.number ≡ y.number = ap (λ (z : Place). z.number) is_y in (
        same,
        elim (option_cases y.after) [
          | inl none ↦ none
          | inr some ↦
              let next = subst (λ z. IsNext (places links) y.lane (y.number + 1) z) some.1 (c.after s y at) in
              absurd (omega (arith, next.within, previous.nearest some.0 next.place next.at (next.in_lane ∙ same) (c.fits some.0 next.place next.at)))
        ],
      )

-- the node of a slot, whose number is above all others, was put at the end of its chain
pub record Links (links linked : ℕ → Option Link) (ends moved : ℕ × ℕ → Option Ends) (slot : ℕ) (x : Link) : Type 0 where
  pub at : links slot ≡ Some x
  pub alone : x.after ≡ None
  pub fits : x.number < 2 ^ 32
  pub above : (t : ℕ) (y : Link) → but slot links t ≡ Some y → y.number < x.number
  pub here : linked slot ≡ Some (with_before (option_map (λ (e : Ends). e.last) (ends x.lane)) x)
  pub at_last : (t : ℕ) → t ≢ slot → option_map (λ (e : Ends). e.last) (ends x.lane) ≡ Some t → linked t ≡ option_map (with_after (Some slot)) (links t)
  pub others : (t : ℕ) → t ≢ slot → option_map (λ (e : Ends). e.last) (ends x.lane) ≢ Some t → linked t ≡ links t
  pub ends_here : moved x.lane ≡ Some (has_last slot (ends x.lane))
  pub ends_others : (q : ℕ × ℕ) → x.lane ≢ q → moved q ≡ ends q

module _ {links linked : ℕ → Option Link} {ends moved : ℕ × ℕ → Option Ends} {slot : ℕ} {x : Link} where
  -- a link of another slot is an old one, of which the call after may have changed
  was_linked : Links links linked ends moved slot x → (t : ℕ) (z : Link) → t ≢ slot → linked t ≡ Some z → (y : Link) × (but slot links t ≡ Some y) × (place_of z ≡ place_of y) × (z.before ≡ y.before)
  was_linked l t z differs h =
      elim (slot_cases (option_map (λ (e : Ends). e.last) (ends x.lane)) t) [
        | inl e ↦ at_change (links t) (but_other slot links t differs) (sym (l.at_last t differs e) ∙ h)
        | inr other ↦ (z, but_other slot links t differs ∙ sym (l.others t differs other) ∙ h, refl, refl)
      ]
    where
      at_change : (o : Option Link) → but slot links t ≡ o → option_map (with_after (Some slot)) o ≡ Some z → (y : Link) × (but slot links t ≡ Some y) × (place_of z ≡ place_of y) × (z.before ≡ y.before)
      at_change None b e = absurd (cc)
      at_change (Some y) b e =
          let is_z : with_after (Some slot) y ≡ z = cc in
          (y, b, ap place_of (sym is_z), ap (λ (v : Link). v.before) (sym is_z))

  adds : Links links linked ends moved slot x → Adds (places (but slot links)) (places linked) slot (place_of x)
  adds l =
      record {
        vacant = ap (λ z. option_map place_of z) (but_here slot links);
        at = ap (λ z. option_map place_of z) l.here;
        others = λ t differs.
            let was = ap (λ z. option_map place_of z) (but_other slot links t differs) in
            elim (slot_cases (option_map (λ (e : Ends). e.last) (ends x.lane)) t) [
              | inl e ↦ ap (λ z. option_map place_of z) (l.at_last t differs e) ∙ same_places (with_after (Some slot)) (λ y. refl) (links t) ∙ sym was
              | inr other ↦ ap (λ z. option_map place_of z) (l.others t differs other) ∙ sym was
            ];
        above = λ t p e.
            let y = link_at_place (but slot links t) p e in
            subst (λ (z : Place). z.number < x.number) y.2 (l.above t y.0 y.1);
      }

  -- the new last call has none after it
  none_after : Links links linked ends moved slot x → IsNext (places linked) x.lane (x.number + 1) None
  none_after l =
      λ t p e in' within.
      elim (added_or_old (adds l) t p e) [
        | inl same ↦ let n : p.number ≡ x.number = ap (λ (z : Place). z.number) same in omega arith
        | inr was ↦ let less : p.number < x.number = (adds l).above t p was in omega arith
      ]

  -- the call that was last has the new one after it
  after_last : IsChained (but slot links) ends → Links links linked ends moved slot x → (s : ℕ) (y : Link) → but slot links s ≡ Some y → option_map (λ (e : Ends). e.last) (ends x.lane) ≡ Some s → IsNext (places linked) y.lane (y.number + 1) (Some slot)
  after_last c l s y at e =
      let is_last = none_after_last c s y x.lane at e in
      let next = subst (λ z. IsNext (places (but slot links)) y.lane (y.number + 1) z) is_last.1 (c.after s y at) in
      let less : y.number < x.number = l.above s y at in
      subst (λ z. IsNext (places linked) z (y.number + 1) (Some slot)) (sym is_last.0)
      (next_added (y.number + 1) (adds l) (omega arith) (subst (λ z. IsNext (places (but slot links)) z (y.number + 1) None) is_last.0 next))

  after_linked : IsChained (but slot links) ends → Links links linked ends moved slot x → (s : ℕ) (z : Link) → linked s ≡ Some z → IsNext (places linked) z.lane (z.number + 1) z.after
  after_linked c l s z h =
      elim (cases_eq s slot) [
        | inl e ↦
            let is_z : with_before (option_map (λ (e : Ends). e.last) (ends x.lane)) x ≡ z = cc (l.here, h, ap linked e) in
            subst (λ (v : Link). IsNext (places linked) v.lane (v.number + 1) v.after) is_z
            (subst (λ o. IsNext (places linked) x.lane (x.number + 1) o) (sym l.alone) (none_after l))
        | inr differs ↦
            elim (slot_cases (option_map (λ (e : Ends). e.last) (ends x.lane)) s) [
              | inl e ↦ at_change (links s) (but_other slot links s differs) (sym (l.at_last s differs e) ∙ h) e
              | inr other ↦
                  let at = but_other slot links s differs ∙ sym (l.others s differs other) ∙ h in
                  next_kept z.lane (z.number + 1) z.after (adds l)
                  (λ same w none. other (ap (λ q. option_map (λ (e : Ends). e.last) (ends q)) same ∙ last_from_none c s z at none))
                  (c.after s z at)
            ]
      ]
    where
      at_change : (o : Option Link) → but slot links s ≡ o → option_map (with_after (Some slot)) o ≡ Some z → option_map (λ (e : Ends). e.last) (ends x.lane) ≡ Some s → IsNext (places linked) z.lane (z.number + 1) z.after
      at_change None b f e = absurd (cc)
      at_change (Some y) b f e =
          let is_z : with_after (Some slot) y ≡ z = cc in
          subst (λ (v : Link). IsNext (places linked) v.lane (v.number + 1) v.after) is_z (after_last c l s y b e)

  before_linked : IsChained (but slot links) ends → Links links linked ends moved slot x → (s : ℕ) (z : Link) → linked s ≡ Some z → IsPrevious (places linked) z.lane z.number z.before
  before_linked c l s z h =
      elim (cases_eq s slot) [
        | inl e ↦
            let is_z : with_before (option_map (λ (e : Ends). e.last) (ends x.lane)) x ≡ z = cc (l.here, h, ap linked e) in
            let last = option_map (λ (e : Ends). e.last) (ends x.lane) in
            subst (λ (v : Link). IsPrevious (places linked) v.lane v.number v.before) is_z
            (previous_kept x.lane x.number last (adds l) (omega arith) (previous_down x.lane (2 ^ 32) x.number last (omega (arith, l.fits)) (adds l).above (c.last x.lane)))
        | inr differs ↦
            let was = was_linked l s z differs h in
            let y = was.0 in
            let less : y.number < x.number = l.above s y was.1 in
            let kept = previous_kept y.lane y.number y.before (adds l) (omega arith) (c.before s y was.1) in
            subst (λ o. IsPrevious (places linked) z.lane z.number o) (sym was.3)
            (subst (λ (p : Place). IsPrevious (places linked) p.lane p.number y.before) (sym was.2) kept)
      ]

  first_linked : IsChained (but slot links) ends → Links links linked ends moved slot x → (lane : ℕ × ℕ) → IsNext (places linked) lane 0 (option_map (λ (e : Ends). e.first) (moved lane))
  first_linked c l lane =
      elim (lane_cases x.lane lane) [
        | inl same ↦
            subst (λ q. IsNext (places linked) q 0 (option_map (λ (e : Ends). e.first) (moved q))) same
            (subst (λ o. IsNext (places linked) x.lane 0 (option_map (λ (e : Ends). e.first) o)) (sym l.ends_here) (here (ends x.lane) (c.first x.lane)))
        | inr differs ↦
            subst (λ o. IsNext (places linked) lane 0 (option_map (λ (e : Ends). e.first) o)) (sym (l.ends_others lane differs))
            (next_kept_apart lane 0 (option_map (λ (e : Ends). e.first) (ends lane)) (adds l) differs (c.first lane))
      ]
    where
      here : (o : Option Ends) → IsNext (places (but slot links)) x.lane 0 (option_map (λ (e : Ends). e.first) o) → IsNext (places linked) x.lane 0 (Some (has_last slot o).first)
      here None h = next_added 0 (adds l) (omega arith) h
      here (Some e) h = next_kept_some x.lane 0 e.first (adds l) h

  last_linked : IsChained (but slot links) ends → Links links linked ends moved slot x → (lane : ℕ × ℕ) → IsPrevious (places linked) lane (2 ^ 32) (option_map (λ (e : Ends). e.last) (moved lane))
  last_linked c l lane =
      elim (lane_cases x.lane lane) [
        | inl same ↦
            subst (λ q. IsPrevious (places linked) q (2 ^ 32) (option_map (λ (e : Ends). e.last) (moved q))) same
            (subst (λ o. IsPrevious (places linked) x.lane (2 ^ 32) (option_map (λ (e : Ends). e.last) o)) (sym l.ends_here) (here (ends x.lane)))
        | inr differs ↦
            subst (λ o. IsPrevious (places linked) lane (2 ^ 32) (option_map (λ (e : Ends). e.last) o)) (sym (l.ends_others lane differs))
            (previous_kept_apart lane (2 ^ 32) (option_map (λ (e : Ends). e.last) (ends lane)) (adds l) differs (c.last lane))
      ]
    where
      here : (o : Option Ends) → IsPrevious (places linked) x.lane (2 ^ 32) (Some (has_last slot o).last)
      here None = previous_added (2 ^ 32) (adds l) l.fits
      here (Some e) = previous_added (2 ^ 32) (adds l) l.fits

  pub linked_chained : IsChained (but slot links) ends → Links links linked ends moved slot x → IsChained linked moved
  linked_chained c l =
      record {
        apart = apart_added (adds l) c.apart;
        fits = λ s p h. elim (added_or_old (adds l) s p h) [
          | inl same ↦ subst (λ (z : Place). z.number < 2 ^ 32) (sym same) l.fits
          | inr was ↦ c.fits s p was
        ];
        after = after_linked c l;
        before = before_linked c l;
        first = first_linked c l;
        last = last_linked c l;
      }
