-- What becomes of the nearest call of a chain where a call is put into the chains or taken out.
use Rattle.std.proofs.Common.{◌≡◌, ◌≢◌, ℕ, ◌+◌, ◌<◌, ◌≤◌, ◌⊎◌, Option, Some, None, refl, sym, ap, ◌∙◌, subst, inl, inr, arith}
use Rattle.std.proofs.lemmas.Bool.{cases_eq}
use Rattle.cc_queue.specs.Chains.{Place, HasNearest, IsNearest, IsNext, IsPrevious, AreApart}

pub same_place : (o : Option Place) (p q : Place) → o ≡ Some p → o ≡ Some q → p ≡ q
same_place o p q h k = cc

-- the new places are the old ones and that of one more call, whose number is above all others
pub record Adds (old new : ℕ → Option Place) (slot : ℕ) (here : Place) : Type 0 where
  pub vacant : old slot ≡ None
  pub at : new slot ≡ Some here
  pub others : (t : ℕ) → t ≢ slot → new t ≡ old t
  pub above : (t : ℕ) (p : Place) → old t ≡ Some p → p.number < here.number

-- the new places are the old ones without that of one call
pub record Removes (old new : ℕ → Option Place) (slot : ℕ) (here : Place) : Type 0 where
  pub at : old slot ≡ Some here
  pub vacant : new slot ≡ None
  pub others : (t : ℕ) → t ≢ slot → new t ≡ old t
  pub apart : AreApart old

module _ {old new : ℕ → Option Place} {slot : ℕ} {here : Place} where
  -- a call of the new places is that which was added, or one of the old
  pub added_or_old : Adds old new slot here → (t : ℕ) (p : Place) → new t ≡ Some p → (p ≡ here) ⊎ (old t ≡ Some p)
  added_or_old a t p h =
      elim (cases_eq t slot) [
        | inl e ↦ inl (same_place (new slot) p here (subst (λ z. new z ≡ Some p) e h) a.at)
        | inr differs ↦ inr (sym (a.others t differs) ∙ h)
      ]

  pub old_is_new : Adds old new slot here → (t : ℕ) (p : Place) → old t ≡ Some p → new t ≡ Some p
  old_is_new a t p h =
      elim (cases_eq t slot) [
        | inl e ↦ let none : old t ≡ None = ap old e ∙ a.vacant in absurd (cc)
        | inr differs ↦ a.others t differs ∙ h
      ]

  -- where the added call is not nearer, the nearest stays
  pub nearest_kept : (passes : ℕ → Type 0) (nearer : ℕ → ℕ → Type 0) (lane : ℕ × ℕ) (o : Option ℕ) → Adds old new slot here → ((p : Place) (t : ℕ) → old t ≡ Some p → here.lane ≡ lane → passes here.number → nearer p.number here.number) → ((here.lane ≡ lane) → passes here.number → o ≢ None) → IsNearest old passes nearer lane o → IsNearest new passes nearer lane o
  nearest_kept passes nearer lane None a far some h =
      λ t p e l w. elim (added_or_old a t p e) [
        | inl same ↦ some (subst (λ z. z.lane ≡ lane) same l) (subst (λ z. passes z.number) same w) refl
        | inr was ↦ h t p was l w
      ]
  nearest_kept passes nearer lane (Some s) a far some h =
      record {
        place = h.place;
        at = old_is_new a s h.place h.at;
        in_lane = h.in_lane;
        within = h.within;
        nearest = λ t p e l w. elim (added_or_old a t p e) [
          | inl same ↦ subst (λ z. nearer h.place.number z.number) (sym same) (far h.place s h.at (subst (λ z. z.lane ≡ lane) same l) (subst (λ z. passes z.number) same w))
          | inr was ↦ h.nearest t p was l w
        ];
      }

  pub next_kept : (lane : ℕ × ℕ) (from : ℕ) (o : Option ℕ) → Adds old new slot here → ((here.lane ≡ lane) → from ≤ here.number → o ≢ None) → IsNext old lane from o → IsNext new lane from o
  next_kept lane from o a some h =
      nearest_kept (λ n. from ≤ n) (λ m n. m ≤ n) lane o a (λ p t e l w. let below = a.above t p e in omega arith) some h

  -- the next call of a chain that had one, or that is another chain, or from a number above that of the added call
  pub next_kept_some : (lane : ℕ × ℕ) (from s : ℕ) → Adds old new slot here → IsNext old lane from (Some s) → IsNext new lane from (Some s)
  next_kept_some lane from s a h = next_kept lane from (Some s) a (λ l w e. cc) h

  pub next_kept_apart : (lane : ℕ × ℕ) (from : ℕ) (o : Option ℕ) → Adds old new slot here → (here.lane ≢ lane) → IsNext old lane from o → IsNext new lane from o
  next_kept_apart lane from o a differs h = next_kept lane from o a (λ l w. absurd (differs l)) h

  pub next_kept_past : (lane : ℕ × ℕ) (from : ℕ) (o : Option ℕ) → Adds old new slot here → here.number < from → IsNext old lane from o → IsNext new lane from o
  next_kept_past lane from o a past h = next_kept lane from o a (λ l w. absurd (omega arith)) h

  -- the added call is the next where there was none
  pub next_added : (from : ℕ) → Adds old new slot here → from ≤ here.number → IsNext old here.lane from None → IsNext new here.lane from (Some slot)
  next_added from a within h =
      record {
        place = here;
        at = a.at;
        in_lane = refl;
        within = within;
        nearest = λ t p e l w. elim (added_or_old a t p e) [
          | inl same ↦ let n : p.number ≡ here.number = ap (λ z. z.number) same in omega arith
          | inr was ↦ absurd (h t p was l w)
        ];
      }

  pub previous_kept : (lane : ℕ × ℕ) (below : ℕ) (o : Option ℕ) → Adds old new slot here → below ≤ here.number → IsPrevious old lane below o → IsPrevious new lane below o
  previous_kept lane below o a past h =
      nearest_kept (λ n. n < below) (λ m n. n ≤ m) lane o a (λ p t e l w. absurd (omega arith)) (λ l w. absurd (omega arith)) h

  pub previous_kept_apart : (lane : ℕ × ℕ) (below : ℕ) (o : Option ℕ) → Adds old new slot here → (here.lane ≢ lane) → IsPrevious old lane below o → IsPrevious new lane below o
  previous_kept_apart lane below o a differs h =
      nearest_kept (λ n. n < below) (λ m n. n ≤ m) lane o a (λ p t e l w. absurd (differs l)) (λ l w. absurd (differs l)) h

  pub previous_added : (below : ℕ) → Adds old new slot here → here.number < below → IsPrevious new here.lane below (Some slot)
  previous_added below a within =
      record {
        place = here;
        at = a.at;
        in_lane = refl;
        within = within;
        nearest = λ t p e l w. elim (added_or_old a t p e) [
          | inl same ↦ let n : p.number ≡ here.number = ap (λ z. z.number) same in omega arith
          | inr was ↦ let m = a.above t p was in omega arith
        ];
      }

  pub apart_added : Adds old new slot here → AreApart old → AreApart new
  apart_added a apart s t p q h k n =
      elim (cases_eq s slot) [
        | inl e ↦
            elim (cases_eq t slot) [
              | inl f ↦ e ∙ sym f
              | inr g ↦
                  let m = a.above t q (sym (a.others t g) ∙ k) in
                  let same = same_place (new slot) p here (subst (λ z. new z ≡ Some p) e h) a.at in
                  let i : p.number ≡ here.number = ap (λ z. z.number) same in
                  absurd (omega arith)
            ]
        | inr g ↦
            elim (cases_eq t slot) [
              | inl f ↦
                  let m = a.above s p (sym (a.others s g) ∙ h) in
                  let same = same_place (new slot) q here (subst (λ z. new z ≡ Some q) f k) a.at in
                  let i : q.number ≡ here.number = ap (λ z. z.number) same in
                  absurd (omega arith)
              | inr f ↦ apart s t p q (sym (a.others s g) ∙ h) (sym (a.others t f) ∙ k) n
            ]
      ]

  -- a call of the new places is one of the old, at another slot than the removed one
  pub new_is_old : Removes old new slot here → (t : ℕ) (p : Place) → new t ≡ Some p → (t ≢ slot) × (old t ≡ Some p)
  new_is_old r t p h =
      elim (cases_eq t slot) [
        | inl e ↦ let none : new t ≡ None = ap new e ∙ r.vacant in absurd (cc)
        | inr differs ↦ (differs, sym (r.others t differs) ∙ h)
      ]

  -- the nearest stays where it is not the removed call
  pub nearest_stays : (passes : ℕ → Type 0) (nearer : ℕ → ℕ → Type 0) (lane : ℕ × ℕ) (o : Option ℕ) → Removes old new slot here → (o ≢ Some slot) → IsNearest old passes nearer lane o → IsNearest new passes nearer lane o
  nearest_stays passes nearer lane None r other h = λ t p e l w. h t p (new_is_old r t p e).1 l w
  nearest_stays passes nearer lane (Some s) r other h =
      record {
        place = h.place;
        at = r.others s (λ e. other (ap (λ z. Some z) e)) ∙ h.at;
        in_lane = h.in_lane;
        within = h.within;
        nearest = λ t p e l w. h.nearest t p (new_is_old r t p e).1 l w;
      }

  -- where the removed call was the nearest, the nearest beyond it is so now
  moved : (passes beyond : ℕ → Type 0) (nearer : ℕ → ℕ → Type 0) (o : Option ℕ) → Removes old new slot here → ((n : ℕ) → passes n → nearer here.number n → (n ≢ here.number) → beyond n) → ((n : ℕ) → beyond n → passes n) → (beyond here.number → ⊥) → HasNearest old passes nearer here.lane slot → IsNearest old beyond nearer here.lane o → IsNearest new passes nearer here.lane o
  moved passes beyond nearer None r out in' self h k =
      λ t p e l w.
      let was = new_is_old r t p e in
      let is_here = same_place (old slot) h.place here h.at r.at in
      let near : nearer here.number p.number = subst (λ z. nearer z.number p.number) is_here (h.nearest t p was.1 l w) in
      k t p was.1 l (out p.number w near (λ n. was.0 (r.apart t slot p here was.1 r.at n)))
  moved passes beyond nearer (Some s) r out in' self h k =
      let is_here = same_place (old slot) h.place here h.at r.at in
      let differs : s ≢ slot =
      λ e. self (subst (λ z. beyond z.number) (same_place (old slot) k.place here (subst (λ z. old z ≡ Some k.place) e k.at) r.at) k.within) in
      record {
        place = k.place;
        at = r.others s differs ∙ k.at;
        in_lane = k.in_lane;
        within = in' k.place.number k.within;
        nearest = λ t p e l w.
            let was = new_is_old r t p e in
            let near : nearer here.number p.number = subst (λ z. nearer z.number p.number) is_here (h.nearest t p was.1 l w) in
            k.nearest t p was.1 l (out p.number w near (λ n. was.0 (r.apart t slot p here was.1 r.at n)));
      }

  lane_of_nearest : (passes : ℕ → Type 0) (nearer : ℕ → ℕ → Type 0) (lane : ℕ × ℕ) → Removes old new slot here → HasNearest old passes nearer lane slot → (here.lane ≡ lane) × passes here.number
  lane_of_nearest passes nearer lane r h =
      let is_here = same_place (old slot) h.place here h.at r.at in
      (subst (λ z. z.lane ≡ lane) is_here h.in_lane, subst (λ z. passes z.number) is_here h.within)

  pub next_moves : (lane : ℕ × ℕ) (from : ℕ) (o : Option ℕ) → Removes old new slot here → IsNext old lane from (Some slot) → IsNext old here.lane (here.number + 1) o → IsNext new lane from o
  next_moves lane from o r h k =
      let same = lane_of_nearest (λ n. from ≤ n) (λ m n. m ≤ n) lane r h in
      let w : from ≤ here.number = same.1 in
      subst (λ z. IsNext new z from o) same.0
      (moved (λ n. from ≤ n) (λ n. here.number + 1 ≤ n) (λ m n. m ≤ n) o r (λ n x y z. omega arith) (λ n x. omega arith) (λ x. omega arith) (subst (λ z. IsNext old z from (Some slot)) (sym same.0) h) k)

  pub previous_moves : (lane : ℕ × ℕ) (below : ℕ) (o : Option ℕ) → Removes old new slot here → IsPrevious old lane below (Some slot) → IsPrevious old here.lane here.number o → IsPrevious new lane below o
  previous_moves lane below o r h k =
      let same = lane_of_nearest (λ n. n < below) (λ m n. n ≤ m) lane r h in
      let w : here.number < below = same.1 in
      subst (λ z. IsPrevious new z below o) same.0
      (moved (λ n. n < below) (λ n. n < here.number) (λ m n. n ≤ m) o r (λ n x y z. omega arith) (λ n x. omega arith) (λ x. omega arith) (subst (λ z. IsPrevious old z below (Some slot)) (sym same.0) h) k)

  pub apart_removed : Removes old new slot here → AreApart new
  apart_removed r s t p q h k n = r.apart s t p q (new_is_old r s p h).1 (new_is_old r t q k).1 n

-- of a chain whose calls are all below a number, the last is also the last below that number
pub previous_down : {places : ℕ → Option Place} (lane : ℕ × ℕ) (big below : ℕ) (o : Option ℕ) → below ≤ big → ((t : ℕ) (p : Place) → places t ≡ Some p → p.number < below) → IsPrevious places lane big o → IsPrevious places lane below o
previous_down lane big below None le all h = λ t p e l w. h t p e l (omega arith)
previous_down lane big below (Some s) le all h =
    record {
      place = h.place;
      at = h.at;
      in_lane = h.in_lane;
      within = all s h.place h.at;
      nearest = λ t p e l w. h.nearest t p e l (omega arith);
    }
