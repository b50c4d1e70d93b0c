-- The callers of some calls go on with Gone, in whatever order.
use Rattle.std.proofs.Common.{◌≡◌, ◌≢◌, inl, inr, ℕ, zero, suc, Bool, true, false, List, [], ◌∷◌, ◌++◌, set, refl, sym, ap, ◌∙◌, subst, Option, Some, None}
use Rattle.std.specs.Prelude.{if◌then◌else◌}
use Rattle.std.specs.Option.{option_map_or}
use Rattle.std.proofs.lemmas.Bool.{cases_eq}
use Rattle.std.proofs.lemmas.List.{get_or-set_other, get_or-set_same}
use Rattle.cc_base.specs.declared.names.Pid.{Pid}
use Rattle.cc_base.specs.declared.request.Grant.{Grant}
use Rattle.cc_base.specs.declared.request.Grant.TheVariants.{Gone}
use Rattle.cc_kernel.proofs.Seated.{waits-within}
use Rattle.cc_kernel.specs.Seats.{answered_seats, gone_seats, seat_at, vacant, woken}
use Rattle.cc_kernel.specs.declared.seat.Seat.{Seat}
use Rattle.cc_kernel.specs.declared.served.ServedCall.{ServedCall}
use Rattle.cc_rules.specs.Effects.{caller_of, waits_for}

-- writes at two places, in either order
set-both : {A : Type 0} (xs : List A) (i j : ℕ) (x y : A) → i ≢ j → set (set xs i x) j y ≡ set (set xs j y) i x
set-both [] i j x y ne = refl
set-both (z ∷ xs) zero zero x y ne = absurd (ne refl)
set-both (z ∷ xs) zero (suc j) x y ne = refl
set-both (z ∷ xs) (suc i) zero x y ne = refl
set-both (z ∷ xs) (suc i) (suc j) x y ne = ap (λ ys. z ∷ ys) (set-both xs i j x y (λ e. ne (ap suc e)))

module _ {P : Type 0} where
  -- a process that waits for the call of this number goes on
  abbrev wakes : List (Seat P) → ℕ → ℕ → Grant → List (Seat P)
  wakes seats n p grant = if waits_for n (seat_at seats p).standing then set seats p (woken (seat_at seats p) grant) else seats

  wakes-so : (seats : List (Seat P)) (n p : ℕ) (grant : Grant) → waits_for n (seat_at seats p).standing ≡ true → wakes seats n p grant ≡ set seats p (woken (seat_at seats p) grant)
  wakes-so seats n p grant e = ap (λ b. if b then set seats p (woken (seat_at seats p) grant) else seats) e

  wakes-not : (seats : List (Seat P)) (n p : ℕ) (grant : Grant) → waits_for n (seat_at seats p).standing ≡ false → wakes seats n p grant ≡ seats
  wakes-not seats n p grant e = ap (λ b. if b then set seats p (woken (seat_at seats p) grant) else seats) e

  -- where it goes on, it waits for no call
  woken-waits : (seats : List (Seat P)) (n m p : ℕ) (grant : Grant) → waits_for n (seat_at seats p).standing ≡ true → wakes (set seats p (woken (seat_at seats p) grant)) m p grant ≡ set seats p (woken (seat_at seats p) grant)
  woken-waits seats n m p grant e =
      let seat = woken (seat_at seats p) grant in
      let here : seat_at (set seats p seat) p ≡ seat = get_or-set_same seats p seat vacant (waits-within {P = P} (λ process kind args grants. Unit {0}) seats p n e) in
      wakes-not (set seats p seat) m p grant (ap (λ (s : Seat P). waits_for m s.standing) here)

  -- one process, in either order
  one-process :
      (seats : List (Seat P)) (n m p : ℕ) (grant : Grant) (a b : Bool)
      → waits_for n (seat_at seats p).standing ≡ a
      → waits_for m (seat_at seats p).standing ≡ b
      → wakes (wakes seats n p grant) m p grant ≡ wakes (wakes seats m p grant) n p grant
  one-process seats n m p grant true true e k =
      ap (λ ss. wakes ss m p grant) (wakes-so seats n p grant e)
      ∙ woken-waits seats n m p grant e
      ∙ sym (ap (λ ss. wakes ss n p grant) (wakes-so seats m p grant k) ∙ woken-waits seats m n p grant k)
  one-process seats n m p grant true false e k =
      ap (λ ss. wakes ss m p grant) (wakes-so seats n p grant e)
      ∙ woken-waits seats n m p grant e
      ∙ sym (ap (λ ss. wakes ss n p grant) (wakes-not seats m p grant k) ∙ wakes-so seats n p grant e)
  one-process seats n m p grant false true e k =
      ap (λ ss. wakes ss m p grant) (wakes-not seats n p grant e)
      ∙ wakes-so seats m p grant k
      ∙ sym (ap (λ ss. wakes ss n p grant) (wakes-so seats m p grant k) ∙ woken-waits seats m n p grant k)
  one-process seats n m p grant false false e k =
      ap (λ ss. wakes ss m p grant) (wakes-not seats n p grant e)
      ∙ wakes-not seats m p grant k
      ∙ sym (ap (λ ss. wakes ss n p grant) (wakes-not seats m p grant k) ∙ wakes-not seats n p grant e)

  -- another process stands as before
  wakes-other : (seats : List (Seat P)) (n p q : ℕ) (grant : Grant) (a : Bool) → waits_for n (seat_at seats p).standing ≡ a → q ≢ p → seat_at (wakes seats n p grant) q ≡ seat_at seats q
  wakes-other seats n p q grant true e ne =
      ap (λ ss. seat_at ss q) (wakes-so seats n p grant e) ∙ get_or-set_other seats p q (woken (seat_at seats p) grant) vacant ne
  wakes-other seats n p q grant false e ne = ap (λ ss. seat_at ss q) (wakes-not seats n p grant e)

  -- where another seat was written, this one goes on as it would have
  wakes-beside : (seats seats' : List (Seat P)) (m q : ℕ) (grant : Grant) → seat_at seats' q ≡ seat_at seats q → wakes seats' m q grant ≡ (if waits_for m (seat_at seats q).standing then set seats' q (woken (seat_at seats q) grant) else seats')
  wakes-beside seats seats' m q grant e = ap (λ (s : Seat P). if waits_for m s.standing then set seats' q (woken s grant) else seats') e

  -- two processes, in either order
  two-processes :
      (seats : List (Seat P)) (n m p q : ℕ) (grant : Grant) (a b : Bool)
      → p ≢ q
      → waits_for n (seat_at seats p).standing ≡ a
      → waits_for m (seat_at seats q).standing ≡ b
      → wakes (wakes seats n p grant) m q grant ≡ wakes (wakes seats m q grant) n p grant
  two-processes seats n m p q grant a b ne e k =
      let back : q ≢ p = λ h. ne (sym h) in
      let x = woken (seat_at seats p) grant in
      let y = woken (seat_at seats q) grant in
      wakes-beside seats (wakes seats n p grant) m q grant (wakes-other seats n p q grant a e back)
      ∙ either a b e k x y
      ∙ sym (wakes-beside seats (wakes seats m q grant) n p grant (wakes-other seats m q p grant b k ne))
    where
      either :
          (a b : Bool)
          → waits_for n (seat_at seats p).standing ≡ a
          → waits_for m (seat_at seats q).standing ≡ b
          → (x y : Seat P)
          → (if waits_for m (seat_at seats q).standing then set (if waits_for n (seat_at seats p).standing then set seats p x else seats) q y else (if waits_for n (seat_at seats p).standing then set seats p x else seats))
          ≡ (if waits_for n (seat_at seats p).standing then set (if waits_for m (seat_at seats q).standing then set seats q y else seats) p x else (if waits_for m (seat_at seats q).standing then set seats q y else seats))
      either true true e k x y = rw (e, k) (set-both seats p q x y ne)
      either true false e k x y = rw (e, k) refl
      either false true e k x y = rw (e, k) refl
      either false false e k x y = rw (e, k) refl

  either-order :
      (seats : List (Seat P)) (n m p q : ℕ) (grant : Grant)
      → wakes (wakes seats n p grant) m q grant ≡ wakes (wakes seats m q grant) n p grant
  either-order seats n m p q grant = elim (cases_eq p q) [
    | inl same ↦
        subst (λ r. wakes (wakes seats n p grant) m r grant ≡ wakes (wakes seats m r grant) n p grant) same
        (one-process seats n m p grant (waits_for n (seat_at seats p).standing) (waits_for m (seat_at seats p).standing) refl refl)
    | inr ne ↦ two-processes seats n m p q grant (waits_for n (seat_at seats p).standing) (waits_for m (seat_at seats q).standing) ne refl refl
  ]

  by-callers :
      (seats : List (Seat P)) (n m : ℕ) (grant : Grant) (o w : Option Pid)
      → option_map_or (λ (q : Pid). wakes (option_map_or (λ (p : Pid). wakes seats n p.0 grant) o seats) m q.0 grant) w (option_map_or (λ (p : Pid). wakes seats n p.0 grant) o seats)
      ≡ option_map_or (λ (p : Pid). wakes (option_map_or (λ (q : Pid). wakes seats m q.0 grant) w seats) n p.0 grant) o (option_map_or (λ (q : Pid). wakes seats m q.0 grant) w seats)
  by-callers seats n m grant None None = refl
  by-callers seats n m grant None (Some q) = refl
  by-callers seats n m grant (Some p) None = refl
  by-callers seats n m grant (Some p) (Some q) = either-order seats n m p.0 q.0 grant

  answered-both :
      (seats : List (Seat P)) (c d : ServedCall) (grant : Grant)
      → answered_seats (answered_seats seats c grant) d grant ≡ answered_seats (answered_seats seats d grant) c grant
  answered-both seats c d grant = by-callers seats c.number.0 d.number.0 grant (caller_of c.waiting) (caller_of d.waiting)

  -- the caller of the last call may go on first
  pub gone-last :
      (seats : List (Seat P)) (calls : List ServedCall) (c : ServedCall)
      → gone_seats (answered_seats seats c Gone) calls ≡ gone_seats seats (calls ++ c ∷ [])
  gone-last seats [] c = refl
  gone-last seats (d ∷ calls) c =
      ap (λ ss. gone_seats ss calls) (answered-both seats c d Gone) ∙ gone-last (answered_seats seats d Gone) calls c
