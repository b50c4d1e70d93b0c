-- Who is out, and how many seats there are, where processes go on.
use Rattle.std.proofs.Common.{◌≡◌, ℕ, zero, suc, ◌<◌, Bool, true, false, List, [], ◌∷◌, ◌++◌, length, set, map, refl, ◌∙◌, arith}
use Rattle.std.specs.Prelude.{if◌then◌else◌, Option, Some, None}
use Rattle.std.proofs.lemmas.List.{length-set}
use Rattle.std.proofs.Math.Seq.{map-set_same}
use Rattle.std.specs.Option.{option_map_or}
use Rattle.cc_base.specs.declared.names.Pid.{Pid}
use Rattle.cc_base.specs.declared.request.Grant.{Grant}
use Rattle.cc_base.specs.declared.request.Grant.TheVariants.{Gone}
use Rattle.cc_kernel.specs.Contract.{is_out_in}
use Rattle.cc_kernel.specs.Seats.{answered_seats, gone_seats, is_out, is_ready, whereabouts_out, whereabouts_ready, seat_at, vacant, woken, whereabouts_woken}
use Rattle.cc_kernel.specs.declared.seat.Whereabouts.{Whereabouts}
use Rattle.cc_kernel.specs.declared.seat.Whereabouts.TheVariants.{Ready, Out, Waits, Left}
use Rattle.cc_kernel.specs.declared.seat.Seat.{Seat}
use Rattle.cc_kernel.specs.declared.served.ServedCall.{ServedCall}
use Rattle.cc_rules.specs.Effects.{caller_of, waits_for}

module _ {P : Type 0} where
  pub out-at :
      (seats : List (Seat P)) (i : ℕ)
      → is_out_in (map is_out seats) i ≡ true
      → (i < length seats) × (is_out (seat_at seats i) ≡ true)
  out-at [] i h = cc
  out-at (seat ∷ seats) zero h = (omega arith, h)
  out-at (seat ∷ seats) (suc i) h = let r = out-at seats i h in (let lt : i < length seats = r.0 in omega arith, r.1)

  -- a process that is out is not ready
  pub out-not-ready : (seats : List (Seat P)) (i : ℕ) → is_out_in (map is_out seats) i ≡ true → is_ready (seat_at seats i) ≡ false
  out-not-ready seats i h = not-there (seat_at seats i).whereabouts (out-at seats i h).1
    where
      not-there : (x : Whereabouts P) → whereabouts_out x ≡ true → whereabouts_ready x ≡ false
      not-there (Ready process grant) h = cc
      not-there Out h = refl
      not-there (Waits process) h = refl
      not-there Left h = refl

  pub in-at :
      (seats : List (Seat P)) (i : ℕ) (b : Bool)
      → i < length seats
      → is_out (seat_at seats i) ≡ b
      → is_out_in (map is_out seats) i ≡ b
  in-at [] i b lt e = absurd (omega arith)
  in-at (seat ∷ seats) zero b lt e = e
  in-at (seat ∷ seats) (suc i) b lt e = in-at seats i b (omega arith) e

  -- a process that goes out is out
  pub out-set :
      (seats : List (Seat P)) (i : ℕ) (seat : Seat P)
      → i < length seats
      → is_out seat ≡ true
      → is_out_in (map is_out (set seats i seat)) i ≡ true
  out-set [] i seat lt e = absurd (omega arith)
  out-set (first ∷ seats) zero seat lt e = e
  out-set (first ∷ seats) (suc i) seat lt e = out-set seats i seat (omega arith) e

  pub gone_seats-append :
      (seats : List (Seat P)) (first more : List ServedCall)
      → gone_seats seats (first ++ more) ≡ gone_seats (gone_seats seats first) more
  gone_seats-append seats [] more = refl
  gone_seats-append seats (call ∷ first) more = gone_seats-append (answered_seats seats call Gone) first more

  length-answered_if : (seats : List (Seat P)) (i : ℕ) (seat : Seat P) (b : Bool) → length (if b then set seats i seat else seats) ≡ length seats
  length-answered_if seats i seat true = length-set seats i seat
  length-answered_if seats i seat false = refl

  length-answered_by :
      (seats : List (Seat P)) (n : ℕ) (grant : Grant) (o : Option Pid)
      → length (option_map_or (λ (caller : Pid). if waits_for n (seat_at seats caller.0).standing then set seats caller.0 (woken (seat_at seats caller.0) grant) else seats) o seats) ≡ length seats
  length-answered_by seats n grant None = refl
  length-answered_by seats n grant (Some caller) =
      length-answered_if seats caller.0 (woken (seat_at seats caller.0) grant) (waits_for n (seat_at seats caller.0).standing)

  pub length-answered : (seats : List (Seat P)) (call : ServedCall) (grant : Grant) → length (answered_seats seats call grant) ≡ length seats
  length-answered seats call grant = length-answered_by seats call.number.0 grant (caller_of call.waiting)

  pub length-gone : (seats : List (Seat P)) (calls : List ServedCall) → length (gone_seats seats calls) ≡ length seats
  length-gone seats [] = refl
  length-gone seats (call ∷ calls) = length-gone (answered_seats seats call Gone) calls ∙ length-answered seats call Gone

  -- who is out does not change where others go on
  out-woken_place : (x : Whereabouts P) (grant : Grant) → whereabouts_out (whereabouts_woken x grant) ≡ whereabouts_out x
  out-woken_place (Ready process old) grant = refl
  out-woken_place Out grant = refl
  out-woken_place (Waits process) grant = refl
  out-woken_place Left grant = refl

  pub outs-woken : (seats : List (Seat P)) (i : ℕ) (grant : Grant) → map is_out (set seats i (woken (seat_at seats i) grant)) ≡ map is_out seats
  outs-woken seats i grant = map-set_same is_out seats i (woken (seat_at seats i) grant) vacant (out-woken_place (seat_at seats i).whereabouts grant)

  outs-answered_if : (seats : List (Seat P)) (i : ℕ) (grant : Grant) (b : Bool) → map is_out (if b then set seats i (woken (seat_at seats i) grant) else seats) ≡ map is_out seats
  outs-answered_if seats i grant true = outs-woken seats i grant
  outs-answered_if seats i grant false = refl

  outs-answered_by :
      (seats : List (Seat P)) (n : ℕ) (grant : Grant) (o : Option Pid)
      → map is_out (option_map_or (λ (caller : Pid). if waits_for n (seat_at seats caller.0).standing then set seats caller.0 (woken (seat_at seats caller.0) grant) else seats) o seats) ≡ map is_out seats
  outs-answered_by seats n grant None = refl
  outs-answered_by seats n grant (Some caller) = outs-answered_if seats caller.0 grant (waits_for n (seat_at seats caller.0).standing)

  pub outs-answered : (seats : List (Seat P)) (call : ServedCall) (grant : Grant) → map is_out (answered_seats seats call grant) ≡ map is_out seats
  outs-answered seats call grant = outs-answered_by seats call.number.0 grant (caller_of call.waiting)

  pub outs-gone : (seats : List (Seat P)) (calls : List ServedCall) → map is_out (gone_seats seats calls) ≡ map is_out seats
  outs-gone seats [] = refl
  outs-gone seats (call ∷ calls) = outs-gone (answered_seats seats call Gone) calls ∙ outs-answered seats call Gone
