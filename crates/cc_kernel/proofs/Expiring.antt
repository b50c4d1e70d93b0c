-- Whoever has the first deadline expires, and goes on.
use Rattle.std.specs.Option.{option_map_or}
use Rattle.std.specs.Prelude.{if◌then◌else◌}
use Rattle.std.proofs.Common.{◌≡◌, ℕ, ◌<◌, ℤ, Bool, false, ◌&&◌, ◌||◌, List, length, set, refl, sym, ap, ◌∙◌, Option, Some, None, true}
use Rattle.std.specs.List.{list_any}
use Rattle.std.proofs.lemmas.List.{get_or-set_same, length-set}
use Rattle.std.proofs.lemmas.List.Folds.{list_all_at}
use Rattle.cc_base.specs.declared.names.CallId.{CallId}
use Rattle.cc_base.specs.declared.names.Pid.{Pid}
use Rattle.cc_base.specs.declared.request.Grant.{Grant}
use Rattle.cc_kernel.proofs.Dues.{due-deadline, some-due}
use Rattle.cc_kernel.proofs.Settling.{waits-within}
use Rattle.cc_kernel.proofs.Timed.{has-standing, stands-there}
use Rattle.cc_kernel.specs.Counted.{IsWaiting, all_may_end, may_terminate}
use Rattle.cc_kernel.specs.Due.{due_of}
use Rattle.cc_kernel.specs.Seats.{answered_seats, seat_at, vacant, woken}
use Rattle.cc_kernel.specs.Store.{Contents, IsState}
use Rattle.cc_kernel.specs.Timed.{deadline_of}
use Rattle.cc_kernel.specs.declared.due.Due.{Due}
use Rattle.cc_kernel.specs.declared.seat.Seat.{Seat}
use Rattle.cc_kernel.specs.declared.served.ServedCall.{ServedCall}
use Rattle.cc_rules.specs.Choice.{call_deadline, call_numbered}
use Rattle.cc_rules.specs.Effects.{caller_of, waits_for}
use Rattle.cc_rules.specs.declared.process.TransactionCall.{TransactionCall}
use Rattle.cc_rules.specs.State.{State, is_over}
use Rattle.cc_rules.specs.declared.process.ProcessStanding.{ProcessStanding}
use Rattle.cc_rules.specs.declared.process.ProcessStanding.TheVariants.{Running, AtSelect, AtDelay, AtCall, Ended, Faulted}
use Rattle.cc_timer.specs.Deadlines.{IsFirst}
use Rattle.cc_timer.specs.declared.who.Who.TheVariants as who

-- who waits for a moment waits
due-waits : (x : ProcessStanding) (d : Due) → due_of x ≡ Some d → IsWaiting x
due-waits Running d e = cc
due-waits (AtSelect alts asked) d e = (refl, refl)
due-waits (AtDelay deadline) d e = (refl, refl)
due-waits (AtCall call) d e = cc
due-waits Ended d e = cc
due-waits (Faulted kind) d e = cc

-- and who waits for a call is not over
calling-stays : (x : ProcessStanding) (n : ℕ) → waits_for n x ≡ true → is_over x ≡ false
calling-stays Running n h = refl
calling-stays (AtSelect alts asked) n h = refl
calling-stays (AtDelay deadline) n h = refl
calling-stays (AtCall call) n h = refl
calling-stays Ended n h = cc
calling-stays (Faulted kind) n h = cc

module _ {P : Type 0} (located : P → ℕ → List ℤ → List Grant → Type 0) where
  -- a process that has the first deadline expires
  pub first-is-due :
      (s : State) (x : Contents P) (n : ℕ) (p : Pid)
      → IsState located s x
      → IsFirst (n, who.Process p) x.deadlines
      → (d : Due) × (due_of (seat_at x.seats p.0).standing ≡ Some d) × (d.deadline ≡ n) × IsWaiting (seat_at x.seats p.0).standing × (p.0 < length x.seats)
  first-is-due s x n p k first =
      by (due_of (seat_at x.seats p.0).standing) refl
      (has-standing x.seats x.pending x.deadlines (who.Process p) n k.timed (stands-there x.deadlines n (who.Process p) first.0))
    where
      standing : ProcessStanding
      standing = (seat_at x.seats p.0).standing

      by :
          (o : Option Due)
          → due_of standing ≡ o
          → deadline_of standing ≡ Some n
          → (d : Due) × (due_of standing ≡ Some d) × (d.deadline ≡ n) × IsWaiting standing × (p.0 < length x.seats)
      by None e h = absurd (some-due standing n h e)
      by (Some d) e h =
          let same : Some d.deadline ≡ Some n = sym (due-deadline standing d e) ∙ h in
          let waits = due-waits standing d e in
          (d, e, cc, waits, waits-within x.seats p.0 waits.1)

  -- a call that has it is pending, until then
  pub first-call :
      (s : State) (x : Contents P) (n : ℕ) (c : CallId)
      → IsState located s x
      → IsFirst (n, who.Call c) x.deadlines
      → (call : TransactionCall) × (call_numbered x.pending c.0 ≡ Some call) × (call_deadline call.waiting ≡ Some n)
  first-call s x n c k first =
      by (call_numbered x.pending c.0) refl
      (has-standing x.seats x.pending x.deadlines (who.Call c) n k.timed (stands-there x.deadlines n (who.Call c) first.0))
    where
      by :
          (o : Option TransactionCall)
          → call_numbered x.pending c.0 ≡ o
          → option_map_or (λ (call : TransactionCall). call_deadline call.waiting) o None ≡ Some n
          → (call : TransactionCall) × (call_numbered x.pending c.0 ≡ Some call) × (call_deadline call.waiting ≡ Some n)
      by None e h = cc
      by (Some call) e h = (call, e, h)

-- where a process goes on, the collective end does not come
pub goes-no-end : {P : Type 0} (seats : List (Seat P)) (p : ℕ) (grant : Grant) → p < length seats → all_may_end (set seats p (woken (seat_at seats p) grant)) ≡ false
goes-no-end {P} seats p grant lt =
    let new = set seats p (woken (seat_at seats p) grant) in
    let within : p < length new = rw length-set lt in
    let F : Seat P → Bool = λ seat. is_over seat.standing || may_terminate seat.standing in
    let here : F (seat_at new p) ≡ false = ap F (get_or-set_same seats p (woken (seat_at seats p) grant) vacant lt) in
    ap (λ b. b && list_any (λ (seat : Seat P). may_terminate seat.standing) new) (list_all_at F new p vacant within here)

-- nor where a caller may
pub answered-no-end : {P : Type 0} (seats : List (Seat P)) (call : ServedCall) (grant : Grant) → all_may_end seats ≡ false → all_may_end (answered_seats seats call grant) ≡ false
answered-no-end {P} seats call grant stays = by (caller_of call.waiting)
  where
    here :
        (caller : Pid) (b : Bool)
        → waits_for call.number.0 (seat_at seats caller.0).standing ≡ b
        → all_may_end (if b then set seats caller.0 (woken (seat_at seats caller.0) grant) else seats) ≡ false
    here caller true e = goes-no-end seats caller.0 grant (waits-within seats caller.0 (calling-stays (seat_at seats caller.0).standing call.number.0 e))
    here caller false e = stays

    by :
        (o : Option Pid)
        → all_may_end (option_map_or (λ (caller : Pid). if waits_for call.number.0 (seat_at seats caller.0).standing then set seats caller.0 (woken (seat_at seats caller.0) grant) else seats) o seats) ≡ false
    by None = stays
    by (Some caller) = here caller (waits_for call.number.0 (seat_at seats caller.0).standing) refl
