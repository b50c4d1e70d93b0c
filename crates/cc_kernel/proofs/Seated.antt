-- The seats hold the processes of a state, and still do where one goes on, waits or is over.
use Rattle.std.proofs.Common.{◌≡◌, ℕ, zero, suc, ◌<◌, ℤ, Bool, true, false, List, [], ◌∷◌, ◌++◌, length, set, map, refl, sym, ap, ◌∙◌, arith}
use Rattle.std.specs.Prelude.{if◌then◌else◌, Option, Some, None}
use Rattle.std.specs.Option.{option_map_or}
use Rattle.cc_base.specs.declared.names.Pid.{Pid}
use Rattle.cc_base.specs.declared.request.Grant.{Grant}
use Rattle.cc_base.specs.declared.request.Grant.TheVariants.{Gone}
use Rattle.cc_kernel.specs.Store.{IsReady, AreNumbered, WhereaboutsFit, SeatFits, Seated}
use Rattle.cc_kernel.specs.Contract.{is_out_in}
use Rattle.cc_kernel.specs.Seats.{answered_seats, gone_seats, is_out, whereabouts_out, is_ready, whereabouts_ready, seat_at, served_call, with_left, with_out, with_ready, with_waiting, woken, whereabouts_woken}
use Rattle.cc_kernel.specs.declared.seat.Whereabouts.{Whereabouts}
use Rattle.cc_kernel.specs.declared.seat.Whereabouts.TheVariants.{Ready, Out, Waits, Left}
use Rattle.cc_kernel.specs.declared.seat.Seat.{Seat}
use Rattle.cc_rules.specs.Effects.{answered, caller_of, each_gets_gone, grant_to, granted, waits_for, with_standing}
use Rattle.cc_rules.specs.State.{Process, is_over, is_running, process_at}
use Rattle.cc_rules.specs.declared.process.ProcessStanding.{ProcessStanding}
use Rattle.cc_rules.specs.declared.process.ProcessStanding.TheVariants.{Running, AtSelect, AtDelay, AtCall, Ended, Faulted}
use Rattle.cc_rules.specs.declared.process.TransactionCall.{TransactionCall}

running-over : (x : ProcessStanding) → is_running x ≡ true → is_over x ≡ true → ⊥
running-over Running h k = cc
running-over (AtSelect alts asked) h k = cc
running-over (AtDelay deadline) h k = cc
running-over (AtCall call) h k = cc
running-over Ended h k = cc
running-over (Faulted kind) h k = cc

waiting-runs-not : (x : ProcessStanding) (n : ℕ) → waits_for n x ≡ true → is_running x ≡ false
waiting-runs-not Running n h = cc
waiting-runs-not (AtSelect alts asked) n h = refl
waiting-runs-not (AtDelay deadline) n h = refl
waiting-runs-not (AtCall call) n h = refl
waiting-runs-not Ended n h = cc
waiting-runs-not (Faulted kind) n h = cc

waiting-over-not : (x : ProcessStanding) (n : ℕ) → waits_for n x ≡ true → is_over x ≡ false
waiting-over-not Running n h = cc
waiting-over-not (AtSelect alts asked) n h = refl
waiting-over-not (AtDelay deadline) n h = refl
waiting-over-not (AtCall call) n h = refl
waiting-over-not Ended n h = cc
waiting-over-not (Faulted kind) n h = cc

both : (b : Bool) → b ≡ true → b ≡ false → ⊥
both true h k = cc
both false h k = cc

module _ {P : Type 0} (located : P → ℕ → List ℤ → List Grant → Type 0) where
  pub Seated-length : (qs : List Process) (seats : List (Seat P)) → Seated located qs seats → length qs ≡ length seats
  Seated-length [] [] h = refl
  Seated-length (q ∷ qs) (seat ∷ seats) h = ap suc (Seated-length qs seats h.1)
  Seated-length [] (seat ∷ seats) h = absurd h
  Seated-length (q ∷ qs) [] h = absurd h

  pub Seated-at :
      (qs : List Process) (seats : List (Seat P)) (i : ℕ)
      → i < length seats
      → Seated located qs seats
      → SeatFits located (process_at qs i) (seat_at seats i)
  Seated-at [] [] i lt h = absurd (omega arith)
  Seated-at (q ∷ qs) (seat ∷ seats) zero lt h = h.0
  Seated-at (q ∷ qs) (seat ∷ seats) (suc i) lt h = Seated-at qs seats i (omega arith) h.1
  Seated-at [] (seat ∷ seats) i lt h = absurd h
  Seated-at (q ∷ qs) [] i lt h = absurd h

  pub Seated-set :
      (qs : List Process) (seats : List (Seat P)) (i : ℕ) (q : Process) (seat : Seat P)
      → Seated located qs seats
      → SeatFits located q seat
      → Seated located (set qs i q) (set seats i seat)
  Seated-set [] [] i q seat h k = tt
  Seated-set (r ∷ qs) (t ∷ seats) zero q seat h k = (k, h.1)
  Seated-set (r ∷ qs) (t ∷ seats) (suc i) q seat h k = (h.0, Seated-set qs seats i q seat h.1 k)
  Seated-set [] (t ∷ seats) i q seat h k = absurd h
  Seated-set (r ∷ qs) [] i q seat h k = absurd h

  pub Seated-push :
      (qs : List Process) (seats : List (Seat P)) (q : Process) (seat : Seat P)
      → Seated located qs seats
      → SeatFits located q seat
      → Seated located (qs ++ q ∷ []) (seats ++ seat ∷ [])
  Seated-push [] [] q seat h k = (k, tt)
  Seated-push (r ∷ qs) (t ∷ seats) q seat h k = (h.0, Seated-push qs seats q seat h.1 k)
  Seated-push [] (t ∷ seats) q seat h k = absurd h
  Seated-push (r ∷ qs) [] q seat h k = absurd h

  -- a seat stands as its process does, also where there is none
  pub same-standing :
      (qs : List Process) (seats : List (Seat P)) (i : ℕ)
      → Seated located qs seats
      → (seat_at seats i).standing ≡ (process_at qs i).standing
  same-standing [] [] i h = refl
  same-standing (q ∷ qs) (seat ∷ seats) zero h = h.0.standing
  same-standing (q ∷ qs) (seat ∷ seats) (suc i) h = same-standing qs seats i h.1
  same-standing [] (seat ∷ seats) i h = absurd h
  same-standing (q ∷ qs) [] i h = absurd h

  pub numbered-at : (qs : List Process) (seats : List (Seat P)) (i : ℕ) → Seated located qs seats → AreNumbered (process_at qs i).standing
  numbered-at [] [] i h = tt
  numbered-at (q ∷ qs) (seat ∷ seats) zero h = h.0.numbered
  numbered-at (q ∷ qs) (seat ∷ seats) (suc i) h = numbered-at qs seats i h.1
  numbered-at [] (seat ∷ seats) i h = absurd h
  numbered-at (q ∷ qs) [] i h = absurd h

  -- a process that is here and goes on; what it serves does not matter
  pub Seated-ready :
      (qs : List Process) (seats : List (Seat P)) (i : ℕ) (process : P) (grant : Grant) (serving : List TransactionCall)
      → Seated located qs seats
      → located process (process_at qs i).kind (process_at qs i).args (process_at qs i).grants
      → Seated located
      (set qs i (record (granted (process_at qs i) grant) { serving = serving }))
      (set seats i (with_ready process grant))
  Seated-ready qs seats i process grant serving h is =
      Seated-set qs seats i (record (granted (process_at qs i) grant) { serving = serving }) (with_ready process grant) h
      (record { standing = refl; whereabouts = (refl, ((process_at qs i).grants, refl, is)); numbered = tt })

  -- a process that waits
  pub Seated-waiting :
      (qs : List Process) (seats : List (Seat P)) (i : ℕ) (process : P) (standing : ProcessStanding)
      → Seated located qs seats
      → (is_over standing ≡ false) × (is_running standing ≡ false) × AreNumbered standing
      → located process (process_at qs i).kind (process_at qs i).args (process_at qs i).grants
      → Seated located (with_standing qs i standing) (set seats i (with_waiting process standing))
  Seated-waiting qs seats i process standing h w is =
      Seated-set qs seats i (record (process_at qs i) { standing = standing }) (with_waiting process standing) h
      (record { standing = refl; whereabouts = (w.0, w.1, is); numbered = w.2 })

  -- a process that is over
  pub Seated-left :
      (qs : List Process) (seats : List (Seat P)) (i : ℕ) (standing : ProcessStanding)
      → Seated located qs seats
      → (is_over standing ≡ true) × AreNumbered standing
      → Seated located (set qs i (record (process_at qs i) { standing = standing; serving = [] })) (set seats i (with_left standing))
  Seated-left qs seats i standing h w =
      Seated-set qs seats i (record (process_at qs i) { standing = standing; serving = [] }) (with_left standing) h
      (record { standing = refl; whereabouts = w.0; numbered = w.1 })

  -- a process that goes out
  pub Seated-out :
      (qs : List Process) (seats : List (Seat P)) (i : ℕ)
      → i < length seats
      → is_running (process_at qs i).standing ≡ true
      → Seated located qs seats
      → Seated located (set qs i (process_at qs i)) (set seats i (with_out (seat_at seats i)))
  Seated-out qs seats i lt r h =
      let fits = Seated-at qs seats i lt h in
      Seated-set qs seats i (process_at qs i) (with_out (seat_at seats i)) h
      (record { standing = fits.standing; whereabouts = r; numbered = fits.numbered })

  out-running-place : (q : Process) (x : Whereabouts P) → WhereaboutsFit located q x → whereabouts_out x ≡ true → is_running q.standing ≡ true
  out-running-place q (Ready process grant) h e = h.0
  out-running-place q Out h e = h
  out-running-place q (Waits process) h e = cc
  out-running-place q Left h e = cc

  -- a process that is out is running
  pub out-running : (q : Process) (seat : Seat P) → SeatFits located q seat → is_out seat ≡ true → is_running q.standing ≡ true
  out-running q seat h e = out-running-place q seat.whereabouts h.whereabouts e

  running-out-place :
      (q : Process) (x : Whereabouts P)
      → WhereaboutsFit located q x
      → is_running q.standing ≡ true
      → whereabouts_ready x ≡ false
      → whereabouts_out x ≡ true
  running-out-place q (Ready process grant) h r e = cc
  running-out-place q Out h r e = refl
  running-out-place q (Waits process) h r e = absurd (both (is_running q.standing) r h.1)
  running-out-place q Left h r e = absurd (running-over q.standing r h)

  ready-place :
      (q : Process) (x : Whereabouts P) (process : P) (grant : Grant)
      → WhereaboutsFit located q x
      → x ≡ Ready process grant
      → WhereaboutsFit located q (Ready process grant)
  ready-place q x process grant h e = rw e at h

  -- a process that is ready is where the program left it before its last grant
  pub ready-at :
      (q : Process) (seat : Seat P) (process : P) (grant : Grant)
      → SeatFits located q seat
      → seat.whereabouts ≡ Ready process grant
      → IsReady located q process grant
  ready-at q seat process grant h e = ready-place q seat.whereabouts process grant h.whereabouts e

  -- where none is ready, each process that is running is out
  pub all-out :
      (qs : List Process) (seats : List (Seat P))
      → Seated located qs seats
      → ((i : ℕ) → is_ready (seat_at seats i) ≡ false)
      → (i : ℕ)
      → is_running (process_at qs i).standing ≡ true
      → is_out_in (map is_out seats) i ≡ true
  all-out [] [] h none i r = cc
  all-out (q ∷ qs) (seat ∷ seats) h none zero r = running-out-place q seat.whereabouts h.0.whereabouts r (none zero)
  all-out (q ∷ qs) (seat ∷ seats) h none (suc i) r = all-out qs seats h.1 (λ k. none (suc k)) i r
  all-out [] (seat ∷ seats) h none i r = absurd h
  all-out (q ∷ qs) [] h none i r = absurd h

  woken-fits-place :
      (q : Process) (x : Whereabouts P) (grant : Grant)
      → is_running q.standing ≡ false
      → is_over q.standing ≡ false
      → WhereaboutsFit located q x
      → WhereaboutsFit located (granted q grant) (whereabouts_woken x grant)
  woken-fits-place q (Ready process old) grant r o h = absurd (both (is_running q.standing) h.0 r)
  woken-fits-place q Out grant r o h = refl
  woken-fits-place q (Waits process) grant r o h = (refl, (q.grants, refl, h.2))
  woken-fits-place q Left grant r o h = absurd (both (is_over q.standing) h o)

  -- a process that waited goes on; what it serves does not matter
  pub woken-fits :
      (q : Process) (seat : Seat P) (grant : Grant) (serving : List TransactionCall)
      → is_running q.standing ≡ false
      → is_over q.standing ≡ false
      → SeatFits located q seat
      → SeatFits located (record (granted q grant) { serving = serving }) (woken seat grant)
  woken-fits q seat grant serving r o h =
      record { standing = refl; whereabouts = served-place (whereabouts_woken seat.whereabouts grant) (woken-fits-place q seat.whereabouts grant r o h.whereabouts); numbered = tt }
    where
      served-place :
          (x : Whereabouts P)
          → WhereaboutsFit located (granted q grant) x
          → WhereaboutsFit located (record (granted q grant) { serving = serving }) x
      served-place (Ready process old) k = k
      served-place Out k = k
      served-place (Waits process) k = k
      served-place Left k = k

  -- where a process waits, there is a seat
  pub waits-within : (seats : List (Seat P)) (i n : ℕ) → waits_for n (seat_at seats i).standing ≡ true → i < length seats
  waits-within [] i n h = cc
  waits-within (seat ∷ seats) zero n h = omega arith
  waits-within (seat ∷ seats) (suc i) n h = let r = waits-within seats i n h in omega arith

  answered-if :
      (qs : List Process) (seats : List (Seat P)) (caller n : ℕ) (grant : Grant) (b : Bool)
      → waits_for n (seat_at seats caller).standing ≡ b
      → Seated located qs seats
      → Seated located
      (if b then grant_to qs caller grant else qs)
      (if b then set seats caller (woken (seat_at seats caller) grant) else seats)
  answered-if qs seats caller n grant true e h =
      let stands = sym (same-standing qs seats caller h) in
      let waits : waits_for n (process_at qs caller).standing ≡ true = ap (waits_for n) stands ∙ e in
      Seated-set qs seats caller (granted (process_at qs caller) grant) (woken (seat_at seats caller) grant) h
      (woken-fits (process_at qs caller) (seat_at seats caller) grant (process_at qs caller).serving
      (waiting-runs-not (process_at qs caller).standing n waits)
      (waiting-over-not (process_at qs caller).standing n waits)
      (Seated-at qs seats caller (waits-within seats caller n e) h))
  answered-if qs seats caller n grant false e h = h

  answered-by :
      (qs : List Process) (seats : List (Seat P)) (n : ℕ) (grant : Grant) (o : Option Pid)
      → Seated located qs seats
      → Seated located
      (option_map_or (λ (caller : Pid). if waits_for n (process_at qs caller.0).standing then grant_to qs caller.0 grant else qs) o qs)
      (option_map_or (λ (caller : Pid). if waits_for n (seat_at seats caller.0).standing then set seats caller.0 (woken (seat_at seats caller.0) grant) else seats) o seats)
  answered-by qs seats n grant None h = h
  answered-by qs seats n grant (Some caller) h =
      rw (← same-standing qs seats caller.0 h)
      (answered-if qs seats caller.0 n grant (waits_for n (seat_at seats caller.0).standing) refl h)

  -- the caller of a call goes on, in the state and in the seats
  pub Seated-answered :
      (qs : List Process) (seats : List (Seat P)) (call : TransactionCall) (grant : Grant)
      → Seated located qs seats
      → Seated located (answered qs call grant) (answered_seats seats (served_call call) grant)
  Seated-answered qs seats call grant h = answered-by qs seats call.number.0 grant (caller_of call.waiting) h

  pub Seated-gone :
      (qs : List Process) (seats : List (Seat P)) (calls : List TransactionCall)
      → Seated located qs seats
      → Seated located (each_gets_gone qs calls) (gone_seats seats (map served_call calls))
  Seated-gone qs seats [] h = h
  Seated-gone qs seats (call ∷ calls) h =
      Seated-gone (answered qs call Gone) (answered_seats seats (served_call call) Gone) calls (Seated-answered qs seats call Gone h)
