-- The seats of the processes, and the calls that they serve, as lists.
use Rattle.std.specs.Prelude.{ℕ, ◌+◌, Bool, true, false, List, [], ◌∷◌, ◌++◌, count_by, get_or, set, if◌then◌else◌}
use Rattle.std.specs.Option.{option_map_or}
use Rattle.cc_base.specs.declared.names.FaultKind.{FaultKind}
use Rattle.cc_base.specs.declared.names.Pid.{Pid}
use Rattle.cc_base.specs.declared.request.Grant.{Grant}
use Rattle.cc_base.specs.declared.request.Grant.TheVariants.{Gone}
use Rattle.cc_kernel.specs.declared.seat.Whereabouts.{Whereabouts}
use Rattle.cc_kernel.specs.declared.seat.Whereabouts.TheVariants.{Ready, Out, Waits, Left}
use Rattle.cc_kernel.specs.declared.seat.Seat.{Seat}
use Rattle.cc_kernel.specs.declared.served.ServedCall.{ServedCall}
use Rattle.cc_rules.specs.Effects.{caller_of, waits_for}
use Rattle.cc_rules.specs.Faulted.{fault_of}
use Rattle.cc_rules.specs.declared.process.ProcessStanding.{ProcessStanding}
use Rattle.cc_rules.specs.declared.process.ProcessStanding.TheVariants.{Running, AtSelect, AtDelay, AtCall, Ended, Faulted}
use Rattle.cc_rules.specs.declared.process.TransactionCall.{TransactionCall}
use Rattle.cc_rules.specs.declared.process.Waiting.TheVariants.{Nobody}

-- the call without its target and its arguments
abbrev pub served_call : TransactionCall → ServedCall
served_call call = record { number = call.number; trans = call.trans; waiting = call.waiting }

-- what stands for a call where there is none
abbrev pub no_call : TransactionCall
no_call = record { number = record { 0 = 0 }; target = record { 0 = 0 }; trans = 0; args = []; waiting = Nobody }

-- it waits for an alternative
abbrev pub is_at_select : ProcessStanding → Bool
is_at_select Running = false
is_at_select (AtSelect alts asked) = true
is_at_select (AtDelay deadline) = false
is_at_select (AtCall call) = false
is_at_select Ended = false
is_at_select (Faulted kind) = false

module _ {P : Type 0} where
  -- what stands for the seat of a process that was never made
  abbrev pub vacant : Seat P
  vacant = record { standing = Ended; whereabouts = Left }

  abbrev pub seat_at : List (Seat P) → ℕ → Seat P
  seat_at seats p = get_or seats p vacant

  abbrev pub whereabouts_out : Whereabouts P → Bool
  whereabouts_out (Ready process grant) = false
  whereabouts_out Out = true
  whereabouts_out (Waits process) = false
  whereabouts_out Left = false

  -- the process is out
  abbrev pub is_out : Seat P → Bool
  is_out seat = whereabouts_out seat.whereabouts

  abbrev pub whereabouts_ready : Whereabouts P → Bool
  whereabouts_ready (Ready process grant) = true
  whereabouts_ready Out = false
  whereabouts_ready (Waits process) = false
  whereabouts_ready Left = false

  -- the process is here and may go on
  abbrev pub is_ready : Seat P → Bool
  is_ready seat = whereabouts_ready seat.whereabouts

  abbrev pub with_ready : P → Grant → Seat P
  with_ready process grant = record { standing = Running; whereabouts = Ready process grant }

  abbrev pub with_out : Seat P → Seat P
  with_out seat = record { standing = seat.standing; whereabouts = Out }

  abbrev pub with_waiting : P → ProcessStanding → Seat P
  with_waiting process standing = record { standing = standing; whereabouts = Waits process }

  abbrev pub with_left : ProcessStanding → Seat P
  with_left standing = record { standing = standing; whereabouts = Left }

  abbrev pub whereabouts_woken : Whereabouts P → Grant → Whereabouts P
  whereabouts_woken (Ready process old) grant = Ready process old
  whereabouts_woken Out grant = Out
  whereabouts_woken (Waits process) grant = Ready process grant
  whereabouts_woken Left grant = Left

  -- how many processes wait at a select
  abbrev pub count_selecting : List (Seat P) → ℕ
  count_selecting seats = count_by (λ seat. is_at_select seat.standing) seats

  -- a process that waits goes on with this grant
  abbrev pub woken : Seat P → Grant → Seat P
  woken seat grant = record { standing = Running; whereabouts = whereabouts_woken seat.whereabouts grant }

  -- the caller of this call, where one waits, goes on with this grant
  abbrev pub answered_seats : List (Seat P) → ServedCall → Grant → List (Seat P)
  answered_seats seats call grant =
      option_map_or
      (λ caller. if waits_for call.number.0 (seat_at seats caller.0).standing then set seats caller.0 (woken (seat_at seats caller.0) grant) else seats)
      (caller_of call.waiting)
      seats

  -- the caller of each of these calls, where one waits, goes on with Gone
  abbrev pub gone_seats : List (Seat P) → List ServedCall → List (Seat P)
  gone_seats seats [] = seats
  gone_seats seats (call ∷ calls) = gone_seats (answered_seats seats call Gone) calls

-- the faults of the processes in these seats, of which the first has this number
abbrev pub seat_faults : {P : Type 0} → ℕ → List (Seat P) → List (Pid × FaultKind)
seat_faults p [] = []
seat_faults p (seat ∷ seats) = fault_of p seat.standing ++ seat_faults (p + 1) seats
