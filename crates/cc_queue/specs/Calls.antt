-- The pending calls.
use Rattle.std.specs.Prelude.{ℕ, ℤ, ◌<◌, List, [], ◌∷◌, Option, find, nat_eq}
use Rattle.cc_base.specs.declared.names.CallId.{CallId}
use Rattle.cc_base.specs.declared.names.Pid.{Pid}
use Rattle.cc_queue.specs.declared.call.PendingCall.{PendingCall}

-- the pending calls in the order asked, and for how many more there is room
pub record CallList : Type 0 where
  pub calls : List PendingCall
  pub spare : ℕ

-- the call of this number at this target, of this transaction and with these arguments
abbrev pub pending_call : CallId → Pid → ℕ → List ℤ → PendingCall
pending_call number target trans args = record { number = number; target = target; trans = trans; args = args }

-- the pending call of this number
abbrev pub call_numbered : List PendingCall → ℕ → Option PendingCall
call_numbered calls number = find (λ c. nat_eq c.number.0 number) calls

-- the call's number is below those of all these
abbrev pub IsBelow : PendingCall → List PendingCall → Type 0
IsBelow call [] = Unit {0}
IsBelow call (c ∷ cs) = (call.number.0 < c.number.0) × IsBelow call cs

-- the numbers of the calls rise from each to the next, so no two calls have one number
abbrev pub AreRising : List PendingCall → Type 0
AreRising [] = Unit {0}
AreRising (c ∷ cs) = IsBelow c cs × AreRising cs
