-- Who can take nothing, and for whom an Ask may change that.
use Rattle.std.specs.Prelude.{◌≡◌, ◌≢◌, ℕ, false, true, List, Option, Some, None}
use Rattle.std.specs.Option.{option_map_or}
use Rattle.cc_base.specs.Alternatives.{numbered}
use Rattle.cc_base.specs.Meaning.{Meaning}
use Rattle.cc_base.specs.declared.names.Pid.{Pid}
use Rattle.cc_base.specs.declared.request.Request.{Request}
use Rattle.cc_base.specs.declared.request.Request.TheVariants.{Pause, Create, Call, TimedCall, Send, Select, Delay, Reply, Print, Get, Done, Fault}
use Rattle.cc_kernel.specs.Choice.{eligible_for, goes_at_once, some_immediate}
use Rattle.cc_kernel.specs.declared.choice.Taking.{Taking}
use Rattle.cc_kernel.specs.declared.choice.Taking.TheVariants as taking
use Rattle.cc_kernel.specs.Seats.{seat_at}
use Rattle.cc_kernel.specs.Store.{Contents}
use Rattle.cc_rules.specs.Choice.{call_numbered, is_chosen}
use Rattle.cc_rules.specs.State.{open_alternatives}
use Rattle.cc_rules.specs.declared.process.ProcessStanding.{ProcessStanding}
use Rattle.cc_rules.specs.declared.process.TransactionCall.{TransactionCall}

-- p, which stands so, can take nothing: no call is eligible for one of its open alternatives, and none of them is immediate
abbrev pub RestsSo : Meaning → ℕ → ProcessStanding → List TransactionCall → Type 0
RestsSo m p standing calls = (eligible_for m p standing calls ≡ false) × (some_immediate standing ≡ false)

-- whom what this process asks may let take something
abbrev pub roused_by : Pid → Request → Option Pid
roused_by p Pause = None
roused_by p (Create kind args) = None
roused_by p (Call target trans args) = Some target
roused_by p (TimedCall target trans args wait) = Some target
roused_by p (Send target trans args) = Some target
roused_by p (Select alts) = Some p
roused_by p (Delay wait) = None
roused_by p (Reply value) = None
roused_by p (Print bytes) = None
roused_by p Get = None
roused_by p Done = None
roused_by p (Fault kind) = None

module _ {P : Type 0} where
  -- the process can take nothing
  abbrev pub RestsAt : Meaning → Contents P → ℕ → Type 0
  RestsAt m x p = RestsSo m p (seat_at x.seats p).standing x.pending

  -- no process can take anything
  abbrev pub AllRest : Meaning → Contents P → Type 0
  AllRest m x = (p : ℕ) → RestsAt m x p

  -- none but this one, where there is one, can take anything
  abbrev pub RestBut : Meaning → Contents P → Option Pid → Type 0
  RestBut m x None = AllRest m x
  RestBut m x (Some q) = (p : ℕ) → p ≢ q.0 → RestsAt m x p

-- p, which stands so, can take this
abbrev pub CanTake : Meaning → ℕ → ProcessStanding → List TransactionCall → Taking → Type 0
CanTake m p standing calls (taking.Call alt number) =
    (call : TransactionCall)
    × (call_numbered calls number.0 ≡ Some call)
    × (option_map_or (λ a. is_chosen m p a calls call) (numbered (open_alternatives standing) alt) false ≡ true)
CanTake m p standing calls (taking.AtOnce alt) = goes_at_once m p standing calls alt ≡ true
