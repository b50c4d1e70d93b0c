-- The deadlines that stand, as the kernel keeps them: each is that of a process, or of a pending call.
use Rattle.std.specs.Prelude.{◌≡◌, ℕ, Bool, true, false, ◌&&◌, if◌then◌else◌, List, Option, Some, None, nat_eq}
use Rattle.std.specs.List.{list_any}
use Rattle.std.specs.Option.{option_map_or}
use Rattle.cc_base.specs.declared.names.Pid.{Pid}
use Rattle.cc_kernel.specs.Contract.{least_of}
use Rattle.cc_kernel.specs.Seats.{seat_at}
use Rattle.cc_kernel.specs.declared.seat.Seat.{Seat}
use Rattle.cc_rules.specs.Choice.{call_deadline, call_numbered}
use Rattle.cc_rules.specs.Standing.{deadlines_of}
use Rattle.cc_rules.specs.declared.event.Standing.{Standing}
use Rattle.cc_rules.specs.declared.event.Standing.TheVariants.{Idle, Stuck, Spent}
use Rattle.cc_rules.specs.declared.process.ProcessStanding.{ProcessStanding}
use Rattle.cc_rules.specs.declared.process.TransactionCall.{TransactionCall}
use Rattle.cc_timer.specs.Deadlines.{with_deadline, without_deadline}
use Rattle.cc_timer.specs.declared.who.Who.{Who}
use Rattle.cc_timer.specs.declared.who.Who.TheVariants as who

-- the deadlines that are kept, and for how many more there is room
pub record DeadlineList : Type 0 where
  pub pairs : List (ℕ × Who)
  pub spare : ℕ

-- the deadline of a process that stands so
abbrev pub deadline_of : ProcessStanding → Option ℕ
deadline_of standing = least_of (deadlines_of standing)

-- the deadline of the pending call of this number
abbrev pub call_due : List TransactionCall → ℕ → Option ℕ
call_due calls c = option_map_or (λ call. call_deadline call.waiting) (call_numbered calls c) None

module _ {P : Type 0} where
  -- the deadline of this process, or of this pending call
  abbrev pub deadline_for : List (Seat P) → List TransactionCall → Who → Option ℕ
  deadline_for seats calls (who.Process p) = deadline_of (seat_at seats p.0).standing
  deadline_for seats calls (who.Call c) = call_due calls c.0

-- one deadline more, where there is one
abbrev pub with_some : Option ℕ → Who → List (ℕ × Who) → List (ℕ × Who)
with_some None w ds = ds
with_some (Some moment) w ds = with_deadline (moment, w) ds

-- the deadlines but for this one, where there is one
abbrev pub without_some : Option ℕ → Who → List (ℕ × Who) → List (ℕ × Who)
without_some None w ds = ds
without_some (Some moment) w ds = without_deadline (moment, w) ds

abbrev pub is_same_who : Who → Who → Bool
is_same_who (who.Process p) (who.Process q) = nat_eq p.0 q.0
is_same_who (who.Process p) (who.Call c) = false
is_same_who (who.Call c) (who.Process p) = false
is_same_who (who.Call c) (who.Call d) = nat_eq c.0 d.0

-- it is this moment, for the same one
abbrev pub is_same : ℕ → Who → ℕ × Who → Bool
is_same moment w d = nat_eq moment d.0 && is_same_who w d.1

-- this deadline is one of these
abbrev pub stands_in : List (ℕ × Who) → ℕ → Who → Bool
stands_in ds moment w = list_any (is_same moment w) ds

-- the moment is this deadline
abbrev pub is_moment : ℕ → Option ℕ → Bool
is_moment moment None = false
is_moment moment (Some deadline) = nat_eq moment deadline

-- these are the deadlines of the processes in these seats and of these pending calls, and no others
abbrev pub AreDeadlines : {P : Type 0} → List (Seat P) → List TransactionCall → List (ℕ × Who) → Type 0
AreDeadlines seats calls ds = (moment : ℕ) (w : Who) → stands_in ds moment w ≡ is_moment moment (deadline_for seats calls w)

-- the deadline of this process stands, where it has one
abbrev pub DeadlineStands : {P : Type 0} → List (Seat P) → List (ℕ × Who) → Pid → Type 0
DeadlineStands seats ds p = (moment : ℕ) → deadline_of (seat_at seats p.0).standing ≡ Some moment → stands_in ds moment (who.Process p) ≡ true

-- how a run stands in which no process is running and not all are over, where this is the least deadline, and the turns may be
-- used up
abbrev pub resting_standing : Bool → Option ℕ → Standing
resting_standing spent None = Stuck
resting_standing spent (Some until) = if spent then Spent else Idle until
