-- What the seats keep beside them: how many processes stand how, and who is ready, in the order in which they became so.
use Rattle.std.specs.Prelude.{◌≡◌, ℕ, ◌≤◌, ◌+◌, Bool, true, false, ◌&&◌, ◌||◌, List, length, count_by, nat_eq, if◌then◌else◌}
use Rattle.std.specs.List.{list_all, list_any}
use Rattle.cc_base.specs.Limits.{most_processes}
use Rattle.cc_kernel.specs.Seats.{is_ready, seat_at, with_left}
use Rattle.cc_kernel.specs.declared.counts.Counts.{Counts}
use Rattle.cc_kernel.specs.declared.seat.Seat.{Seat}
use Rattle.cc_kernel.specs.declared.seat.Whereabouts.{Whereabouts}
use Rattle.cc_kernel.specs.declared.seat.Whereabouts.TheVariants.{Ready, Out, Waits, Left}
use Rattle.cc_rules.specs.Choice.{is_terminate}
use Rattle.cc_rules.specs.State.{is_faulted, is_over, is_running, open_alternatives}
use Rattle.cc_rules.specs.declared.process.ProcessStanding.{ProcessStanding}
use Rattle.cc_rules.specs.declared.process.ProcessStanding.TheVariants.{Ended}

-- `terminate` is one of its open alternatives
abbrev pub may_terminate : ProcessStanding → Bool
may_terminate standing = list_any (λ a. is_terminate a.1) (open_alternatives standing)

-- a process that stands so waits: it is neither running nor over
abbrev pub IsWaiting : ProcessStanding → Type 0
IsWaiting standing = (is_running standing ≡ false) × (is_over standing ≡ false)

-- one, where the test holds
abbrev pub one_where : Bool → ℕ
one_where b = if b then 1 else 0

-- each count is that of processes that may stand so, and there are not too many
pub record Covers (standing : ProcessStanding) (counts : Counts) : Type 0 where
  pub running : one_where (is_running standing) ≤ counts.running
  pub over : one_where (is_over standing) ≤ counts.over
  pub faulted : one_where (is_faulted standing) ≤ counts.faulted
  pub terminating : one_where (may_terminate standing) ≤ counts.terminating
  pub few_running : counts.running ≤ most_processes
  pub few_over : counts.over ≤ most_processes
  pub few_faulted : counts.faulted ≤ most_processes
  pub few_terminating : counts.terminating ≤ most_processes

-- a process that stood so stands so from now on
pub record HasMoved (from to : ProcessStanding) (old new : Counts) : Type 0 where
  pub running : new.running + one_where (is_running from) ≡ old.running + one_where (is_running to)
  pub over : new.over + one_where (is_over from) ≡ old.over + one_where (is_over to)
  pub faulted : new.faulted + one_where (is_faulted from) ≡ old.faulted + one_where (is_faulted to)
  pub terminating : new.terminating + one_where (may_terminate from) ≡ old.terminating + one_where (may_terminate to)

module _ {P : Type 0} where
  -- so many seats are of processes that stand so
  abbrev pub how_many : (ProcessStanding → Bool) → List (Seat P) → ℕ
  how_many test seats = count_by (λ seat. test seat.standing) seats

  -- the counts are those of these seats
  pub record AreCounted (seats : List (Seat P)) (counts : Counts) : Type 0 where
    pub running : counts.running ≡ how_many is_running seats
    pub over : counts.over ≡ how_many is_over seats
    pub faulted : counts.faulted ≡ how_many is_faulted seats
    pub terminating : counts.terminating ≡ how_many may_terminate seats

  -- a process that stands so may be there: here or out where it is running, here where it waits, nowhere where it is over
  abbrev pub Agrees : ProcessStanding → Whereabouts P → Type 0
  Agrees standing (Ready process grant) = is_running standing ≡ true
  Agrees standing Out = is_running standing ≡ true
  Agrees standing (Waits process) = IsWaiting standing
  Agrees standing Left = is_over standing ≡ true

  -- each process that is ready stands once in the list of those that are ready, and no other stands there
  pub record AreListed (seats : List (Seat P)) (ready : List ℕ) : Type 0 where
    pub once : (i : ℕ) → count_by (nat_eq i) ready ≡ one_where (is_ready (seat_at seats i))
    pub all : length ready ≡ count_by is_ready seats

  -- the seats are kept: none is of a process that is where it can't be; the counts and the list of those that are ready are
  -- those of the seats; and there is room for so many more seats
  pub record AreKept (seats : List (Seat P)) (counts : Counts) (ready : List ℕ) (spare seats_room ready_room : ℕ) : Type 0 where
    pub few : length seats ≤ most_processes
    pub agree : (i : ℕ) → Agrees (seat_at seats i).standing (seat_at seats i).whereabouts
    pub counted : AreCounted seats counts
    pub listed : AreListed seats ready
    pub room : length seats + spare ≤ seats_room
    pub list_room : length seats + spare ≤ ready_room

  -- each process is over or has `terminate` among its alternatives, and at least one has
  abbrev pub all_may_end : List (Seat P) → Bool
  all_may_end seats =
      list_all (λ seat. is_over seat.standing || may_terminate seat.standing) seats
      && list_any (λ seat. may_terminate seat.standing) seats

  -- a seat with its number, where whoever has `terminate` among its alternatives has ended
  abbrev pub ended_seat : ℕ × Seat P → Seat P
  ended_seat e = if may_terminate e.1.standing then with_left Ended else e.1
