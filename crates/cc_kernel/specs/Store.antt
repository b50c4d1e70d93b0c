-- What the kernel keeps of a state, and when it is the state that the machine is in.
use Rattle.std.specs.Prelude.{◌≡◌, ℕ, ◌+◌, ◌≤◌, ℤ, true, false, not, List, [], ◌∷◌, ◌++◌, length, drop, map, nat_eq, nat_lt, set, slice_get, if◌then◌else◌}
use Rattle.std.specs.List.{enumerate_from, filter}
use Rattle.cc_base.specs.Alternatives.{NumbersRise}
use Rattle.cc_base.specs.Meaning.{Meaning}
use Rattle.cc_base.specs.declared.names.Pid.{Pid}
use Rattle.cc_base.specs.declared.request.Grant.{Grant}
use Rattle.cc_base.specs.declared.request.Grant.TheVariants.{Go, Made, Late, Took, Chose, Byte}
use Rattle.cc_kernel.specs.Choice.{after_end, seat_waits}
use Rattle.cc_kernel.specs.Seats.{answered_seats, gone_seats, seat_at, served_call, with_left, with_ready, with_waiting, woken}
use Rattle.cc_kernel.specs.Stacks.{none_served, one_more, served_by}
use Rattle.cc_kernel.specs.declared.store.Store.{Store}
use Rattle.cc_kernel.specs.declared.seat.Whereabouts.{Whereabouts}
use Rattle.cc_kernel.specs.declared.seat.Whereabouts.TheVariants.{Ready, Out, Waits, Left}
use Rattle.cc_kernel.specs.declared.seat.Seat.{Seat}
use Rattle.cc_kernel.specs.declared.served.ServedCall.{ServedCall}
use Rattle.cc_base.specs.Limits.{most_processes}
use Rattle.cc_kernel.specs.Timed.{AreDeadlines, deadline_of, with_some, without_some}
use Rattle.cc_rules.specs.Choice.{call_deadline}
use Rattle.cc_rules.specs.Effects.{deadline_after, is_for}
use Rattle.cc_rules.specs.Events.{expiry_grant}
use Rattle.cc_rules.specs.State.{Process, State, is_over, is_running, process_at}
use Rattle.cc_rules.specs.declared.process.ProcessStanding.{ProcessStanding}
use Rattle.cc_rules.specs.declared.process.ProcessStanding.TheVariants.{Running, AtSelect, AtDelay, AtCall, Ended, Faulted}
use Rattle.cc_rules.specs.declared.process.TransactionCall.{TransactionCall}
use Rattle.cc_rules.specs.declared.process.Waiting.{Waiting}
use Rattle.cc_rules.specs.declared.process.Waiting.TheVariants.{Nobody}
use Rattle.cc_timer.specs.declared.who.Who.{Who}
use Rattle.cc_timer.specs.declared.who.Who.TheVariants as who

-- what is kept, as lists and numbers
pub record Contents (P : Type 0) : Type 0 where
  pub seats : List (Seat P)
  pub pending : List TransactionCall
  -- by the process that serves them, in the order accepted
  pub served : ℕ → List ServedCall
  pub drawn : ℕ
  -- the whole input, and how much of it was taken
  pub input : List ℕ
  pub taken : ℕ
  pub moment : ℕ
  -- in the order in which they are due
  pub deadlines : List (ℕ × Who)

module _ {P : Type 0} where
  abbrev pub contents : Store P → Contents P
  contents store =
      record {
        seats = store.seats.items;
        pending = store.pending.items;
        served = served_by store.served;
        drawn = store.drawn;
        input = store.input;
        taken = store.taken;
        moment = store.moment;
        deadlines = store.deadlines.pairs;
      }

  -- p goes on with this grant
  abbrev pub went_on : Contents P → ℕ → P → Grant → Contents P
  went_on x p process grant = record x { seats = set x.seats p (with_ready process grant) }

  -- p waits, until its deadline where it has one
  abbrev pub waited : Contents P → Pid → P → ProcessStanding → Contents P
  waited x p process standing =
      record x {
        seats = set x.seats p.0 (with_waiting process standing);
        deadlines = with_some (deadline_of standing) (who.Process p) x.deadlines;
      }

  -- p waits until the wait is over
  abbrev pub delayed_contents : Contents P → Pid → P → ℤ → Contents P
  delayed_contents x p process wait = waited x p process (AtDelay (deadline_after x.moment wait))

  -- p, which waits, goes on with this grant
  abbrev pub woken_contents : Contents P → Pid → Grant → Contents P
  woken_contents x p grant =
      record x {
        seats = set x.seats p.0 (woken (seat_at x.seats p.0) grant);
        deadlines = without_some (deadline_of (seat_at x.seats p.0).standing) (who.Process p) x.deadlines;
      }

  -- p has waited until its deadline, and expires by this number
  abbrev pub expired_contents : Contents P → Pid → ℕ → Contents P
  expired_contents x p i = woken_contents x p (expiry_grant i (seat_at x.seats p.0).standing)

  -- p waits for a new call, until its deadline where it has one
  abbrev pub called_contents : Contents P → Pid → P → Pid → ℕ → List ℤ → Waiting → Contents P
  called_contents x p process target trans args waiting =
      record x {
        seats = set x.seats p.0 (with_waiting process (AtCall (record { 0 = x.drawn })));
        pending =
            x.pending ++ record { number = record { 0 = x.drawn }; target = target; trans = trans; args = args; waiting = waiting } ∷ [];
        drawn = x.drawn + 1;
        deadlines = with_some (call_deadline waiting) (who.Call (record { 0 = x.drawn })) x.deadlines;
      }

  -- p goes on, and a call for which nobody waits is pending
  abbrev pub sent_contents : Contents P → Pid → P → Pid → ℕ → List ℤ → Contents P
  sent_contents x p process target trans args =
      record x {
        seats = set x.seats p.0 (with_ready process Go);
        pending =
            x.pending ++ record { number = record { 0 = x.drawn }; target = target; trans = trans; args = args; waiting = Nobody } ∷ [];
        drawn = x.drawn + 1;
      }

  -- p is over, and these deadlines are left
  abbrev pub left_contents : Contents P → ℕ → ProcessStanding → List (ℕ × Who) → Contents P
  left_contents x p standing left =
      record x {
        seats =
            gone_seats
            (gone_seats (set x.seats p (with_left standing)) (map served_call (filter (is_for p) x.pending)))
            (x.served p);
        pending = filter (λ call. not (is_for p call)) x.pending;
        served = none_served x.served p;
        deadlines = left;
      }

  -- p made a process
  abbrev pub made_contents : Contents P → ℕ → P → P → Contents P
  made_contents x p process new =
      record x {
        seats = set x.seats p (with_ready process (Made (record { 0 = length x.seats }))) ++ with_ready new Go ∷ [];
      }

  -- p took a byte of the input
  abbrev pub got_byte : Contents P → ℕ → P → Contents P
  got_byte x p process =
      record x {
        seats = set x.seats p (with_ready process (Byte (slice_get x.input x.taken)));
        taken = if nat_lt x.taken (length x.input) then x.taken + 1 else x.taken;
      }

  -- p took its immediate alternative i
  abbrev pub chose_contents : Contents P → Pid → ℕ → Contents P
  chose_contents x p i = woken_contents x p (Chose i)

  -- whoever waits at `terminate` has ended and serves no call, no call is pending and no deadline stands
  abbrev pub ended_contents : Meaning → Contents P → Contents P
  ended_contents m x =
      record x {
        seats = map (after_end m x.seats x.pending) (enumerate_from 0 x.seats);
        pending = [];
        served = λ i. if seat_waits m x.seats x.pending i then [] else x.served i;
        deadlines = [];
      }

  -- this call is pending no more
  abbrev pub taken_contents : Contents P → TransactionCall → Contents P
  taken_contents x call =
      record x {
        pending = filter (λ other. not (nat_eq other.number.0 call.number.0)) x.pending;
        deadlines = without_some (call_deadline call.waiting) (who.Call call.number) x.deadlines;
      }

  -- p serves this call, which was pending: it took it by its alternative i
  abbrev pub accepted_contents : Contents P → Pid → ℕ → TransactionCall → Contents P
  accepted_contents x p i call =
      record (woken_contents (taken_contents x call) p (Took i call.args)) { served = one_more x.served p.0 (served_call call) }

  -- this call was withdrawn, and its caller, where one waits, goes on
  abbrev pub withdrawn_contents : Contents P → TransactionCall → Contents P
  withdrawn_contents x call = record (taken_contents x call) { seats = answered_seats x.seats (served_call call) Late }

-- the alternatives of a process that stands so have rising numbers
abbrev pub AreNumbered : ProcessStanding → Type 0
AreNumbered Running = Unit {0}
AreNumbered (AtSelect alts asked) = NumbersRise alts
AreNumbered (AtDelay deadline) = Unit {0}
AreNumbered (AtCall call) = Unit {0}
AreNumbered Ended = Unit {0}
AreNumbered (Faulted kind) = Unit {0}

-- the numbers of the calls rise from low on, and stay below high
abbrev pub Rising : ℕ → List TransactionCall → ℕ → Type 0
Rising low [] high = low ≤ high
Rising low (call ∷ calls) high = (low ≤ call.number.0) × Rising (call.number.0 + 1) calls high

module _ {P : Type 0} where
  -- the process is running, and the program left it here before its last grant
  abbrev pub IsReady : (P → ℕ → List ℤ → List Grant → Type 0) → Process → P → Grant → Type 0
  IsReady located q process grant =
      (is_running q.standing ≡ true)
      × ((front : List Grant) × (q.grants ≡ front ++ grant ∷ []) × located process q.kind q.args front)

  -- where a process is, given that located tells where the program leaves it
  abbrev pub WhereaboutsFit : (P → ℕ → List ℤ → List Grant → Type 0) → Process → Whereabouts P → Type 0
  WhereaboutsFit located q (Ready process grant) = IsReady located q process grant
  WhereaboutsFit located q Out = is_running q.standing ≡ true
  WhereaboutsFit located q (Waits process) =
      (is_over q.standing ≡ false) × (is_running q.standing ≡ false) × located process q.kind q.args q.grants
  WhereaboutsFit located q Left = is_over q.standing ≡ true

  pub record SeatFits (located : P → ℕ → List ℤ → List Grant → Type 0) (q : Process) (seat : Seat P) : Type 0 where
    pub standing : seat.standing ≡ q.standing
    pub whereabouts : WhereaboutsFit located q seat.whereabouts
    pub numbered : AreNumbered q.standing

  -- the seats hold these processes
  abbrev pub Seated : (P → ℕ → List ℤ → List Grant → Type 0) → List Process → List (Seat P) → Type 0
  Seated located [] [] = Unit {0}
  Seated located (q ∷ qs) (seat ∷ seats) = SeatFits located q seat × Seated located qs seats
  Seated located [] (seat ∷ seats) = ⊥
  Seated located (q ∷ qs) [] = ⊥

  -- the process of this number is where the program leaves it after its grants
  abbrev pub IsLocated : (P → ℕ → List ℤ → List Grant → Type 0) → State → ℕ → P → Type 0
  IsLocated located s p process =
      located process (process_at s.processes p).kind (process_at s.processes p).args (process_at s.processes p).grants

-- what is kept is this state
pub record IsState {P : Type 0} (located : P → ℕ → List ℤ → List Grant → Type 0) (s : State) (x : Contents P) : Type 0 where
  pub seated : Seated located s.processes x.seats
  pub few : length x.seats ≤ most_processes
  pub pending : x.pending ≡ s.pending
  pub served : (i : ℕ) → x.served i ≡ map served_call (process_at s.processes i).serving
  pub drawn : x.drawn ≡ s.drawn
  pub input : drop x.taken x.input ≡ s.input
  pub moment : x.moment ≡ s.moment
  pub rising : Rising 0 s.pending s.drawn
  pub timed : AreDeadlines x.seats x.pending x.deadlines
