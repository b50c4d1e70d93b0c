-- Which pending calls may be taken, and who may go on without a call, as the lists of the kernel tell it.
use Rattle.std.specs.Prelude.{ℕ, Bool, false, ◌&&◌, ◌||◌, not, if◌then◌else◌, List}
use Rattle.std.specs.List.{enumerate_from, list_all, list_any}
use Rattle.std.specs.Option.{option_map_or}
use Rattle.cc_base.specs.Meaning.{Meaning}
use Rattle.cc_kernel.specs.Seats.{seat_at, with_left}
use Rattle.cc_kernel.specs.declared.seat.Seat.{Seat}
use Rattle.cc_base.specs.Alternatives.{numbered}
use Rattle.cc_rules.specs.Choice.{is_eligible, is_immediate, is_terminate}
use Rattle.cc_rules.specs.State.{is_over, open_alternatives}
use Rattle.cc_rules.specs.declared.process.ProcessStanding.{ProcessStanding}
use Rattle.cc_rules.specs.declared.process.ProcessStanding.TheVariants.{Ended}
use Rattle.cc_rules.specs.declared.process.TransactionCall.{TransactionCall}

-- some call is eligible for an open alternative of p, which stands so
abbrev pub eligible_for : Meaning → ℕ → ProcessStanding → List TransactionCall → Bool
eligible_for m p standing calls = list_any (λ a. list_any (is_eligible m p a.1) calls) (open_alternatives standing)

-- an immediate alternative is open
abbrev pub some_immediate : ProcessStanding → Bool
some_immediate standing = list_any (λ a. is_immediate a.1) (open_alternatives standing)

-- p, which stands so, may take its immediate alternative i
abbrev pub goes_at_once : Meaning → ℕ → ProcessStanding → List TransactionCall → ℕ → Bool
goes_at_once m p standing calls i =
    option_map_or is_immediate (numbered (open_alternatives standing) i) false && not (eligible_for m p standing calls)

-- p, which stands so, waits at `terminate`
abbrev pub waits_so : Meaning → ℕ → ProcessStanding → List TransactionCall → Bool
waits_so m p standing calls =
    list_any (λ a. is_terminate a.1) (open_alternatives standing) && not (eligible_for m p standing calls) && not (some_immediate standing)

module _ {P : Type 0} where
  -- the process in this seat waits at `terminate`
  abbrev pub seat_waits : Meaning → List (Seat P) → List TransactionCall → ℕ → Bool
  seat_waits m seats calls p = waits_so m p (seat_at seats p).standing calls

  -- it is over or waits at `terminate`
  abbrev pub seat_may_end : Meaning → List (Seat P) → List TransactionCall → ℕ → Bool
  seat_may_end m seats calls p = is_over (seat_at seats p).standing || seat_waits m seats calls p

  -- the collective end is due
  abbrev pub due_in : Meaning → List (Seat P) → List TransactionCall → Bool
  due_in m seats calls =
      list_all (λ e. seat_may_end m seats calls e.0) (enumerate_from 0 seats)
      && list_any (λ e. seat_waits m seats calls e.0) (enumerate_from 0 seats)

  -- a seat with its number, after the collective end
  abbrev pub after_end : Meaning → List (Seat P) → List TransactionCall → ℕ × Seat P → Seat P
  after_end m seats calls e = if seat_waits m seats calls e.0 then with_left Ended else e.1
