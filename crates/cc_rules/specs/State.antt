-- What a state of the machine is.
use Rattle.std.specs.Prelude.{ℕ, ℤ, Bool, true, false, List, [], ◌∷◌, get_or}
use Rattle.cc_base.specs.declared.alternatives.Alt.{Alt}
use Rattle.cc_base.specs.declared.request.Grant.{Grant}
use Rattle.cc_base.specs.declared.request.Grant.TheVariants.{Go}
use Rattle.cc_rules.specs.declared.process.TransactionCall.{TransactionCall}
use Rattle.cc_rules.specs.declared.process.ProcessStanding.{ProcessStanding}
use Rattle.cc_rules.specs.declared.process.ProcessStanding.TheVariants.{Running, AtSelect, AtDelay, AtCall, Ended, Faulted}

pub record Process : Type 0 where
  pub kind : ℕ
  pub args : List ℤ
  -- what it was granted so far
  pub grants : List Grant
  pub standing : ProcessStanding
  -- the calls that it is serving, innermost last
  pub serving : List TransactionCall

pub record State : Type 0 where
  -- the processes in the order made
  pub processes : List Process
  -- the pending calls in the order asked
  pub pending : List TransactionCall
  -- the input that is left
  pub input : List ℕ
  -- the moment, in milliseconds
  pub moment : ℕ
  -- the last event was a Time
  pub after_time : Bool
  -- End was taken
  pub end_taken : Bool
  -- how many call numbers were drawn: the number of the next call
  pub drawn : ℕ

-- a process as it is made: it may begin
abbrev pub made : ℕ → List ℤ → Process
made kind args = record { kind = kind; args = args; grants = Go ∷ []; standing = Running; serving = [] }

-- the machine begins with `main` alone
abbrev pub first_state : List ℕ → State
first_state input =
    record {
      processes = made 0 [] ∷ [];
      pending = [];
      input = input;
      moment = 0;
      after_time = false;
      end_taken = false;
      drawn = 0;
    }

-- what stands for a process that was never made
abbrev pub nobody : Process
nobody = record { kind = 0; args = []; grants = []; standing = Ended; serving = [] }

-- the process of this number
abbrev pub process_at : List Process → ℕ → Process
process_at processes p = get_or processes p nobody

abbrev pub is_running : ProcessStanding → Bool
is_running Running = true
is_running (AtSelect alts asked) = false
is_running (AtDelay deadline) = false
is_running (AtCall call) = false
is_running Ended = false
is_running (Faulted kind) = false

abbrev pub is_faulted : ProcessStanding → Bool
is_faulted Running = false
is_faulted (AtSelect alts asked) = false
is_faulted (AtDelay deadline) = false
is_faulted (AtCall call) = false
is_faulted Ended = false
is_faulted (Faulted kind) = true

-- it has ended, or was stopped by a fault
abbrev pub is_over : ProcessStanding → Bool
is_over Running = false
is_over (AtSelect alts asked) = false
is_over (AtDelay deadline) = false
is_over (AtCall call) = false
is_over Ended = true
is_over (Faulted kind) = true

-- the open alternatives of a process at a select, with their numbers
abbrev pub open_alternatives : ProcessStanding → List (ℕ × Alt)
open_alternatives Running = []
open_alternatives (AtSelect alts asked) = alts
open_alternatives (AtDelay deadline) = []
open_alternatives (AtCall call) = []
open_alternatives Ended = []
open_alternatives (Faulted kind) = []
