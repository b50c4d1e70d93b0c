-- Programs that follow a table and may wait: as those of Tables, but that a step with the word `delay` waits for as many milliseconds as
-- its cell says, one with `timedcall` waits so long for the answer to its call, and a `select` may have delay alternatives.
use Rattle.std.specs.Prelude.{ℕ, zero, suc, ◌-◌, ℤ, pos, Bool, List, [], ◌∷◌, length, slice_get, Option, Some, None}
use Rattle.cc_base.specs.Meaning.{Meaning}
use Rattle.cc_base.specs.declared.alternatives.Alt.{Alt}
use Rattle.cc_base.specs.declared.alternatives.Alt.TheVariants.{After, Terminate}
use Rattle.cc_base.specs.declared.request.Request.{Request}
use Rattle.cc_base.specs.declared.request.Request.TheVariants.{Delay, Done, Select, TimedCall}
use Rattle.cc_rules.specs.declared.event.Word.{Word}
use Rattle.cc_rules.specs.declared.event.Word.TheVariants as word
use Rattle.kernel_tests.specs.Tables.{Step, accept_of, request_of, scripted, steps_of, trans_of}

-- the alternatives of a select: an accept alone, with a delay, or with a delay and `terminate`, and otherwise three delays, of which the last two
-- have the same deadline
abbrev pub timed_alternatives_of : ℕ → Bool → ℤ → List (ℕ × Alt)
timed_alternatives_of zero second cell = (0, accept_of (trans_of second)) ∷ []
timed_alternatives_of (suc zero) second cell = (0, accept_of (trans_of second)) ∷ (1, After cell) ∷ []
timed_alternatives_of (suc (suc zero)) second cell = (0, accept_of (trans_of second)) ∷ (1, After cell) ∷ (2, Terminate) ∷ []
timed_alternatives_of (suc (suc (suc number))) second cell = (0, After (pos 7)) ∷ (1, After cell) ∷ (2, After cell) ∷ []

abbrev pub waiting_request_of : Word → ℕ → Bool → ℤ → Request
waiting_request_of word.Pause number second cell = request_of word.Pause number second cell
waiting_request_of word.Create number second cell = request_of word.Create number second cell
waiting_request_of word.Call number second cell = request_of word.Call number second cell
waiting_request_of word.TimedCall number second cell = TimedCall (record { 0 = number }) (trans_of second) (cell ∷ []) cell
waiting_request_of word.Send number second cell = request_of word.Send number second cell
waiting_request_of word.Select number second cell = Select (timed_alternatives_of number second cell)
waiting_request_of word.Delay number second cell = Delay cell
waiting_request_of word.Reply number second cell = request_of word.Reply number second cell
waiting_request_of word.Print number second cell = request_of word.Print number second cell
waiting_request_of word.Get number second cell = request_of word.Get number second cell
waiting_request_of word.Done number second cell = request_of word.Done number second cell
waiting_request_of word.Fault number second cell = request_of word.Fault number second cell

abbrev pub asked_or_waited : Option Step → Request
asked_or_waited (Some step) = waiting_request_of step.0 step.1 step.2 step.3
asked_or_waited None = Done

abbrev pub waiting : List Step → List Step → List Step → Meaning
waiting main first second =
    record (scripted main first second) {
      act = λ kind args grants. asked_or_waited (slice_get (steps_of main first second kind) (length grants - 1));
    }
