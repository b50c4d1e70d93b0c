-- Programs that follow a table, whatever they are granted: the tests have them. They have three kinds of processes without
-- arguments, and two transactions with one argument cell and one value cell. Each is accepted at a site of its own: of the
-- first the earliest call, of the second the one whose argument is least.
use Rattle.std.specs.Prelude.{ℕ, zero, suc, ◌-◌, ℤ, pos, Bool, false, nat_eq, if◌then◌else◌, List, [], ◌∷◌, length, slice_get, Option, Some, None}
use Rattle.cc_base.specs.Meaning.{Meaning}
use Rattle.cc_base.specs.declared.alternatives.Alt.{Alt}
use Rattle.cc_base.specs.declared.alternatives.Alt.TheVariants.{Accept, Now, Terminate}
use Rattle.cc_base.specs.declared.names.FaultKind.TheVariants.{CalleeGone}
use Rattle.cc_base.specs.declared.names.Shape.{Shape}
use Rattle.cc_base.specs.declared.request.Request.{Request}
use Rattle.cc_base.specs.declared.request.Request.TheVariants.{Pause, Create, Call, Send, Select, Reply, Print, Get, Done, Fault}
use Rattle.cc_rules.specs.declared.event.Word.{Word}
use Rattle.cc_rules.specs.declared.event.Word.TheVariants as word

-- what is asked: the word, the process that is called, the byte that is printed or which alternatives are open, whether the second kind or transaction is
-- meant, and the cell that is sent or answered
abbrev pub Step : Type 0
Step = Word × ℕ × Bool × ℤ

abbrev pub kind_of : Bool → ℕ
kind_of second = if second then 2 else 1

abbrev pub trans_of : Bool → ℕ
trans_of second = if second then 1 else 0

-- it accepts a transaction at the site of that transaction
abbrev pub accept_of : ℕ → Alt
accept_of trans = Accept trans trans []

-- the alternatives of a select: an accept alone, with `immediate`, or with `terminate`, and otherwise both accepts
abbrev pub alternatives_of : ℕ → Bool → List (ℕ × Alt)
alternatives_of zero second = (0, accept_of (trans_of second)) ∷ []
alternatives_of (suc zero) second = (0, accept_of (trans_of second)) ∷ (1, Now) ∷ []
alternatives_of (suc (suc zero)) second = (0, accept_of (trans_of second)) ∷ (1, Terminate) ∷ []
alternatives_of (suc (suc (suc number))) second = (0, accept_of 0) ∷ (1, accept_of 1) ∷ []

abbrev pub request_of : Word → ℕ → Bool → ℤ → Request
request_of word.Pause number second cell = Pause
request_of word.Create number second cell = Create (kind_of second) []
request_of word.Call number second cell = Call (record { 0 = number }) (trans_of second) (cell ∷ [])
request_of word.TimedCall number second cell = Done
request_of word.Send number second cell = Send (record { 0 = number }) (trans_of second) (cell ∷ [])
request_of word.Select number second cell = Select (alternatives_of number second)
request_of word.Delay number second cell = Done
request_of word.Reply number second cell = Reply (cell ∷ [])
request_of word.Print number second cell = Print (number ∷ [])
request_of word.Get number second cell = Get
request_of word.Done number second cell = Done
request_of word.Fault number second cell = Fault CalleeGone

abbrev pub asked : Option Step → Request
asked (Some step) = request_of step.0 step.1 step.2 step.3
asked None = Done

-- the steps of a kind of process
abbrev pub steps_of : List Step → List Step → List Step → ℕ → List Step
steps_of main first second kind = if nat_eq kind 0 then main else (if nat_eq kind 1 then first else second)

abbrev pub shape : Shape
shape = record { is_async = false; args = 1; value = 1 }

-- the rank of a call with this argument at a site
abbrev pub rank_at : ℕ → List ℤ → Option ℤ
rank_at zero args = Some (pos 0)
rank_at (suc zero) args = slice_get args 0
rank_at (suc (suc site)) args = None

abbrev pub scripted : List Step → List Step → List Step → Meaning
scripted main first second =
    record {
      kinds = 0 ∷ 0 ∷ 0 ∷ [];
      shapes = shape ∷ shape ∷ [];
      act = λ kind args grants. asked (slice_get (steps_of main first second kind) (length grants - 1));
      fit = λ site env args. rank_at site args;
    }
