-- The call of least rank is taken first, the earliest on a tie.
-- process spec server() { trans void go(); trans async log(int k, char c); };
-- process body server() { int i; accept go(); for (i = 0; i < 3; i++) accept log(k, c) by (k) { putchar(c); } }
-- main() { process server s; s = create server(); s.log(5, 'a'); s.log(3, 'b'); s.log(3, 'c'); s.go(); }
use Rattle.std.specs.Prelude.{ℕ, zero, suc, ℤ, pos, negsuc, List, [], ◌∷◌, ◌++◌, Option, Some, None}
use Rattle.cc_base.specs.Meaning.{Meaning}
use Rattle.cc_base.specs.declared.alternatives.Alt.TheVariants.{Accept}
use Rattle.cc_base.specs.declared.request.Grant.{Grant}
use Rattle.cc_base.specs.declared.request.Grant.TheVariants.{Took}
use Rattle.cc_base.specs.declared.request.Request.{Request}
use Rattle.cc_base.specs.declared.request.Request.TheVariants.{Create, Call, Send, Select, Reply, Print}
use Rattle.kernel_tests.specs.Worked.Script.{Step, accepts, asks, pid, scripted, then_ask, unwaited, waited}
use Rattle.cc_rules.specs.declared.event.Event.{Event}
use Rattle.cc_rules.specs.declared.event.Word.TheVariants as word

-- the rank of a log is its first argument
abbrev pub first_argument : ℕ → List ℤ → List ℤ → Option ℤ
first_argument zero env args = Some (pos 0)
first_argument (suc site) env [] = None
first_argument (suc site) env (k ∷ args) = Some k

abbrev pub as_byte : ℤ → ℕ
as_byte (pos n) = n
as_byte (negsuc n) = 0

-- the second argument of the log that was taken
abbrev pub logged : Grant → Request
logged (Took alt (k ∷ c ∷ [])) = Print (as_byte c ∷ [])
logged _ = Print []

abbrev pub main_script : List Step
main_script =
    then_ask (Create 1 [])
    ∷ then_ask (Send (pid 1) 1 (pos 5 ∷ pos 97 ∷ []))
    ∷ then_ask (Send (pid 1) 1 (pos 3 ∷ pos 98 ∷ []))
    ∷ then_ask (Send (pid 1) 1 (pos 3 ∷ pos 99 ∷ []))
    ∷ then_ask (Call (pid 1) 0 [])
    ∷ []

abbrev pub take_log : List Step
take_log = then_ask (Select ((0, Accept 1 1 []) ∷ [])) ∷ logged ∷ then_ask (Reply []) ∷ []

abbrev pub server_script : List Step
server_script = then_ask (Select ((0, Accept 0 0 []) ∷ [])) ∷ then_ask (Reply []) ∷ take_log ++ take_log ++ take_log

abbrev pub program : Meaning
program = scripted (0 ∷ 0 ∷ []) (waited 0 0 ∷ unwaited 2 ∷ []) (main_script ∷ server_script ∷ []) first_argument

-- until the first log is to be taken
abbrev pub opening : List Event
opening =
    asks 0 word.Create
    ∷ asks 0 word.Send
    ∷ asks 0 word.Send
    ∷ asks 0 word.Send
    ∷ asks 0 word.Call
    ∷ asks 1 word.Select
    ∷ accepts 1 0 3
    ∷ asks 1 word.Reply
    ∷ asks 1 word.Select
    ∷ []

abbrev pub logs : ℕ → List Event
logs call = accepts 1 0 call ∷ asks 1 word.Print ∷ asks 1 word.Reply ∷ []

abbrev pub journal : List Event
journal =
    opening
    ++ logs 1
    ++ asks 1 word.Select
    ∷ logs 2
    ++ asks 1 word.Select
    ∷ logs 0
    ++ asks 1 word.Done
    ∷ asks 0 word.Done
    ∷ []
