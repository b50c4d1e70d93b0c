-- A reply answers the innermost call that is served.
-- process spec s() { trans int t(); trans int u(); };
-- process body s() { accept u() { accept t() { treturn 1; } treturn 2; } }
-- process spec c(process s p); process body c(p) { printf("t%d", p.t()); }
-- main() { process s p; p = create s(); create c(p); printf("u%d", p.u()); }
use Rattle.std.specs.Prelude.{ℕ, pos, List, [], ◌∷◌, ◌++◌}
use Rattle.cc_base.specs.Meaning.{Meaning}
use Rattle.cc_base.specs.declared.alternatives.Alt.TheVariants.{Accept}
use Rattle.cc_base.specs.declared.request.Request.TheVariants.{Create, Call, Select, Reply, Print}
use Rattle.kernel_tests.specs.Worked.Script.{Step, accepts, asks, digit, fits_all, pid, scripted, then_ask, value_or_seven, waited}
use Rattle.cc_rules.specs.declared.event.Event.{Event}
use Rattle.cc_rules.specs.declared.event.Word.TheVariants as word

abbrev pub print_after : ℕ → Step
print_after letter grant = Print (letter ∷ digit (value_or_seven grant) ∷ [])

abbrev pub main_script : List Step
main_script = then_ask (Create 1 []) ∷ then_ask (Create 2 (pos 2 ∷ [])) ∷ then_ask (Call (pid 1) 1 []) ∷ print_after 117 ∷ []

abbrev pub server_script : List Step
server_script =
    then_ask (Select ((0, Accept 1 0 []) ∷ []))
    ∷ then_ask (Select ((0, Accept 0 1 []) ∷ []))
    ∷ then_ask (Reply (pos 1 ∷ []))
    ∷ then_ask (Reply (pos 2 ∷ []))
    ∷ []

abbrev pub caller_script : List Step
caller_script = then_ask (Call (pid 1) 0 []) ∷ print_after 116 ∷ []

abbrev pub program : Meaning
program = scripted (0 ∷ 0 ∷ 1 ∷ []) (waited 0 1 ∷ waited 0 1 ∷ []) (main_script ∷ server_script ∷ caller_script ∷ []) fits_all

abbrev pub answered_once : List Event
answered_once =
    asks 0 word.Create
    ∷ asks 0 word.Create
    ∷ asks 0 word.Call
    ∷ asks 1 word.Select
    ∷ accepts 1 0 0
    ∷ asks 1 word.Select
    ∷ asks 2 word.Call
    ∷ accepts 1 0 1
    ∷ asks 1 word.Reply
    ∷ []

abbrev pub journal : List Event
journal =
    answered_once
    ++ asks 2 word.Print
    ∷ asks 2 word.Done
    ∷ asks 1 word.Reply
    ∷ asks 0 word.Print
    ∷ asks 1 word.Done
    ∷ asks 0 word.Done
    ∷ []
