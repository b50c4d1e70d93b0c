-- A call whose deadline comes before it can be accepted is withdrawn.
-- process spec s() { trans void go(); trans int t(); };
-- process body s() { accept go(); accept t() { treturn 1; } }
-- main() { process s p; int v; p = create s(); v = within 0 ? p.t() : 7; printf("%d", v); p.go(); printf("%d", p.t()); }
use Rattle.std.specs.Prelude.{pos, List, [], ◌∷◌, ◌++◌}
use Rattle.cc_base.specs.Meaning.{Meaning}
use Rattle.cc_base.specs.declared.alternatives.Alt.TheVariants.{Accept}
use Rattle.cc_base.specs.declared.request.Request.TheVariants.{Create, Call, TimedCall, Select, Reply, Print}
use Rattle.kernel_tests.specs.Worked.Script.{Step, accepts, asks, digit, fits_all, pid, scripted, then_ask, value_or_seven, waited, withdraws}
use Rattle.cc_rules.specs.declared.event.Event.{Event}
use Rattle.cc_rules.specs.declared.event.Word.TheVariants as word

abbrev pub print_value : Step
print_value grant = Print (digit (value_or_seven grant) ∷ [])

abbrev pub main_script : List Step
main_script =
    then_ask (Create 1 [])
    ∷ then_ask (TimedCall (pid 1) 1 [] (pos 0))
    ∷ print_value
    ∷ then_ask (Call (pid 1) 0 [])
    ∷ then_ask (Call (pid 1) 1 [])
    ∷ print_value
    ∷ []

abbrev pub server_script : List Step
server_script =
    then_ask (Select ((0, Accept 0 0 []) ∷ []))
    ∷ then_ask (Reply [])
    ∷ then_ask (Select ((0, Accept 1 1 []) ∷ []))
    ∷ then_ask (Reply (pos 1 ∷ []))
    ∷ []

abbrev pub program : Meaning
program = scripted (0 ∷ 0 ∷ []) (waited 0 0 ∷ waited 0 1 ∷ []) (main_script ∷ server_script ∷ []) fits_all

abbrev pub after_withdrawal : List Event
after_withdrawal = asks 0 word.Create ∷ asks 0 word.TimedCall ∷ withdraws 0 ∷ []

-- call 2 is the second call of the transaction of the call that was withdrawn, and has no deadline
abbrev pub offered : List Event
offered =
    after_withdrawal
    ++ asks 0 word.Print
    ∷ asks 0 word.Call
    ∷ asks 1 word.Select
    ∷ accepts 1 0 1
    ∷ asks 1 word.Reply
    ∷ asks 0 word.Call
    ∷ asks 1 word.Select
    ∷ []

abbrev pub journal : List Event
journal =
    offered
    ++ accepts 1 0 2
    ∷ asks 1 word.Reply
    ∷ asks 0 word.Print
    ∷ asks 0 word.Done
    ∷ asks 1 word.Done
    ∷ []
