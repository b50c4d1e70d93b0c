-- A call that was accepted in time is not withdrawn, however late its answer comes.
-- process spec s() { trans int t(); };
-- process body s() { delay 3; accept t() { delay 100; treturn 9; } }
-- main() { process s p; p = create s(); printf("%d", within 5 ? p.t() : 7); }
use Rattle.std.specs.Prelude.{pos, List, [], ◌∷◌, ◌++◌}
use Rattle.cc_base.specs.Meaning.{Meaning}
use Rattle.cc_base.specs.declared.alternatives.Alt.TheVariants.{Accept}
use Rattle.cc_base.specs.declared.request.Request.TheVariants.{Create, TimedCall, Select, Delay, Reply, Print}
use Rattle.kernel_tests.specs.Worked.Script.{Step, accepts, asks, digit, expires, fits_all, pid, scripted, then_ask, value_or_seven, waited}
use Rattle.cc_rules.specs.declared.event.Event.{Event}
use Rattle.cc_rules.specs.declared.event.Event.TheVariants.{Time}
use Rattle.cc_rules.specs.declared.event.Word.TheVariants as word

abbrev pub print_value : Step
print_value grant = Print (digit (value_or_seven grant) ∷ [])

abbrev pub main_script : List Step
main_script = then_ask (Create 1 []) ∷ then_ask (TimedCall (pid 1) 0 [] (pos 5)) ∷ print_value ∷ []

abbrev pub server_script : List Step
server_script =
    then_ask (Delay (pos 3))
    ∷ then_ask (Select ((0, Accept 0 0 []) ∷ []))
    ∷ then_ask (Delay (pos 100))
    ∷ then_ask (Reply (pos 9 ∷ []))
    ∷ []

abbrev pub program : Meaning
program = scripted (0 ∷ 0 ∷ []) (waited 0 1 ∷ []) (main_script ∷ server_script ∷ []) fits_all

abbrev pub offered : List Event
offered = asks 0 word.Create ∷ asks 0 word.TimedCall ∷ asks 1 word.Delay ∷ Time 3 ∷ expires 1 0 ∷ asks 1 word.Select ∷ []

abbrev pub past_deadline : List Event
past_deadline = offered ++ accepts 1 0 0 ∷ asks 1 word.Delay ∷ Time 103 ∷ []

abbrev pub journal : List Event
journal = past_deadline ++ expires 1 0 ∷ asks 1 word.Reply ∷ asks 0 word.Print ∷ asks 0 word.Done ∷ asks 1 word.Done ∷ []
