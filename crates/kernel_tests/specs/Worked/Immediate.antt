-- An immediate alternative is taken only where no call can be.
-- process spec s(int g) { trans async t(); };
-- process body s(g) { delay 1; select { (g): accept t() { putchar('a'); } or immediate; putchar('i'); } }
-- main() { process s p; p = create s(1); p.t(); }, and the same with create s(0)
use Rattle.std.specs.Prelude.{ℤ, pos, List, [], ◌∷◌, ◌++◌}
use Rattle.cc_base.specs.Meaning.{Meaning}
use Rattle.cc_base.specs.declared.alternatives.Alt.TheVariants.{Accept, Now}
use Rattle.cc_base.specs.declared.request.Request.TheVariants.{Create, Send, Select, Delay, Reply, Print}
use Rattle.kernel_tests.specs.Worked.Script.{Step, accepts, asks, at_once, expires, fits_all, pid, scripted, then_ask, unwaited}
use Rattle.cc_rules.specs.declared.event.Event.{Event}
use Rattle.cc_rules.specs.declared.event.Event.TheVariants.{Time}
use Rattle.cc_rules.specs.declared.event.Word.TheVariants as word

-- what `main` asks, which gives the server this argument
abbrev pub main_script : ℤ → List Step
main_script g = then_ask (Create 1 (g ∷ [])) ∷ then_ask (Send (pid 1) 0 []) ∷ []

abbrev pub open_script : List Step
open_script =
    then_ask (Delay (pos 1))
    ∷ then_ask (Select ((0, Accept 0 0 []) ∷ (1, Now) ∷ []))
    ∷ then_ask (Print (97 ∷ []))
    ∷ then_ask (Reply [])
    ∷ []

abbrev pub closed_script : List Step
closed_script = then_ask (Delay (pos 1)) ∷ then_ask (Select ((1, Now) ∷ [])) ∷ then_ask (Print (105 ∷ [])) ∷ []

abbrev pub open_program : Meaning
open_program = scripted (0 ∷ 1 ∷ []) (unwaited 0 ∷ []) (main_script (pos 1) ∷ open_script ∷ []) fits_all

abbrev pub closed_program : Meaning
closed_program = scripted (0 ∷ 1 ∷ []) (unwaited 0 ∷ []) (main_script (pos 0) ∷ closed_script ∷ []) fits_all

abbrev pub offered : List Event
offered =
    asks 0 word.Create
    ∷ asks 0 word.Send
    ∷ asks 0 word.Done
    ∷ asks 1 word.Delay
    ∷ Time 1
    ∷ expires 1 0
    ∷ asks 1 word.Select
    ∷ []

abbrev pub open_journal : List Event
open_journal = offered ++ accepts 1 0 0 ∷ asks 1 word.Print ∷ asks 1 word.Reply ∷ asks 1 word.Done ∷ []

abbrev pub closed_journal : List Event
closed_journal = offered ++ at_once 1 1 ∷ asks 1 word.Print ∷ asks 1 word.Done ∷ []
