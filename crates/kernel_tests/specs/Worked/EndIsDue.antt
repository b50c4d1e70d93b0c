-- A deadline does not hold up the collective end, which comes only where no process is running.
-- process spec s() { trans void t(); };
-- process body s() { select { accept t(); or delay 1000; putchar('d'); or terminate; } }
-- main() { create s(); }
use Rattle.std.specs.Prelude.{pos, List, [], ◌∷◌, ◌++◌}
use Rattle.cc_base.specs.Meaning.{Meaning}
use Rattle.cc_base.specs.declared.alternatives.Alt.TheVariants.{Accept, After, Terminate}
use Rattle.cc_base.specs.declared.request.Request.TheVariants.{Create, Select, Print}
use Rattle.kernel_tests.specs.Worked.Script.{Step, asks, fits_all, scripted, then_ask, waited}
use Rattle.cc_rules.specs.declared.event.Event.{Event}
use Rattle.cc_rules.specs.declared.event.Event.TheVariants.{End}
use Rattle.cc_rules.specs.declared.event.Word.TheVariants as word

abbrev pub main_script : List Step
main_script = then_ask (Create 1 []) ∷ []

abbrev pub server_script : List Step
server_script = then_ask (Select ((0, Accept 0 0 []) ∷ (1, After (pos 1000)) ∷ (2, Terminate) ∷ [])) ∷ then_ask (Print (100 ∷ [])) ∷ []

abbrev pub program : Meaning
program = scripted (0 ∷ 0 ∷ []) (waited 0 0 ∷ []) (main_script ∷ server_script ∷ []) fits_all

abbrev pub still_running : List Event
still_running = asks 0 word.Create ∷ asks 1 word.Select ∷ []

abbrev pub due : List Event
due = still_running ++ asks 0 word.Done ∷ []

abbrev pub journal : List Event
journal = due ++ End ∷ []
