-- A process that calls itself waits for ever.
-- process spec s() { trans void me(process s q); trans void t(); };
-- process body s() { process s q; accept me(x) { q = x; } q.t(); }
-- main() { process s p; p = create s(); p.me(p); }
use Rattle.std.specs.Prelude.{pos, List, [], ◌∷◌}
use Rattle.cc_base.specs.Meaning.{Meaning}
use Rattle.cc_base.specs.declared.alternatives.Alt.TheVariants.{Accept}
use Rattle.cc_base.specs.declared.request.Request.TheVariants.{Create, Call, Select, Reply}
use Rattle.kernel_tests.specs.Worked.Script.{Step, accepts, asks, fits_all, pid, scripted, then_ask, waited}
use Rattle.cc_rules.specs.declared.event.Event.{Event}
use Rattle.cc_rules.specs.declared.event.Word.TheVariants as word

abbrev pub main_script : List Step
main_script = then_ask (Create 1 []) ∷ then_ask (Call (pid 1) 0 (pos 2 ∷ [])) ∷ []

abbrev pub server_script : List Step
server_script = then_ask (Select ((0, Accept 0 0 []) ∷ [])) ∷ then_ask (Reply []) ∷ then_ask (Call (pid 1) 1 []) ∷ []

abbrev pub program : Meaning
program = scripted (0 ∷ 0 ∷ []) (waited 1 0 ∷ waited 0 0 ∷ []) (main_script ∷ server_script ∷ []) fits_all

abbrev pub journal : List Event
journal =
    asks 0 word.Create
    ∷ asks 0 word.Call
    ∷ asks 1 word.Select
    ∷ accepts 1 0 0
    ∷ asks 1 word.Reply
    ∷ asks 1 word.Call
    ∷ asks 0 word.Done
    ∷ []
