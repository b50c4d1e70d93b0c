-- A call of a process that has ended is a fault of the caller; a call for which nobody waits is not.
-- process spec s() { trans void t(); trans async u(); };
-- process body s() { }
-- main() { process s p; p = create s(); delay 1; p.t(); }, and the same with p.u()
use Rattle.std.specs.Prelude.{pos, List, [], ◌∷◌, ◌++◌}
use Rattle.cc_base.specs.Meaning.{Meaning}
use Rattle.cc_base.specs.declared.names.FaultKind.TheVariants.{CalleeGone}
use Rattle.cc_base.specs.declared.request.Grant.{Grant}
use Rattle.cc_base.specs.declared.request.Grant.TheVariants.{Gone}
use Rattle.cc_base.specs.declared.request.Request.{Request}
use Rattle.cc_base.specs.declared.request.Request.TheVariants.{Create, Call, Send, Delay, Done, Fault}
use Rattle.kernel_tests.specs.Worked.Script.{Step, asks, expires, fits_all, pid, scripted, then_ask, unwaited, waited}
use Rattle.cc_rules.specs.declared.event.Event.{Event}
use Rattle.cc_rules.specs.declared.event.Event.TheVariants.{Time}
use Rattle.cc_rules.specs.declared.event.Word.TheVariants as word

-- a fault where the called process was gone
abbrev pub after_call : Grant → Request
after_call Gone = Fault CalleeGone
after_call _ = Done

abbrev pub caller_script : List Step
caller_script = then_ask (Create 1 []) ∷ then_ask (Delay (pos 1)) ∷ then_ask (Call (pid 1) 0 []) ∷ after_call ∷ []

abbrev pub sender_script : List Step
sender_script = then_ask (Create 1 []) ∷ then_ask (Delay (pos 1)) ∷ then_ask (Send (pid 1) 1 []) ∷ after_call ∷ []

abbrev pub caller : Meaning
caller = scripted (0 ∷ 0 ∷ []) (waited 0 0 ∷ unwaited 0 ∷ []) (caller_script ∷ [] ∷ []) fits_all

abbrev pub sender : Meaning
sender = scripted (0 ∷ 0 ∷ []) (waited 0 0 ∷ unwaited 0 ∷ []) (sender_script ∷ [] ∷ []) fits_all

abbrev pub ended : List Event
ended = asks 0 word.Create ∷ asks 0 word.Delay ∷ asks 1 word.Done ∷ Time 1 ∷ expires 0 0 ∷ []

-- the caller is told that the called process is gone
abbrev pub told : List Event
told = ended ++ asks 0 word.Call ∷ []

abbrev pub call_journal : List Event
call_journal = told ++ asks 0 word.Fault ∷ []

abbrev pub send_journal : List Event
send_journal = ended ++ asks 0 word.Send ∷ asks 0 word.Done ∷ []
