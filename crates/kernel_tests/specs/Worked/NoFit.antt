-- A call that fits no alternative does not hold up the collective end.
-- process spec s() { trans async t(int x); };
-- process body s() { select { accept t(x) suchthat (10 / x) { putchar('!'); } or terminate; } }
-- main() { process s p; p = create s(); p.t(0); }
use Rattle.std.specs.Prelude.{ℕ, ℤ, pos, negsuc, ◌&&◌, Bool, nat_le, nat_lt, if◌then◌else◌, List, [], ◌∷◌, ◌++◌, Option, Some, None}
use Rattle.cc_base.specs.Meaning.{Meaning}
use Rattle.cc_base.specs.declared.alternatives.Alt.TheVariants.{Accept, Terminate}
use Rattle.cc_base.specs.declared.request.Request.TheVariants.{Create, Send, Select, Reply, Print}
use Rattle.kernel_tests.specs.Worked.Script.{Step, asks, pid, scripted, then_ask, unwaited}
use Rattle.cc_rules.specs.declared.event.Event.{Event}
use Rattle.cc_rules.specs.declared.event.Event.TheVariants.{End}
use Rattle.cc_rules.specs.declared.event.Word.TheVariants as word

-- 10 / x is neither a fault nor 0
abbrev pub divides : ℤ → Bool
divides (pos n) = nat_lt 0 n && nat_le n 10
divides (negsuc n) = nat_lt n 10

abbrev pub divisor_fits : ℕ → List ℤ → List ℤ → Option ℤ
divisor_fits site env [] = None
divisor_fits site env (x ∷ args) = if divides x then Some (pos 0) else None

abbrev pub main_script : List Step
main_script = then_ask (Create 1 []) ∷ then_ask (Send (pid 1) 0 (pos 0 ∷ [])) ∷ []

abbrev pub server_script : List Step
server_script = then_ask (Select ((0, Accept 0 0 []) ∷ (1, Terminate) ∷ [])) ∷ then_ask (Print (33 ∷ [])) ∷ then_ask (Reply []) ∷ []

abbrev pub program : Meaning
program = scripted (0 ∷ 0 ∷ []) (unwaited 1 ∷ []) (main_script ∷ server_script ∷ []) divisor_fits

abbrev pub waiting : List Event
waiting = asks 0 word.Create ∷ asks 0 word.Send ∷ asks 1 word.Select ∷ []

abbrev pub journal : List Event
journal = waiting ++ asks 0 word.Done ∷ End ∷ []
