use Rattle.std.proofs.Common.{◌≡◌, false, take}
use Rattle.std.specs.Prelude.{is_some}
use Rattle.std.specs.List.{list_any}
use Rattle.cc_rules.specs.Choice.{call_deadline}
use Rattle.cc_plain.proofs.ends.some_call_timed.Given as goal

abbrev pub invariant-loop-call : goal.invariant-loop-call
invariant-loop-call l = list_any (λ call. is_some (call_deadline call.waiting)) (take l.call-index l.pending) ≡ false
