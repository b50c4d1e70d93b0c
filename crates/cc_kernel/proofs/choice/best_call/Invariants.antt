use Rattle.std.proofs.Common.{◌≡◌, false, take}
use Rattle.std.specs.List.{list_any}
use Rattle.cc_rules.specs.Choice.{is_eligible}
use Rattle.cc_kernel.proofs.choice.best_call.Given as goal

abbrev pub invariant-loop-at : goal.invariant-loop-at
invariant-loop-at g l = list_any (λ a. list_any (is_eligible (g.B.Behave.means l.code) l.pid.0 a.1) l.pending.items) (take l.at l.alts) ≡ false
