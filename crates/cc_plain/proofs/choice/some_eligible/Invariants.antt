use Rattle.std.proofs.Common.{◌≡◌, false, take}
use Rattle.std.specs.List.{list_any}
use Rattle.cc_rules.specs.Choice.{is_eligible}
use Rattle.cc_plain.proofs.choice.some_eligible.Given as goal

abbrev pub invariant-loop-call : goal.invariant-loop-call
invariant-loop-call g l = list_any (is_eligible (g.B.Behave.means l.code) l.at l.alt) (take l.call-index l.pending) ≡ false
