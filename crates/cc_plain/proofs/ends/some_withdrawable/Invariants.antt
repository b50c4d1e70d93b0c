use Rattle.std.proofs.Common.{◌≡◌, false, take}
use Rattle.std.specs.List.{list_any}
use Rattle.cc_rules.specs.Choice.{may_withdraw}
use Rattle.cc_plain.proofs.ends.some_withdrawable.Given as goal

abbrev pub invariant-loop-call : goal.invariant-loop-call
invariant-loop-call g l = list_any (may_withdraw (g.B.Behave.means l.code) l.state) (take l.call-index l.state.pending) ≡ false
