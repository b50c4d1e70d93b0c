use Rattle.std.proofs.Common.{◌≡◌, false, take}
use Rattle.std.specs.List.{list_any}
use Rattle.cc_rules.specs.Choice.{is_acceptable}
use Rattle.cc_plain.proofs.ends.some_acceptable.Given as goal

abbrev pub invariant-loop-call : goal.invariant-loop-call
invariant-loop-call g l = list_any (is_acceptable (g.B.Behave.means l.code) l.state) (take l.call-index l.state.pending) ≡ false
