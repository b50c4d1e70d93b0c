use Rattle.std.proofs.Common.{◌≡◌, false, take}
use Rattle.std.specs.List.{list_any}
use Rattle.cc_rules.specs.Choice.{takes_at_once}
use Rattle.cc_plain.proofs.ends.takes_some_at_once.Given as goal

abbrev pub invariant-loop-i : goal.invariant-loop-i
invariant-loop-i g l = list_any (λ a. takes_at_once (g.B.Behave.means l.code) l.state l.at a.0) (take l.i l.alts) ≡ false
