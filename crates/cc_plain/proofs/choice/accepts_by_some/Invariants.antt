use Rattle.std.proofs.Common.{◌≡◌, false, take}
use Rattle.std.specs.List.{list_any}
use Rattle.cc_rules.specs.Choice.{accepts}
use Rattle.cc_plain.proofs.choice.accepts_by_some.Given as goal

abbrev pub invariant-loop-i : goal.invariant-loop-i
invariant-loop-i g l = list_any (λ a. accepts (g.B.Behave.means l.code) l.state l.call.target.0 a.0 l.call) (take l.i l.alts) ≡ false
