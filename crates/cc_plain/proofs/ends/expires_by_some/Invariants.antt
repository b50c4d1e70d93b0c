use Rattle.std.proofs.Common.{◌≡◌, false, take}
use Rattle.std.specs.List.{list_any}
use Rattle.cc_rules.specs.Choice.{expires}
use Rattle.cc_plain.proofs.ends.expires_by_some.Given as goal

abbrev pub invariant-loop-i : goal.invariant-loop-i
invariant-loop-i g l = list_any (λ a. expires (g.B.Behave.means l.code) l.state l.at a.0) (take l.i l.alts) ≡ false
