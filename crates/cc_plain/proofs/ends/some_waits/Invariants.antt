use Rattle.std.proofs.Common.{◌≡◌, false, take}
use Rattle.std.specs.List.{enumerate_from, list_any}
use Rattle.cc_rules.specs.Ends.{waits_at_terminate}
use Rattle.cc_plain.proofs.ends.some_waits.Given as goal

abbrev pub invariant-loop-at : goal.invariant-loop-at
invariant-loop-at g l = list_any (λ e. waits_at_terminate (g.B.Behave.means l.code) l.state e.0) (take l.at (enumerate_from 0 l.state.processes)) ≡ false
