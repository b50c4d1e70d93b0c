use Rattle.std.proofs.Common.{◌≡◌, false, take}
use Rattle.std.specs.List.{enumerate_from, list_any}
use Rattle.cc_rules.specs.Choice.{takes_at_once}
use Rattle.cc_rules.specs.State.{open_alternatives, process_at}
use Rattle.cc_plain.proofs.ends.some_at_once.Given as goal

abbrev pub invariant-loop-at : goal.invariant-loop-at
invariant-loop-at g l = list_any (λ e. list_any (λ a. takes_at_once (g.B.Behave.means l.code) l.state e.0 a.0) (open_alternatives (process_at l.state.processes e.0).standing)) (take l.at (enumerate_from 0 l.state.processes)) ≡ false
