use Rattle.std.proofs.Common.{◌≡◌, false, take}
use Rattle.std.specs.List.{enumerate_from, list_any}
use Rattle.cc_rules.specs.Choice.{expires, expiring_numbers}
use Rattle.cc_rules.specs.State.{process_at}
use Rattle.cc_plain.proofs.ends.some_expires.Given as goal

abbrev pub invariant-loop-at : goal.invariant-loop-at
invariant-loop-at g l = list_any (λ e. list_any (expires (g.B.Behave.means l.code) l.state e.0) (expiring_numbers (process_at l.state.processes e.0).standing)) (take l.at (enumerate_from 0 l.state.processes)) ≡ false
