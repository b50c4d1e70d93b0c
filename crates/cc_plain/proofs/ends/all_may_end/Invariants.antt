use Rattle.std.proofs.Common.{◌≡◌, true, take, ◌||◌}
use Rattle.std.specs.List.{enumerate_from, list_all}
use Rattle.cc_rules.specs.Ends.{waits_at_terminate}
use Rattle.cc_rules.specs.State.{is_over, process_at}
use Rattle.cc_plain.proofs.ends.all_may_end.Given as goal

abbrev pub invariant-loop-at : goal.invariant-loop-at
invariant-loop-at g l = list_all (λ e. is_over (process_at l.state.processes e.0).standing || waits_at_terminate (g.B.Behave.means l.code) l.state e.0) (take l.at (enumerate_from 0 l.state.processes)) ≡ true
