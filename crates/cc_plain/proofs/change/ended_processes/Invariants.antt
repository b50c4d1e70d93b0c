use Rattle.std.proofs.Common.{◌≡◌, take, map}
use Rattle.std.specs.List.{enumerate_from}
use Rattle.cc_plain.proofs.Ended.{after_end}
use Rattle.cc_plain.proofs.change.ended_processes.Given as goal

abbrev pub invariant-loop-at : goal.invariant-loop-at
invariant-loop-at g l = l.processes.items ≡ map (after_end (g.B.Behave.means l.code) l.before) (take l.at (enumerate_from 0 l.before.processes))
