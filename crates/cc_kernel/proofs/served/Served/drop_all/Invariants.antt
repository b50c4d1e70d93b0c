use Rattle.std.proofs.Common.{◌≡◌, ◌≤◌, length}
use Rattle.cc_kernel.specs.Stacks.{none_served, served_by}
use Rattle.cc_kernel.proofs.served.Served.drop_all.Given as goal

abbrev pub invariant-loop-call : goal.invariant-loop-call
invariant-loop-call l =
    record {
      by : none_served (served_by l.self) l.server.0 ≡ none_served (served_by l.initial.self) l.server.0;
      spare : l.initial.self.spare ≤ l.self.spare;
    }

abbrev pub decreases-loop-call : goal.decreases-loop-call
decreases-loop-call l = length (served_by l.self l.server.0)
