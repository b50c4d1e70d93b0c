use Rattle.std.proofs.Common.{◌≡◌, ◌≤◌, length}
use Rattle.cc_kernel.specs.Seats.{gone_seats}
use Rattle.cc_kernel.specs.Stacks.{none_served, served_by}
use Rattle.cc_kernel.proofs.asks.drop_served.Given as goal

abbrev pub invariant-loop-call : goal.invariant-loop-call
invariant-loop-call g l =
    record {
      seats : gone_seats l.seats.items (served_by l.served l.server.0) ≡ gone_seats l.initial.seats.items (served_by l.initial.served l.server.0);
      served : none_served (served_by l.served) l.server.0 ≡ none_served (served_by l.initial.served) l.server.0;
      room : l.initial.served.spare ≤ l.served.spare;
    }

abbrev pub decreases-loop-call : goal.decreases-loop-call
decreases-loop-call g l = length (served_by l.served l.server.0)
