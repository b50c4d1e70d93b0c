use Rattle.std.proofs.Common.{◌≡◌, ◌+◌, ◌≤◌, take}
use Rattle.cc_kernel.specs.Seats.{seat_faults}
use Rattle.cc_base.specs.Limits.{most_processes}
use Rattle.cc_kernel.proofs.faults.list_faults.Given as goal

abbrev pub invariant-loop-at : goal.invariant-loop-at
invariant-loop-at g l =
    record {
      items : l.faults.items ≡ seat_faults 0 (take l.at l.seats.items);
      room : most_processes ≤ l.faults.spare + l.at;
    }
