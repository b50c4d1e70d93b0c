use Rattle.std.proofs.Common.{◌≡◌, ◌<◌, ◌≤◌, ℕ, []}
use Rattle.std.specs.Prelude.{if◌then◌else◌}
use Rattle.cc_kernel.specs.Counted.{may_terminate}
use Rattle.cc_kernel.specs.Seats.{seat_at}
use Rattle.cc_kernel.specs.Stacks.{served_by}
use Rattle.cc_kernel.proofs.served.Served.drop_terminating.Given as goal

abbrev pub invariant-loop-at : goal.invariant-loop-at
invariant-loop-at g l =
    record {
      below : (p : ℕ) → p < l.at → served_by l.self p ≡ (if may_terminate (seat_at l.seats.items p).standing then [] else served_by l.initial.self p);
      above : (p : ℕ) → l.at ≤ p → served_by l.self p ≡ served_by l.initial.self p;
    }
