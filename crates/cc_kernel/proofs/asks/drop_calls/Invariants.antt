use Rattle.std.proofs.Common.{◌≡◌, ◌≤◌, length, map, not}
use Rattle.std.specs.List.{filter}
use Rattle.cc_kernel.specs.Seats.{gone_seats, served_call}
use Rattle.cc_kernel.specs.Timed.{AreDeadlines}
use Rattle.cc_rules.specs.Effects.{is_for}
use Rattle.cc_kernel.proofs.asks.drop_calls.Given as goal

abbrev pub invariant-loop-number : goal.invariant-loop-number
invariant-loop-number g l =
    record {
      seats :
          gone_seats l.seats.items (map served_call (filter (is_for l.target.0) l.pending.items))
          ≡ gone_seats l.initial.seats.items (map served_call (filter (is_for l.target.0) l.initial.pending.items));
      pending : filter (λ call. not (is_for l.target.0 call)) l.pending.items ≡ filter (λ call. not (is_for l.target.0 call)) l.initial.pending.items;
      timed : AreDeadlines l.seats.items l.pending.items l.deadlines.pairs;
      fewer : length l.deadlines.pairs ≤ length l.initial.deadlines.pairs;
    }

abbrev pub decreases-loop-number : goal.decreases-loop-number
decreases-loop-number g l = length (filter (is_for l.target.0) l.pending.items)
