use Rattle.std.proofs.Common.{length, take, ◌-◌, ◌≡◌, ◌≤◌}
use Rattle.cc_world.specs.Told.{with_bytes}
use Rattle.cc_world.proofs.sink.write_all.Given as goal

abbrev pub invariant-loop-done : goal.invariant-loop-done
invariant-loop-done g l = record {
  in_range : l.done ≤ length l.bytes;
  held : g.K.Sink.held l.out ≡ with_bytes (g.K.Sink.held l.initial.out) (take l.done l.bytes);
  faults : g.K.Sink.faults l.out ≡ g.K.Sink.faults l.initial.out;
  wants : g.K.Sink.wants l.initial.out ≤ g.K.Sink.wants l.out;
  idle : l.done ≡ 0 → l.out ≡ l.initial.out;
}

abbrev pub decreases-loop-done : goal.decreases-loop-done
decreases-loop-done g l = length l.bytes - l.done
