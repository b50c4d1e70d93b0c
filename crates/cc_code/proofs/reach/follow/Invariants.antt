use Rattle.std.proofs.Common.{◌≡◌, length}
use Rattle.cc_code.specs.Reach.{Marking, left, ways}
use Rattle.cc_code.proofs.reach.follow.Given as goal

abbrev pub invariant-work : goal.invariant-work
invariant-work l = record {
  long : length l.labels.items ≡ length l.fn.labels.items;
  marking : Marking (ways l.raw l.extent) l.starts l.labels.items l.work.items;
}

abbrev pub decreases-work : goal.decreases-work
decreases-work l = left l.labels.items l.work.items
