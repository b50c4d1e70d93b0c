use Rattle.std.proofs.Common.{ℕ, ◌<◌, ◌≤◌, get_or}
use Rattle.cc_vm.proofs.room.most_height.Given as goal

abbrev pub invariant-loop-height : goal.invariant-loop-height
invariant-loop-height l = (at : ℕ) → at < l.height-index → get_or l.heights at 0 ≤ l.most
