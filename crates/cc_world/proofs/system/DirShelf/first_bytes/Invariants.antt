use Rattle.std.proofs.Common.{◌-◌, ◌≤◌, length}
use Rattle.cc_world.proofs.system.DirShelf.first_bytes.Given as goal

abbrev pub invariant-loop-piece : goal.invariant-loop-piece
invariant-loop-piece g l = length l.bytes ≤ l.most

abbrev pub decreases-loop-piece : goal.decreases-loop-piece
decreases-loop-piece g l = l.most - length l.bytes
