use Rattle.std.proofs.Common.{◌≡◌, length}
use Rattle.cc_declared.specs.Undone.{undone}
use Rattle.cc_declared.proofs.names.put_back.Given as goal

abbrev pub invariant-loop-h : goal.invariant-loop-h
invariant-loop-h l = undone l.left l.names ≡ undone l.fn.hidden l.fn.names

abbrev pub decreases-loop-h : goal.decreases-loop-h
decreases-loop-h l = length l.left
