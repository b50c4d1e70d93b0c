use Rattle.std.proofs.Common.{pos, Contains, take}
use Rattle.cc_world.proofs.calls.is_listed.Given as goal

abbrev pub invariant-loop-at : goal.invariant-loop-at
invariant-loop-at l = ¬ Contains (take l.at l.numbers) (pos l.call)
