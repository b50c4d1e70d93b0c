use Rattle.std.proofs.Common.{◌≡◌, take}
use Rattle.cc_kernel.specs.Due.{select_due}
use Rattle.cc_kernel.proofs.due.select_due.Given as goal

abbrev pub invariant-loop-at : goal.invariant-loop-at
invariant-loop-at l = l.first ≡ select_due l.asked (take l.at l.alts)
