use Rattle.std.proofs.Common.{◌≡◌, take}
use Rattle.cc_plain.proofs.copies.copy_alternatives.Given as goal

abbrev pub invariant-loop-at : goal.invariant-loop-at
invariant-loop-at l = l.copies ≡ take l.at l.alts
