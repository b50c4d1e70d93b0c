use Rattle.std.proofs.Common.{◌≡◌, take}
use Rattle.cc_code.specs.Listing.{lines}
use Rattle.cc_code.proofs.lines.listed.Given as goal

abbrev pub invariant-loop-at : goal.invariant-loop-at
invariant-loop-at l = l.text ≡ lines 0 (take l.at l.instrs)
