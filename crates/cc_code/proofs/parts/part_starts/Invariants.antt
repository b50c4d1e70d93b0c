use Rattle.std.proofs.Common.{◌≡◌, take}
use Rattle.cc_code.specs.Checked.{part_starts}
use Rattle.cc_code.proofs.parts.part_starts.Given as goal

abbrev pub invariant-loop-part : goal.invariant-loop-part
invariant-loop-part l = l.starts.items ≡ part_starts l.raw (take l.part-index l.parts)
