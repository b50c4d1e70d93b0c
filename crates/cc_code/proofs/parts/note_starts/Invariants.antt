use Rattle.std.proofs.Common.{map, take}
use Rattle.cc_code.specs.Checked.{Noted}
use Rattle.cc_code.specs.declared.reach.Start.{Start}
use Rattle.cc_code.proofs.parts.note_starts.Given as goal

abbrev pub invariant-loop-start : goal.invariant-loop-start
invariant-loop-start l = Noted (map (λ (s : Start). s.place) (take l.start-index l.starts)) l.fn.bits.items l.bits.items
