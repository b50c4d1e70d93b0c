use Rattle.std.proofs.Common.{◌≡◌, drop}
use Rattle.cc_base.specs.Alternatives.{numbered}
use Rattle.cc_plain.proofs.alternatives.alternative_numbered.Given as goal

abbrev pub invariant-loop-at : goal.invariant-loop-at
invariant-loop-at l = numbered (drop l.at l.alts) l.number ≡ numbered l.alts l.number
