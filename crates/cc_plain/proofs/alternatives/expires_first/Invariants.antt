use Rattle.std.proofs.Common.{◌≡◌, true, take}
use Rattle.std.specs.List.{list_all}
use Rattle.cc_rules.specs.Choice.{alternative_deadline, expires_before}
use Rattle.cc_plain.proofs.alternatives.expires_first.Given as goal

abbrev pub invariant-loop-at : goal.invariant-loop-at
invariant-loop-at l = list_all (λ b. expires_before l.deadline l.number (alternative_deadline l.asked b.1) b.0) (take l.at l.alts) ≡ true
