use Rattle.std.proofs.Common.{◌≡◌, take}
use Rattle.std.specs.List.{filter_map}
use Rattle.cc_plain.specs.Earliest.{earliest}
use Rattle.cc_rules.specs.Choice.{alternative_deadline}
use Rattle.cc_plain.proofs.deadlines.of_alternatives.Given as goal

abbrev pub invariant-loop-at : goal.invariant-loop-at
invariant-loop-at l = l.least ≡ earliest (filter_map (λ a. alternative_deadline l.asked a.1) (take l.at l.alts))
