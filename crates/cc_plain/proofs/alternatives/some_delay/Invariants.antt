use Rattle.std.proofs.Common.{◌≡◌, false, take}
use Rattle.std.specs.Prelude.{is_some}
use Rattle.std.specs.List.{list_any}
use Rattle.cc_rules.specs.Choice.{alternative_deadline}
use Rattle.cc_plain.proofs.alternatives.some_delay.Given as goal

abbrev pub invariant-loop-at : goal.invariant-loop-at
invariant-loop-at l = list_any (λ a. is_some (alternative_deadline l.asked a.1)) (take l.at l.alts) ≡ false
