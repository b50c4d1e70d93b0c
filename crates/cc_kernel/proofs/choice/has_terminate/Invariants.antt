use Rattle.std.proofs.Common.{◌≡◌, false, take}
use Rattle.std.specs.List.{list_any}
use Rattle.cc_rules.specs.Choice.{is_terminate}
use Rattle.cc_kernel.proofs.choice.has_terminate.Given as goal

abbrev pub invariant-loop-at : goal.invariant-loop-at
invariant-loop-at l = list_any (λ a. is_terminate a.1) (take l.at l.alts) ≡ false
