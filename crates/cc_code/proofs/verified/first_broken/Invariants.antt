use Rattle.std.proofs.Common.{ℕ, ◌<◌}
use Rattle.cc_code.specs.Rules.{Keeps}
use Rattle.cc_code.specs.declared.rule.Rule.{Rule}
use Rattle.cc_code.proofs.verified.first_broken.Given as goal

abbrev pub invariant-loop-at : goal.invariant-loop-at
invariant-loop-at l = (b : ℕ) (q : Rule) → b < l.at → Keeps l.raw b q
