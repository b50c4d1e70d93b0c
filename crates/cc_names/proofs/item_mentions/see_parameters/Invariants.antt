use Rattle.std.proofs.Common.{◌≡◌, drop}
use Rattle.cc_names.specs.Mentions.{in_parameters}
use Rattle.cc_names.specs.Seen.{after}
use Rattle.cc_names.proofs.item_mentions.see_parameters.Given as goal

abbrev pub invariant-loop-p : goal.invariant-loop-p
invariant-loop-p l = after l.numbers (in_parameters (drop l.p-index l.all)) ≡ after l.fn.numbers (in_parameters l.all)
