use Rattle.std.proofs.Common.{◌≡◌, drop}
use Rattle.cc_names.specs.Mentions.{in_parameter_types}
use Rattle.cc_names.specs.Seen.{after}
use Rattle.cc_names.proofs.item_mentions.see_parameter_types.Given as goal

abbrev pub invariant-loop-p : goal.invariant-loop-p
invariant-loop-p l = after l.numbers (in_parameter_types (drop l.p-index l.all)) ≡ after l.fn.numbers (in_parameter_types l.all)
