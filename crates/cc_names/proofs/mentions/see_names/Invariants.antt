use Rattle.std.proofs.Common.{◌≡◌, drop}
use Rattle.cc_names.specs.Mentions.{in_names}
use Rattle.cc_names.specs.Seen.{after}
use Rattle.cc_names.proofs.mentions.see_names.Given as goal

abbrev pub invariant-loop-x : goal.invariant-loop-x
invariant-loop-x l = after l.numbers (in_names (drop l.x-index l.xs)) ≡ after l.fn.numbers (in_names l.xs)
