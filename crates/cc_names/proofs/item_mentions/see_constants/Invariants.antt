use Rattle.std.proofs.Common.{◌≡◌, drop}
use Rattle.cc_names.specs.Mentions.{in_constants}
use Rattle.cc_names.specs.Seen.{after}
use Rattle.cc_names.proofs.item_mentions.see_constants.Given as goal

abbrev pub invariant-loop-c : goal.invariant-loop-c
invariant-loop-c l = after l.numbers (in_constants (drop l.c-index l.all)) ≡ after l.fn.numbers (in_constants l.all)
