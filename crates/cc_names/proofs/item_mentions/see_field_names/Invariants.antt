use Rattle.std.proofs.Common.{◌≡◌, drop}
use Rattle.cc_names.specs.Mentions.{in_field_names}
use Rattle.cc_names.specs.Seen.{after}
use Rattle.cc_names.proofs.item_mentions.see_field_names.Given as goal

abbrev pub invariant-loop-d : goal.invariant-loop-d
invariant-loop-d l = after l.numbers (in_field_names (drop l.d-index l.all)) ≡ after l.fn.numbers (in_field_names l.all)
