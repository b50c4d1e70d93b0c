use Rattle.std.proofs.Common.{◌≡◌, drop}
use Rattle.cc_names.specs.Mentions.{in_items}
use Rattle.cc_names.specs.Seen.{after}
use Rattle.cc_names.proofs.item_mentions.see_items.Given as goal

abbrev pub invariant-loop-item : goal.invariant-loop-item
invariant-loop-item l = after l.numbers (in_items (drop l.item-index l.all)) ≡ after l.fn.numbers (in_items l.all)
