use Rattle.std.proofs.Common.{◌≡◌, drop}
use Rattle.cc_names.specs.Mentions.{in_list}
use Rattle.cc_names.specs.Seen.{after, in_all_alternatives}
use Rattle.cc_names.proofs.code_mentions.+statements.Given as goal

abbrev pub invariant-see_entries-loop-entry : goal.invariant-see_entries-loop-entry
invariant-see_entries-loop-entry l = after l.numbers (in_list (drop l.entry-index l.all)) ≡ after l.fn.numbers (in_list l.all)

abbrev pub invariant-see_alternatives-loop-a : goal.invariant-see_alternatives-loop-a
invariant-see_alternatives-loop-a l = after l.numbers (in_all_alternatives (drop l.a-index l.all)) ≡ after l.fn.numbers (in_all_alternatives l.all)
