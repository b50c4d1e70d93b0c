use Rattle.std.proofs.Common.{◌≡◌, drop}
use Rattle.cc_names.specs.Mentions.{in_declarators}
use Rattle.cc_names.specs.Seen.{after}
use Rattle.cc_names.proofs.code_mentions.see_declarators.Given as goal

abbrev pub invariant-loop-d : goal.invariant-loop-d
invariant-loop-d l = after l.numbers (in_declarators (drop l.d-index l.all)) ≡ after l.fn.numbers (in_declarators l.all)
