use Rattle.cc_rules.proofs.EndIsLast.{due-end, end-due, end-last}
use Rattle.cc_rules.proofs.laws.the_end_is_last.Goals as goal

pub returns : goal.returns
returns c = record { due = end-due; last = end-last; alone = due-end }
