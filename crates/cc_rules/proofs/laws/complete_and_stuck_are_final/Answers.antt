use Rattle.cc_rules.proofs.Final.{complete-final, end-complete, stuck-final}
use Rattle.cc_rules.proofs.laws.complete_and_stuck_are_final.Goals as goal

pub returns : goal.returns
returns c = record { complete = complete-final; stuck = λ m s e h. stuck-final m s h e; ended = end-complete }
