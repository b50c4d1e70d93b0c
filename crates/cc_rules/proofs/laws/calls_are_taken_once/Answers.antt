use Rattle.cc_rules.proofs.TakenOnce.{taken-once}
use Rattle.cc_rules.proofs.laws.calls_are_taken_once.Goals as goal

pub returns : goal.returns
returns c = record { once = taken-once }
