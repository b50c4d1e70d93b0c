use Rattle.cc_rules.proofs.ChosenCalls.{IsChosenCall-run}
use Rattle.cc_rules.proofs.laws.accepts_are_chosen.Goals as goal

pub returns : goal.returns
returns c = record { chosen = IsChosenCall-run }
