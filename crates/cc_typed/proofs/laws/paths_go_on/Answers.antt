use Rattle.cc_typed.proofs.Partings.{more-leads, more-offset}
use Rattle.cc_typed.proofs.laws.paths_go_on.Goals as goal

pub returns : goal.returns
returns c = record { leads = more-leads; offset = more-offset }
