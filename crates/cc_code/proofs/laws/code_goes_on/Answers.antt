use Rattle.cc_code.proofs.Total.{goes-step}
use Rattle.cc_code.proofs.laws.code_goes_on.Goals as goal

pub returns : goal.returns
returns c = record { step = goes-step }
