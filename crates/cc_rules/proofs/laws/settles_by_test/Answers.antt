use Rattle.cc_rules.proofs.Settled.{IsSettled-by_test}
use Rattle.cc_rules.proofs.Unsettled.{settles}
use Rattle.cc_rules.proofs.laws.settles_by_test.Goals as goal

pub returns : goal.returns
returns c = record { settled = IsSettled-by_test; unsettled = settles }
