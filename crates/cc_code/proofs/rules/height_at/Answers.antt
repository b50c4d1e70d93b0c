use Rattle.std.proofs.Common.{arith}
use Rattle.cc_code.proofs.Lists.{absent}
use Rattle.cc_code.proofs.rules.height_at.Goals as goal

pub returns-in-None : goal.returns-in-None
returns-in-None c = record { height = absent c.args.raw.now.heights c.args.at 0 c.in-None.ensures.value; small = omega arith }
