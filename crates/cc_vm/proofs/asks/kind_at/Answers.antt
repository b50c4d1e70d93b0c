use Rattle.cc_code.proofs.Lists.{absent}
use Rattle.cc_code.specs.Operands.{no_part}
use Rattle.cc_vm.proofs.asks.kind_at.Goals as goal

pub returns-in-None : goal.returns-in-None
returns-in-None c = absent c.args.raw.now.kinds c.args.kind no_part c.in-None.ensures.value
