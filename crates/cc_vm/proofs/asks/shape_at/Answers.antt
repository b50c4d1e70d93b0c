use Rattle.cc_code.proofs.Lists.{absent}
use Rattle.cc_code.specs.Operands.{no_shape}
use Rattle.cc_vm.proofs.asks.shape_at.Goals as goal

pub returns-in-None : goal.returns-in-None
returns-in-None c = absent c.args.raw.now.transactions c.args.trans no_shape c.in-None.ensures.value
