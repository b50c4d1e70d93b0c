use Rattle.cc_code.proofs.Lists.{absent}
use Rattle.cc_code.specs.Operands.{no_part}
use Rattle.cc_code.proofs.operands.function_at.Goals as goal

pub returns-in-None : goal.returns-in-None
returns-in-None c = absent c.args.raw.now.functions c.args.function no_part c.in-None.ensures.value
