use Rattle.std.proofs.Common.{[]}
use Rattle.cc_code.proofs.Lists.{absent}
use Rattle.cc_vm.proofs.selects.table_at.Goals as goal

pub returns-in-None : goal.returns-in-None
returns-in-None c = absent c.args.raw.now.tables c.args.table [] c.in-None.ensures.value
