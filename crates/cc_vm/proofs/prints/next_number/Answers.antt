use Rattle.std.proofs.Common.{pos}
use Rattle.cc_code.proofs.Lists.{absent}
use Rattle.cc_vm.proofs.Printing.{number-at}
use Rattle.cc_vm.proofs.prints.next_number.Goals as goal

pub returns-in-None : goal.returns-in-None
returns-in-None c = number-at c.args.numbers.now c.args.used (absent c.args.numbers.now c.args.used (pos 0) c.in-None.ensures)
