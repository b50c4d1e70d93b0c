use Rattle.cc_faults.proofs.Sorted.{in-order}
use Rattle.cc_faults.specs.Judged.{faults}
use Rattle.cc_faults.specs.Programs.{program}
use Rattle.cc_faults.proofs.laws.list_in_order.Goals as goal

pub returns : goal.returns
returns c = record { order = in-order (faults (program c.args.tree.now)) }
