use Rattle.cc_faults.proofs.Sorted.{first-sorted}
use Rattle.cc_faults.specs.Judged.{faults}
use Rattle.cc_faults.specs.Programs.{program}
use Rattle.cc_names.specs.Plains.{plain}
use Rattle.cc_names.proofs.laws.first_fault_of_a_text.Goals as goal

pub returns : goal.returns
returns c = record { first = first-sorted (faults (program (plain c.args.tree.now))) }
