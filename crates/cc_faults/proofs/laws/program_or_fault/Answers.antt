use Rattle.cc_faults.proofs.Sorted.{means-or-fails}
use Rattle.cc_faults.specs.Programs.{program}
use Rattle.cc_faults.proofs.laws.program_or_fault.Goals as goal

pub returns : goal.returns
returns c = record { answer = means-or-fails (program c.args.tree.now) }
