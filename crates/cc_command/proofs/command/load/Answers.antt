use Rattle.std.proofs.Common.{rules, subst, sym}
use Rattle.cc_world.proofs.Counts.{failed_if}
use Rattle.cc_command.proofs.Ends.{if_ok}
use Rattle.cc_command.proofs.Files.{fault_is, file_has_fault, file_means}
use Rattle.cc_command.specs.Texts.{HasFault, MeansProgram}
use Rattle.cc_command.proofs.command.load.Goals as goal

pub returns-in-Err-Failed-clause-shelf : goal.returns-in-Err-Failed-clause-shelf
returns-in-Err-Failed-clause-shelf g c = λ _. failed_if _ _ _ _ c.read.result c.read.ensures.cause (search rules)

pub returns-in-Ok-read_program-clause-program : goal.returns-in-Ok-read_program-clause-program
returns-in-Ok-read_program-clause-program g c =
    if_ok _ _ c.shared.result
    (λ program same.
    file_means _ _ _ program.value c.in-Ok.ensures.bytes
    (subst (MeansProgram c.in-Ok.text) (sym same) (rw c.as_slice.ensures at c.in-Ok-read_program.ensures.program)))
    c.shared.ensures.program

pub returns-in-Err-Fault-clause-text : goal.returns-in-Err-Fault-clause-text
returns-in-Err-Fault-clause-text g c =
    rw c.in-Err-Fault.fault-is
    (file_has_fault _ _ _ _ _ c.in-Ok.ensures.bytes
    (fault_is (HasFault c.in-Ok.text) _ c.in-Err-Fault.fault c.in-Err-Fault.field-0-is (rw c.as_slice.ensures at c.in-Err-Fault.ensures.fault)))
