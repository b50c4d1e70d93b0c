use Rattle.std.proofs.Common.{refl, []}
use Rattle.kernel_tests.proofs.Calm.{worked}
use Rattle.kernel_tests.proofs.WorkedWell.{callee_ended-sender_well}
use Rattle.kernel_tests.specs.Worked.CalleeEnded as callee_ended
use Rattle.kernel_tests.proofs.worked.a_send_to_a_process_that_ended_is_no_fault.Goals as goal

pub returns : goal.returns
returns c =
    record {
      run = worked callee_ended.sender callee_ended.send_journal [] callee_ended-sender_well refl refl;
      ends = record { complete = refl; no_fault = refl };
    }
