use Rattle.std.proofs.Common.{refl, []}
use Rattle.kernel_tests.proofs.Calm.{worked}
use Rattle.kernel_tests.proofs.WorkedWell.{callee_ended-caller_well}
use Rattle.kernel_tests.specs.Worked.CalleeEnded as callee_ended
use Rattle.kernel_tests.proofs.worked.a_call_of_a_process_that_ended_is_a_fault.Goals as goal

pub returns : goal.returns
returns c =
    record {
      run = worked callee_ended.caller callee_ended.call_journal [] callee_ended-caller_well refl refl;
      ends = record { complete = refl; fault = refl };
      fault = refl;
      no_number = refl;
      not_done = refl;
    }
