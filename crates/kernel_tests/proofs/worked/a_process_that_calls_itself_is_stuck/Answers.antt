use Rattle.std.proofs.Common.{refl, []}
use Rattle.kernel_tests.proofs.Calm.{worked}
use Rattle.kernel_tests.proofs.WorkedWell.{calls_itself-well}
use Rattle.kernel_tests.specs.Worked.CallsItself as calls_itself
use Rattle.kernel_tests.proofs.worked.a_process_that_calls_itself_is_stuck.Goals as goal

pub returns : goal.returns
returns c =
    record {
      run = worked calls_itself.program calls_itself.journal [] calls_itself-well refl refl;
      ends = refl;
      no_time = refl;
    }
