use Rattle.cc_kernel.proofs.Untimed.{asks-no-deadline}
use Rattle.cc_source.specs.Early.{early_meaning}
use Rattle.cc_source.specs.Lawful.{early_supported}
use Rattle.command_tests.proofs.drive.run.Goals as goal

pub drive-requires : goal.drive-requires
drive-requires g c = record { no_deadline = asks-no-deadline (early_meaning c.straight-code.result.value) (early_supported c.straight-code.result.value) }
