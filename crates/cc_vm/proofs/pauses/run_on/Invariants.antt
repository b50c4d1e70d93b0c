use Rattle.std.proofs.Common.{◌*◌, ◌-◌, ◌^◌, ◌≤◌}
use Rattle.cc_vm.specs.Lists.{GoOn, IsReady, size}
use Rattle.cc_vm.specs.Running.{work}
use Rattle.cc_vm.proofs.pauses.run_on.Given as goal

abbrev pub invariant-growths : goal.invariant-growths
invariant-growths l = IsReady l.raw l.room l.lists × GoOn l.raw l.initial.lists l.lists × (work l.lists.registers ≤ work l.initial.lists.registers)

abbrev pub decreases-growths : goal.decreases-growths
decreases-growths l = 3 * 2 ^ 64 - size l.lists
