use Rattle.std.proofs.Common.{◌≤◌}
use Rattle.cc_vm.specs.Running.{GoesOn, Ready, work}
use Rattle.cc_vm.proofs.machine.run.Given as goal

abbrev pub invariant-instructions : goal.invariant-instructions
invariant-instructions l =
    Ready l.raw l.room l.stack l.cells l.frames l.r
    × GoesOn l.raw l.initial.stack l.initial.cells l.initial.frames l.initial.r l.stack l.cells l.frames l.r
    × (work l.r ≤ work l.initial.r)

abbrev pub decreases-instructions : goal.decreases-instructions
decreases-instructions l = work l.r
