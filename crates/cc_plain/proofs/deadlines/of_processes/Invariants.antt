use Rattle.std.proofs.Common.{◌≡◌, take}
use Rattle.cc_plain.specs.Earliest.{earliest}
use Rattle.cc_rules.specs.Standing.{process_deadlines}
use Rattle.cc_plain.proofs.deadlines.of_processes.Given as goal

abbrev pub invariant-loop-process : goal.invariant-loop-process
invariant-loop-process l = l.least ≡ earliest (process_deadlines (take l.process-index l.processes))
