use Rattle.std.proofs.Common.{◌≡◌, false, take}
use Rattle.std.specs.List.{list_any}
use Rattle.cc_rules.specs.Ends.{is_timed}
use Rattle.cc_plain.proofs.ends.some_timed.Given as goal

abbrev pub invariant-loop-process : goal.invariant-loop-process
invariant-loop-process l = list_any (λ q. is_timed q.standing) (take l.process-index l.processes) ≡ false
