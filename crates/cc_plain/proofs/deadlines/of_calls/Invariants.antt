use Rattle.std.proofs.Common.{◌≡◌, take}
use Rattle.std.specs.List.{filter_map}
use Rattle.cc_plain.specs.Earliest.{earliest}
use Rattle.cc_rules.specs.Choice.{call_deadline}
use Rattle.cc_plain.proofs.deadlines.of_calls.Given as goal

abbrev pub invariant-loop-call : goal.invariant-loop-call
invariant-loop-call l = l.least ≡ earliest (filter_map (λ call. call_deadline call.waiting) (take l.call-index l.pending))
