use Rattle.std.proofs.Common.{◌≡◌, drop}
use Rattle.cc_rules.specs.Choice.{call_numbered}
use Rattle.cc_plain.proofs.state.PlainState.call_numbered.Given as goal

abbrev pub invariant-loop-call : goal.invariant-loop-call
invariant-loop-call l = call_numbered (drop l.call-index l.call-items) l.number.0 ≡ call_numbered l.call-items l.number.0
