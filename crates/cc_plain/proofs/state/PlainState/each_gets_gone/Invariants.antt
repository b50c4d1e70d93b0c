use Rattle.std.proofs.Common.{◌≡◌, drop}
use Rattle.cc_rules.specs.Effects.{each_gets_gone}
use Rattle.cc_plain.proofs.state.PlainState.each_gets_gone.Given as goal

abbrev pub invariant-loop-call : goal.invariant-loop-call
invariant-loop-call l =
    record l.self { processes = each_gets_gone l.self.processes (drop l.call-index l.calls) }
    ≡ record l.initial.self { processes = each_gets_gone l.initial.self.processes l.calls }
