use Rattle.std.proofs.Common.{◌≡◌, drop}
use Rattle.std.specs.List.{filter}
use Rattle.cc_rules.specs.Effects.{each_gets_gone, is_for}
use Rattle.cc_plain.proofs.state.PlainState.gone_at.Given as goal

abbrev pub invariant-loop-call : goal.invariant-loop-call
invariant-loop-call l =
    record l.self { processes = each_gets_gone l.self.processes (filter (is_for l.target) (drop l.call-index l.calls)) }
    ≡ record l.initial.self { processes = each_gets_gone l.initial.self.processes (filter (is_for l.target) l.calls) }
