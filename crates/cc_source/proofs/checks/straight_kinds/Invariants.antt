use Rattle.std.proofs.Common.{◌≡◌, drop}
use Rattle.std.specs.List.{list_all}
use Rattle.cc_source.specs.Straight.{is_straight_kind}
use Rattle.cc_source.proofs.checks.straight_kinds.Given as goal

abbrev pub invariant-loop-kind : goal.invariant-loop-kind
invariant-loop-kind l = list_all is_straight_kind (drop l.kind-index l.kinds) ≡ list_all is_straight_kind l.kinds
