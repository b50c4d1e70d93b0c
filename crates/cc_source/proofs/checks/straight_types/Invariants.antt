use Rattle.std.proofs.Common.{◌≡◌, drop}
use Rattle.std.specs.List.{list_all}
use Rattle.cc_source.specs.Straight.{is_straight_type}
use Rattle.cc_source.proofs.checks.straight_types.Given as goal

abbrev pub invariant-loop-t : goal.invariant-loop-t
invariant-loop-t l = list_all is_straight_type (drop l.t-index l.types) ≡ list_all is_straight_type l.types
