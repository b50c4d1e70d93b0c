use Rattle.std.proofs.Common.{◌≡◌, ◌++◌, drop}
use Rattle.cc_typed.specs.Accepts.{sites_of_kinds}
use Rattle.cc_typed.proofs.accepts.sites_of_kinds.Given as goal

abbrev pub invariant-loop-kind : goal.invariant-loop-kind
invariant-loop-kind l = l.sites ++ sites_of_kinds (drop l.kind-index l.kinds) ≡ sites_of_kinds l.kinds
