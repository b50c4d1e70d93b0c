use Rattle.std.proofs.Common.{◌≡◌, drop}
use Rattle.cc_faults.specs.Declarations.{specified}
use Rattle.cc_declared.proofs.announced.specify_all.Given as goal

abbrev pub invariant-loop-item : goal.invariant-loop-item
invariant-loop-item l = specified l.kind l.names (drop l.item-index l.items) ≡ specified 1 l.fn.names l.items
