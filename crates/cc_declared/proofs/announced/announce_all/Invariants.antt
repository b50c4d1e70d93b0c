use Rattle.std.proofs.Common.{◌≡◌, drop}
use Rattle.cc_faults.specs.Declarations.{announced}
use Rattle.cc_declared.proofs.announced.announce_all.Given as goal

abbrev pub invariant-loop-item : goal.invariant-loop-item
invariant-loop-item l = announced l.count l.names (drop l.item-index l.items) ≡ announced 0 l.fn.names l.items
