use Rattle.std.proofs.Common.{◌≡◌, drop}
use Rattle.cc_faults.specs.Judged.{after_each}
use Rattle.cc_declared.specs.Announcing.{and_item}
use Rattle.cc_declared.proofs.heads_so_far.Heads.items.Given as goal

abbrev pub invariant-loop-item : goal.invariant-loop-item
invariant-loop-item l = after_each and_item l.self (drop l.item-index l.all) ≡ after_each and_item l.fn.self l.all
