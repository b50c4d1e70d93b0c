use Rattle.cc_vm.specs.Lists.{IsReady}
use Rattle.cc_vm.specs.Offering.{AllFollow}
use Rattle.cc_vm.specs.Running.{work}
use Rattle.cc_vm.proofs.going.advance.Given as goal

abbrev pub invariant-offers : goal.invariant-offers
invariant-offers l = IsReady l.raw l.room l.lists × AllFollow l.raw l.initial.lists l.initial.alts l.lists l.alts

abbrev pub decreases-offers : goal.decreases-offers
decreases-offers l = work l.lists.registers
