use Rattle.std.proofs.Common.{◌≡◌, rules}
use Rattle.std.proofs.lemmas.List.Sums.{prefix_len-le-length}
use Rattle.cc_rules.specs.Lists.{with_fault}
use Rattle.cc_rules.proofs.Places.{PidsRise-with_fault, placed}
use Rattle.cc_rules.proofs.faults.Faults.add.Goals as goal

pub insert-requires : goal.insert-requires
insert-requires c = search (rules, prefix_len-le-length)

pub invariant_of-self : goal.invariant_of-self
invariant_of-self c =
    let is : c.insert.new.self.items ≡ with_fault c.self.inside.items.items c.args.item =
    placed _ _ _ _ c.in-Ok.ensures.items (rw (← c.self.view_is) at c.place_of-at.ensures) in
    rw is (PidsRise-with_fault _ _ c.self.invariant (rw (← c.self.view_is) at c.requires.absent))

pub returns-clause-items : goal.returns-clause-items
returns-clause-items c =
    rw (← c.self.view_is) (placed _ _ _ _ c.in-Ok.ensures.items (rw (← c.self.view_is) at c.place_of-at.ensures))
