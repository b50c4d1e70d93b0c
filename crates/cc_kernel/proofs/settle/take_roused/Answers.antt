use Rattle.cc_kernel.proofs.Settling.{goes-none, goes-one}
use Rattle.cc_kernel.specs.Store.{contents}
use Rattle.cc_kernel.proofs.settle.take_roused.Goals as goal

pub returns-clause-goes_on : goal.returns-clause-goes_on
returns-clause-goes_on g c s k =
    let m = g.B.Behave.means c.args.code.now in
    let located = g.B.Behave.at c.args.code.now in
    let x = contents c.args.store.now in
    rw c.add.ensures.items
    (goes-one m located s c.args.journal.now.items c.args.journal.now.items x (contents c.take_one.new.store) c.in-Some-take_one.event
    (goes-none m located s c.args.journal.now.items x k)
    c.in-Some-take_one.ensures.takes)
