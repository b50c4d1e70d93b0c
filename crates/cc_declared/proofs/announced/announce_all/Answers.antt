use Rattle.std.proofs.Common.{arith}
use Rattle.cc_declared.proofs.Announces.{announced-end, announced-more}
use Rattle.cc_declared.proofs.announced.announce_all.Goals as goal

pub loop-item-preserved : goal.loop-item-preserved
loop-item-preserved c =
    announced-more c.args.items.now c.loop-item.item-index c.loop-item.count _ c.loop-item.names _ _ c.item-item.result c.loop-item-test.true c.item-item.is c.in_ok-count.ensures.count c.in_ok-count.ensures.names c.loop-item.invariant

pub returns : goal.returns
returns c =
    announced-end c.args.items.now c.loop-item.item-index c.loop-item.count c.loop-item.names _ (omega (arith, c.loop-item-test.false)) c.loop-item.invariant
