use Rattle.std.proofs.Common.{arith}
use Rattle.cc_declared.proofs.Announces.{specified-end, specified-more}
use Rattle.cc_declared.proofs.announced.specify_all.Goals as goal

pub loop-item-preserved : goal.loop-item-preserved
loop-item-preserved c =
    specified-more c.args.items.now c.loop-item.item-index c.loop-item.kind _ c.loop-item.names _ _ c.item-item.result c.loop-item-test.true c.item-item.is c.in_ok-kind.ensures.kind c.in_ok-kind.ensures.names c.loop-item.invariant

pub returns : goal.returns
returns c =
    specified-end c.args.items.now c.loop-item.item-index c.loop-item.kind c.loop-item.names _ (omega (arith, c.loop-item-test.false)) c.loop-item.invariant
