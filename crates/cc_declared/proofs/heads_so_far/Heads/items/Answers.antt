use Rattle.std.proofs.Common.{arith}
use Rattle.cc_declared.specs.Announcing.{and_item}
use Rattle.cc_declared.proofs.Firsts.{walk-end, walk-more}
use Rattle.cc_declared.proofs.heads_so_far.Heads.items.Goals as goal

pub loop-item-preserved : goal.loop-item-preserved
loop-item-preserved c =
    walk-more and_item c.loop-item.self _ _ c.args.all.now c.loop-item.item-index c.item-item.result c.loop-item-test.true c.item-item.is c.in_ok-item.ensures c.loop-item.invariant

pub returns : goal.returns
returns c = walk-end and_item c.loop-item.self _ c.args.all.now c.loop-item.item-index (omega (arith, c.loop-item-test.false)) c.loop-item.invariant
