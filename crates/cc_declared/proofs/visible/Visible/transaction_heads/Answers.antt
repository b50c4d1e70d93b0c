use Rattle.cc_declared.proofs.Announces.{heads-more}
use Rattle.cc_declared.proofs.visible.Visible.transaction_heads.Goals as goal

pub loop-d-preserved : goal.loop-d-preserved
loop-d-preserved c =
    heads-more c.args.self.now c.args.transactions.now c.loop-d.d-index c.loop-d.number c.in_ok-number.number c.d-item.result c.loop-d.heads c.push.new.self _ c.in_ok-transaction_head.field-0 c.loop-d-test.true c.d-item.is c.in_ok-transaction_head.ensures c.in_ok-push.ensures.ok c.in_ok-number.ensures c.loop-d.invariant
