use Rattle.std.proofs.Common.{refl, sym, append_assoc, arith}
use Rattle.cc_names.specs.Mentions.{in_transactions}
use Rattle.cc_names.specs.Seen.{in_transaction}
use Rattle.cc_names.proofs.CodeWalks.{transactions-more}
use Rattle.cc_names.proofs.Walks.{seen-end, seen-more}
use Rattle.cc_names.proofs.item_mentions.see_transactions.Goals as goal

pub loop-d-preserved : goal.loop-d-preserved
loop-d-preserved c =
    seen-more in_transaction in_transactions (transactions-more) c.loop-d.numbers c.see_transaction.new.numbers _ c.args.all.now c.loop-d.d-index c.d-item.result
    c.loop-d-test.true c.d-item.is c.in_ok-see_transaction.ensures c.loop-d.invariant

pub returns : goal.returns
returns c = seen-end in_transaction in_transactions refl c.loop-d.numbers _ c.args.all.now c.loop-d.d-index (omega (arith, c.loop-d-test.false)) c.loop-d.invariant
