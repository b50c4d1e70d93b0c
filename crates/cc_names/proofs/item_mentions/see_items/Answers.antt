use Rattle.std.proofs.Common.{refl, sym, append_assoc, arith}
use Rattle.cc_names.specs.Mentions.{in_item, in_items}
use Rattle.cc_names.proofs.Walks.{seen-end, seen-more}
use Rattle.cc_names.proofs.item_mentions.see_items.Goals as goal

pub loop-item-preserved : goal.loop-item-preserved
loop-item-preserved c =
    seen-more in_item in_items (λ i rest. refl) c.loop-item.numbers c.see_item.new.numbers _ c.args.all.now c.loop-item.item-index c.item-item.result
    c.loop-item-test.true c.item-item.is c.in_ok-see_item.ensures c.loop-item.invariant

pub returns : goal.returns
returns c = seen-end in_item in_items refl c.loop-item.numbers _ c.args.all.now c.loop-item.item-index (omega (arith, c.loop-item-test.false)) c.loop-item.invariant
