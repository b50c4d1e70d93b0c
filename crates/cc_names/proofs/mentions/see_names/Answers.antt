use Rattle.std.proofs.Common.{refl, sym, append_assoc, arith}
use Rattle.cc_names.specs.Mentions.{in_name, in_names}
use Rattle.cc_names.proofs.Walks.{seen-end, seen-more}
use Rattle.cc_names.proofs.mentions.see_names.Goals as goal

pub loop-x-preserved : goal.loop-x-preserved
loop-x-preserved c =
    seen-more in_name in_names (λ x xs. refl) c.loop-x.numbers c.see_name.new.numbers _ c.args.xs.now c.loop-x.x-index c.x-item.result
    c.loop-x-test.true c.x-item.is c.in_ok-see_name.ensures c.loop-x.invariant

pub returns : goal.returns
returns c = seen-end in_name in_names refl c.loop-x.numbers _ c.args.xs.now c.loop-x.x-index (omega (arith, c.loop-x-test.false)) c.loop-x.invariant
