use Rattle.std.proofs.Common.{refl, sym, append_assoc, arith}
use Rattle.cc_names.specs.Mentions.{in_constants, in_name, in_value}
use Rattle.cc_names.specs.Seen.{in_constant}
use Rattle.cc_names.proofs.Walks.{seen-end, seen-more}
use Rattle.cc_names.proofs.item_mentions.see_constants.Goals as goal

pub loop-c-preserved : goal.loop-c-preserved
loop-c-preserved c =
    seen-more in_constant in_constants (λ k ks. sym (append_assoc (in_name k.name) (in_value k.value) (in_constants ks))) c.loop-c.numbers c.see_constant.new.numbers _ c.args.all.now c.loop-c.c-index c.c-item.result
    c.loop-c-test.true c.c-item.is c.in_ok-see_constant.ensures c.loop-c.invariant

pub returns : goal.returns
returns c = seen-end in_constant in_constants refl c.loop-c.numbers _ c.args.all.now c.loop-c.c-index (omega (arith, c.loop-c-test.false)) c.loop-c.invariant
