use Rattle.std.proofs.Common.{refl, sym, append_assoc, arith}
use Rattle.cc_names.specs.Mentions.{in_parameter_types}
use Rattle.cc_names.specs.Seen.{in_parameter_type}
use Rattle.cc_names.proofs.Walks.{seen-end, seen-more}
use Rattle.cc_names.proofs.item_mentions.see_parameter_types.Goals as goal

pub loop-p-preserved : goal.loop-p-preserved
loop-p-preserved c =
    seen-more in_parameter_type in_parameter_types (λ p ps. refl) c.loop-p.numbers c.see_parameter_type.new.numbers _ c.args.all.now c.loop-p.p-index c.p-item.result
    c.loop-p-test.true c.p-item.is c.in_ok-see_parameter_type.ensures c.loop-p.invariant

pub returns : goal.returns
returns c = seen-end in_parameter_type in_parameter_types refl c.loop-p.numbers _ c.args.all.now c.loop-p.p-index (omega (arith, c.loop-p-test.false)) c.loop-p.invariant
