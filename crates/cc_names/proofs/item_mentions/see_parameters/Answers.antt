use Rattle.std.proofs.Common.{refl, sym, append_assoc, arith}
use Rattle.cc_names.specs.Mentions.{in_name, in_parameters, in_type}
use Rattle.cc_names.specs.Seen.{in_parameter}
use Rattle.cc_names.proofs.Walks.{seen-end, seen-more}
use Rattle.cc_names.proofs.item_mentions.see_parameters.Goals as goal

pub loop-p-preserved : goal.loop-p-preserved
loop-p-preserved c =
    seen-more in_parameter in_parameters (λ p ps. sym (append_assoc (in_type p.of) (in_name p.name) (in_parameters ps))) c.loop-p.numbers c.see_parameter.new.numbers _ c.args.all.now c.loop-p.p-index c.p-item.result
    c.loop-p-test.true c.p-item.is c.in_ok-see_parameter.ensures c.loop-p.invariant

pub returns : goal.returns
returns c = seen-end in_parameter in_parameters refl c.loop-p.numbers _ c.args.all.now c.loop-p.p-index (omega (arith, c.loop-p-test.false)) c.loop-p.invariant
