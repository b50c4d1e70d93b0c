use Rattle.std.proofs.Common.{rules, ◌≡◌, ap, ◌∙◌}
use Rattle.cc_base.specs.Numbers.{in_range}
use Rattle.cc_base.specs.declared.numbers.NumberType.TheVariants as numeric
use Rattle.cc_faults.specs.Declarations.{signed}
use Rattle.cc_faults.specs.Faults.{noted}
use Rattle.cc_faults.specs.Judged.{faults, outcome}
use Rattle.cc_declared.specs.Lists.{faults_ruled, ruled}
use Rattle.cc_declared.proofs.Values.{signed-int}
use Rattle.cc_declared.proofs.enumerations.with_sign.Goals as goal

pub returns-in-Ok-clause-outcome : goal.returns-in-Ok-clause-outcome
unfolding ruled
returns-in-Ok-clause-outcome c =
    let e : c.signed.result ≡ in_range numeric.Int (signed c.args.negative c.in-Ok.value) = search rules in
    rw c.in-Ok.is (c.int_at.ensures.outcome ∙ ap (λ j. outcome j) (signed-int c.args.x (signed c.args.negative c.in-Ok.value) c.signed.result e))

pub returns-in-Ok-clause-noted : goal.returns-in-Ok-clause-noted
unfolding faults_ruled
returns-in-Ok-clause-noted c =
    let e : c.signed.result ≡ in_range numeric.Int (signed c.args.negative c.in-Ok.value) = search rules in
    rw c.in-Ok.is (c.int_at.ensures.noted ∙ ap (λ j. noted c.args.least.now (faults j)) (signed-int c.args.x (signed c.args.negative c.in-Ok.value) c.signed.result e))
