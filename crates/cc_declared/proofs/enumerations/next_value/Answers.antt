use Rattle.std.proofs.Common.{rules, ◌≡◌, pos, ap, ◌∙◌}
use Rattle.cc_base.specs.Numbers.{operated}
use Rattle.cc_base.specs.declared.numbers.NumberType.TheVariants as numeric
use Rattle.cc_base.specs.declared.numbers.Operator.TheVariants.{Add}
use Rattle.cc_faults.specs.Faults.{noted}
use Rattle.cc_faults.specs.Judged.{faults, outcome}
use Rattle.cc_declared.proofs.Values.{next-int}
use Rattle.cc_declared.proofs.enumerations.next_value.Goals as goal

pub returns-in-Ok-clause-outcome : goal.returns-in-Ok-clause-outcome
returns-in-Ok-clause-outcome c =
    let e : c.operate.result ≡ operated Add numeric.Int c.in-Ok.value (pos 1) = search rules in
    rw c.in-Ok.is (c.int_at.ensures.outcome ∙ ap (λ j. outcome j) (next-int c.args.x c.in-Ok.value c.operate.result e))

pub returns-in-Ok-clause-noted : goal.returns-in-Ok-clause-noted
returns-in-Ok-clause-noted c =
    let e : c.operate.result ≡ operated Add numeric.Int c.in-Ok.value (pos 1) = search rules in
    rw c.in-Ok.is (c.int_at.ensures.noted ∙ ap (λ j. noted c.args.least.now (faults j)) (next-int c.args.x c.in-Ok.value c.operate.result e))
