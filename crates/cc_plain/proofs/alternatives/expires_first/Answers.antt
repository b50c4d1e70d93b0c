use Rattle.std.proofs.Common.{sym, ap, ◌∙◌, ℕ}
use Rattle.cc_plain.proofs.Loops.{all-here, all-more}
use Rattle.cc_base.specs.declared.alternatives.Alt.{Alt}
use Rattle.cc_rules.specs.Choice.{alternative_deadline, expires_before}
use Rattle.cc_plain.proofs.alternatives.expires_first.Goals as goal

pub returns-then-not-expires_before : goal.returns-then-not-expires_before
returns-then-not-expires_before c =
    let test = λ (b : ℕ × Alt). expires_before c.args.deadline c.args.number (alternative_deadline c.args.asked b.1) b.0 in
    sym (all-here test c.args.alts.now c.loop-at.at c.in-Some.item.now c.in-Some.ensures
    (ap (λ o. expires_before c.args.deadline c.args.number o c.in-Some.item.now.0) (sym c.alternative_deadline.ensures) ∙ sym c.expires_before.ensures ∙ c.if-not-expires_before.true))

pub loop-at-preserved : goal.loop-at-preserved
loop-at-preserved c =
    let test = λ (b : ℕ × Alt). expires_before c.args.deadline c.args.number (alternative_deadline c.args.asked b.1) b.0 in
    all-more test c.args.alts.now c.loop-at.at c.in-Some.item.now c.in-Some.ensures c.loop-at.invariant
    (ap (λ o. expires_before c.args.deadline c.args.number o c.in-Some.item.now.0) (sym c.alternative_deadline.ensures) ∙ sym c.expires_before.ensures ∙ c.if-not-expires_before.false)
