use Rattle.std.proofs.Common.{sym, ap, ◌∙◌, ℕ}
use Rattle.std.specs.Prelude.{is_some}
use Rattle.cc_plain.proofs.Loops.{any-here, any-more}
use Rattle.cc_base.specs.declared.alternatives.Alt.{Alt}
use Rattle.cc_rules.specs.Choice.{alternative_deadline}
use Rattle.cc_plain.proofs.alternatives.some_delay.Goals as goal

pub returns-then-is_some : goal.returns-then-is_some
returns-then-is_some c =
    let test = λ (a : ℕ × Alt). is_some (alternative_deadline c.args.asked a.1) in
    sym (any-here test c.args.alts.now c.loop-at.at c.in-Some.item.now c.in-Some.ensures
    (ap is_some (sym c.alternative_deadline.ensures) ∙ sym c.is_some.ensures ∙ c.if-is_some.true))

pub loop-at-preserved : goal.loop-at-preserved
loop-at-preserved c =
    let test = λ (a : ℕ × Alt). is_some (alternative_deadline c.args.asked a.1) in
    any-more test c.args.alts.now c.loop-at.at c.in-Some.item.now c.in-Some.ensures c.loop-at.invariant
    (ap is_some (sym c.alternative_deadline.ensures) ∙ sym c.is_some.ensures ∙ c.if-is_some.false)
