use Rattle.std.proofs.Common.{sym, ◌∙◌}
use Rattle.cc_plain.proofs.Loops.{any-here, any-more}
use Rattle.cc_rules.specs.Choice.{is_immediate}
use Rattle.cc_plain.proofs.alternatives.any_immediate.Goals as goal

pub returns-then-is_immediate : goal.returns-then-is_immediate
returns-then-is_immediate c =
    sym (any-here (λ a. is_immediate a.1) c.args.alts.now c.loop-at.at c.in-Some.item.now c.in-Some.ensures (sym c.is_immediate.ensures ∙ c.if-is_immediate.true))

pub loop-at-preserved : goal.loop-at-preserved
loop-at-preserved c =
    any-more (λ a. is_immediate a.1) c.args.alts.now c.loop-at.at c.in-Some.item.now c.in-Some.ensures c.loop-at.invariant (sym c.is_immediate.ensures ∙ c.if-is_immediate.false)
