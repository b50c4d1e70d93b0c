use Rattle.std.proofs.Common.{sym, ◌∙◌}
use Rattle.cc_kernel.proofs.Loops.{any-here, any-more}
use Rattle.cc_rules.specs.Choice.{is_terminate}
use Rattle.cc_kernel.proofs.choice.has_terminate.Goals as goal

pub returns-then-is_terminate : goal.returns-then-is_terminate
returns-then-is_terminate c =
    sym (any-here (λ a. is_terminate a.1) c.args.alts.now c.loop-at.at c.in-Some.item.now c.in-Some.ensures (sym c.is_terminate.ensures ∙ c.if-is_terminate.true))

pub loop-at-preserved : goal.loop-at-preserved
loop-at-preserved c =
    any-more (λ a. is_terminate a.1) c.args.alts.now c.loop-at.at c.in-Some.item.now c.in-Some.ensures c.loop-at.invariant (sym c.is_terminate.ensures ∙ c.if-is_terminate.false)
