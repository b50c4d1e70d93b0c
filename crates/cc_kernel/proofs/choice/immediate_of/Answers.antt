use Rattle.std.proofs.Common.{sym, ap, ◌∙◌, false}
use Rattle.std.specs.Option.{option_map_or}
use Rattle.cc_kernel.proofs.Chosen.{numbered-is}
use Rattle.cc_kernel.proofs.Loops.{any-more, any-whole}
use Rattle.cc_rules.specs.Choice.{is_immediate}
use Rattle.cc_kernel.proofs.choice.immediate_of.Goals as goal

pub returns-then-is_immediate : goal.returns-then-is_immediate
returns-then-is_immediate c =
    ap (λ o. option_map_or is_immediate o false) (numbered-is c.args.alts.now c.loop-at.at c.in-Some.item.now c.len-at-end.ensures.rising c.in-Some.ensures)
    ∙ sym c.is_immediate.ensures
    ∙ c.if-is_immediate.true

pub loop-at-preserved : goal.loop-at-preserved
loop-at-preserved c =
    any-more (λ a. is_immediate a.1) c.args.alts.now c.loop-at.at c.in-Some.item.now c.in-Some.ensures c.loop-at.invariant (sym c.is_immediate.ensures ∙ c.if-is_immediate.false)

pub returns : goal.returns
returns c =
    any-whole (λ a. is_immediate a.1) c.args.alts.now c.loop-at.at (rw c.len-at-end.ensures.len at c.loop-at-test.false) c.loop-at.invariant
