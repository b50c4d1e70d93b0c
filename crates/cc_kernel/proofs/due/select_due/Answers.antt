use Rattle.std.proofs.Common.{ap, ◌∙◌, sym, take}
use Rattle.cc_kernel.proofs.Dues.{select-more}
use Rattle.cc_kernel.proofs.Loops.{take-got}
use Rattle.cc_kernel.specs.Due.{earlier, select_due}
use Rattle.cc_kernel.proofs.due.select_due.Goals as goal

pub loop-at-preserved : goal.loop-at-preserved
loop-at-preserved c =
    c.earlier-first.ensures
    ∙ ap (λ o. earlier o c.alternative_due.result) c.loop-at.invariant
    ∙ ap (earlier (select_due c.args.asked (take c.loop-at.at c.args.alts.now))) c.alternative_due.ensures
    ∙ sym (ap (select_due c.args.asked) (take-got c.args.alts.now c.loop-at.at c.in-Some.item.now c.in-Some.ensures) ∙ select-more c.args.asked (take c.loop-at.at c.args.alts.now) c.in-Some.item.now)
