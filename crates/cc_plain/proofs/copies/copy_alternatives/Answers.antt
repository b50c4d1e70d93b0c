use Rattle.std.proofs.Common.{sym, ap, ◌∙◌, ◌++◌, ◌∷◌, [], take}
use Rattle.cc_plain.proofs.Loops.{below-taken, take-got}
use Rattle.cc_plain.proofs.copies.copy_alternatives.Goals as goal

pub push-requires : goal.push-requires
push-requires c =
    below-taken c.args.alts.now c.loop-at.copies c.loop-at.at c.in-Some.item.now c.loop-at.invariant c.len-at-end.ensures.rising c.in-Some.ensures

pub loop-at-preserved : goal.loop-at-preserved
loop-at-preserved c =
    c.in_ok-push.ensures.ok
    ∙ ap (λ xs. xs ++ (c.in-Some.item.now.0, c.in_ok-copy_alternative.field-0) ∷ []) c.loop-at.invariant
    ∙ ap (λ y. take c.loop-at.at c.args.alts.now ++ (c.in-Some.item.now.0, y) ∷ []) c.in_ok-copy_alternative.ensures
    ∙ sym (take-got c.args.alts.now c.loop-at.at c.in-Some.item.now c.in-Some.ensures)
