use Rattle.std.proofs.Common.{ap, ◌∙◌, sym, ℕ, take}
use Rattle.std.specs.List.{filter_map}
use Rattle.cc_base.specs.declared.alternatives.Alt.{Alt}
use Rattle.cc_plain.proofs.Least.{earliest-more}
use Rattle.cc_plain.proofs.Loops.{take-got}
use Rattle.cc_plain.specs.Earliest.{earliest, lesser}
use Rattle.cc_rules.specs.Choice.{alternative_deadline}
use Rattle.cc_plain.proofs.deadlines.of_alternatives.Goals as goal

pub loop-at-preserved : goal.loop-at-preserved
loop-at-preserved c =
    let f = λ (a : ℕ × Alt). alternative_deadline c.args.asked a.1 in
    c.lesser-least.ensures
    ∙ ap (λ o. lesser o c.alternative_deadline.result) c.loop-at.invariant
    ∙ ap (lesser (earliest (filter_map f (take c.loop-at.at c.args.alts.now)))) c.alternative_deadline.ensures
    ∙ sym (ap (λ xs. earliest (filter_map f xs)) (take-got c.args.alts.now c.loop-at.at c.in-Some.item.now c.in-Some.ensures) ∙ earliest-more f (take c.loop-at.at c.args.alts.now) c.in-Some.item.now)
