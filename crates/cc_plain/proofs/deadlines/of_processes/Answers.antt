use Rattle.std.proofs.Common.{ap, ◌∙◌, sym, take}
use Rattle.cc_plain.proofs.Least.{processes-more}
use Rattle.cc_plain.proofs.Loops.{take-item}
use Rattle.cc_plain.specs.Earliest.{earliest, lesser}
use Rattle.cc_rules.specs.Standing.{deadlines_of, process_deadlines}
use Rattle.cc_plain.proofs.deadlines.of_processes.Goals as goal

pub loop-process-preserved : goal.loop-process-preserved
loop-process-preserved c =
    let qs = c.args.processes.now in
    let i = c.loop-process.process-index in
    c.lesser-least.ensures
    ∙ ap (λ o. lesser o c.of_standing.result) c.loop-process.invariant
    ∙ ap (lesser (earliest (process_deadlines (take i qs)))) (c.of_standing.ensures ∙ ap (λ x. earliest (deadlines_of x)) c.standing.ensures)
    ∙ sym (ap (λ xs. earliest (process_deadlines xs)) (take-item qs i c.process-item.result c.loop-process-test.true c.process-item.is) ∙ processes-more (take i qs) c.process-item.result)
