use Rattle.std.proofs.Common.{ap, ◌∙◌, sym, take}
use Rattle.std.specs.List.{filter_map}
use Rattle.cc_plain.proofs.Least.{earliest-more}
use Rattle.cc_plain.proofs.Loops.{take-item}
use Rattle.cc_plain.specs.Earliest.{earliest, lesser}
use Rattle.cc_rules.specs.Choice.{call_deadline}
use Rattle.cc_rules.specs.declared.process.TransactionCall.{TransactionCall}
use Rattle.cc_plain.proofs.deadlines.of_calls.Goals as goal

pub loop-call-preserved : goal.loop-call-preserved
loop-call-preserved c =
    let f = λ (call : TransactionCall). call_deadline call.waiting in
    let calls = c.args.pending.now in
    let i = c.loop-call.call-index in
    c.lesser-least.ensures
    ∙ ap (λ o. lesser o c.call_deadline.result) c.loop-call.invariant
    ∙ ap (lesser (earliest (filter_map f (take i calls)))) c.call_deadline.ensures
    ∙ sym (ap (λ xs. earliest (filter_map f xs)) (take-item calls i c.call-item.result c.loop-call-test.true c.call-item.is) ∙ earliest-more f (take i calls) c.call-item.result)
