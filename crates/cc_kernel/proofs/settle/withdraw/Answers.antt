use Rattle.std.proofs.Common.{◌≡◌, refl, ap, sym, ◌∙◌, not, nat_eq}
use Rattle.std.specs.List.{filter}
use Rattle.cc_base.specs.declared.request.Grant.TheVariants.{Late}
use Rattle.cc_kernel.proofs.Serving.{found-at}
use Rattle.cc_kernel.specs.Seats.{answered_seats, served_call}
use Rattle.cc_kernel.specs.Timed.{without_some}
use Rattle.cc_rules.specs.Choice.{call_deadline}
use Rattle.cc_rules.specs.declared.process.TransactionCall.{TransactionCall}
use Rattle.cc_timer.specs.declared.who.Who.TheVariants as who
use Rattle.cc_kernel.proofs.settle.withdraw.Goals as goal

pub returns-clause-contents : goal.returns-clause-contents
returns-clause-contents g c call found =
    let old = c.args.store.now in
    let taken = sym c.take_call-late.ensures.call ∙ found in
    let same : c.take_call-late.result ≡ call = cc in
    let number = (found-at old.pending.items c.args.number.0 call found).0 in
    let own : call.number ≡ c.args.number = ap (λ n. record { 0 = n }) number in
    let pending =
    c.take_call-late.ensures.pending
    ∙ ap (λ n. filter (λ (other : TransactionCall). not (nat_eq other.number.0 n)) old.pending.items) (sym number) in
    let deadlines =
    c.take_call-late.ensures.deadlines
    ∙ ap (λ n. without_some (call_deadline c.take_call-late.result.waiting) (who.Call n) old.deadlines.pairs) (sym own) in
    let seats = c.answer.ensures ∙ ap (λ k. answered_seats old.seats.items k Late) (c.served_call.ensures ∙ ap served_call same) in
    rw (seats, pending, deadlines, same) refl
