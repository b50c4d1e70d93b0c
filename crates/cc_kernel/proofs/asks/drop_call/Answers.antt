use Rattle.std.proofs.Common.{ap, sym, ◌∙◌, ◌≡◌}
use Rattle.cc_base.specs.declared.request.Grant.TheVariants.{Gone}
use Rattle.cc_kernel.proofs.Timed.{answered-timed, shorter-without, stands-for, taken-timed}
use Rattle.cc_kernel.specs.Seats.{answered_seats, served_call}
use Rattle.cc_rules.specs.Choice.{call_deadline}
use Rattle.cc_timer.specs.declared.who.Who.TheVariants as who
use Rattle.cc_kernel.proofs.asks.drop_call.Goals as goal

pub take_call-call-requires-clause-stands : goal.take_call-call-requires-clause-stands
take_call-call-requires-clause-stands g c n e =
    stands-for c.args.seats.now.items c.args.pending.now.items c.args.deadlines.now.pairs (who.Call c.args.number) n c.requires.timed e

pub returns-clause-seats : goal.returns-clause-seats
returns-clause-seats g c call found =
    let taken = sym c.take_call-call.ensures.call ∙ found in
    let same : c.take_call-call.result ≡ call = cc in
    c.answer.ensures ∙ ap (λ k. answered_seats c.args.seats.now.items k Gone) (c.served_call.ensures ∙ ap served_call same)

pub returns-clause-timed : goal.returns-clause-timed
returns-clause-timed g c =
    rw (c.answer.ensures, c.take_call-call.ensures.pending, c.take_call-call.ensures.deadlines)
    (answered-timed c.args.seats.now.items _ _ c.served_call.result Gone
    (taken-timed c.args.seats.now.items c.args.pending.now.items c.args.deadlines.now.pairs c.args.number c.take_call-call.result c.take_call-call.ensures.call c.requires.timed))

pub returns-clause-fewer : goal.returns-clause-fewer
returns-clause-fewer g c =
    rw c.take_call-call.ensures.deadlines (shorter-without (call_deadline c.take_call-call.result.waiting) (who.Call c.args.number) c.args.deadlines.now.pairs)
