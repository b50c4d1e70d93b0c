use Rattle.std.proofs.Common.{ap, sym, ◌∙◌, arith, length, map}
use Rattle.cc_kernel.proofs.Serving.{none-dropped}
use Rattle.cc_kernel.specs.Seats.{gone_seats, served_call}
use Rattle.cc_rules.specs.Effects.{is_for}
use Rattle.cc_kernel.proofs.asks.drop_calls.Goals as goal

pub drop_call-requires-clause-call : goal.drop_call-requires-clause-call
drop_call-requires-clause-call g c = (c.in-Some.ensures.first.0, c.in-Some.ensures.first.1)

pub loop-number-preserved : goal.loop-number-preserved
loop-number-preserved g c =
    let first = c.in-Some.ensures.first in
    record {
      seats =
          rw (c.drop_call.ensures.seats first.0 first.1, c.drop_call.ensures.pending)
          (ap (λ calls. gone_seats c.loop-number.seats.items (map served_call calls)) (sym first.2) ∙ c.loop-number.invariant.seats);
      pending = rw c.drop_call.ensures.pending (c.in-Some.ensures.others ∙ c.loop-number.invariant.pending);
      timed = c.drop_call.ensures.timed;
      fewer = (let a = c.loop-number.invariant.fewer in let b = c.drop_call.ensures.fewer in omega (arith, a, b));
    }

pub loop-number-smaller : goal.loop-number-smaller
loop-number-smaller g c =
    let first = c.in-Some.ensures.first in
    let long = ap length first.2 in
    rw c.drop_call.ensures.pending (omega (arith, long))

pub returns-clause-seats : goal.returns-clause-seats
returns-clause-seats g c =
    ap (λ calls. gone_seats c.loop-number.seats.items (map served_call calls)) (sym c.in_default.ensures.first) ∙ c.loop-number.invariant.seats

pub returns-clause-pending : goal.returns-clause-pending
returns-clause-pending g c =
    sym (none-dropped (is_for c.args.target.0) c.loop-number.pending.items c.in_default.ensures.first) ∙ c.loop-number.invariant.pending
