use Rattle.std.proofs.Common.{◌∷◌, [], ap, sym, ◌∙◌, arith, length, length-append}
use Rattle.cc_kernel.proofs.Gone.{gone-last}
use Rattle.cc_kernel.proofs.Stacks.{none-served-none, none-served-taken}
use Rattle.cc_kernel.specs.Seats.{gone_seats}
use Rattle.cc_kernel.specs.Stacks.{served_by}
use Rattle.cc_kernel.proofs.asks.drop_served.Goals as goal

pub loop-call-preserved : goal.loop-call-preserved
loop-call-preserved g c =
    let old = served_by c.loop-call.served in
    let new = served_by c.take_innermost.new.self in
    let taken = c.in-Some.ensures.call in
    record {
      seats =
          rw c.answer.ensures
          (gone-last c.loop-call.seats.items (new c.args.server.0) c.in-Some.call
          ∙ ap (gone_seats c.loop-call.seats.items) (sym taken.own)
          ∙ c.loop-call.invariant.seats);
      served = none-served-taken old new c.args.server.0 c.in-Some.call taken ∙ c.loop-call.invariant.served;
      room = (let a = c.loop-call.invariant.room in let b = c.take_innermost.ensures.spare in omega (arith, a, b));
    }

pub loop-call-smaller : goal.loop-call-smaller
loop-call-smaller g c =
    let new = served_by c.take_innermost.new.self in
    let long = ap length c.in-Some.ensures.call.own ∙ length-append (new c.args.server.0) (c.in-Some.call ∷ []) in
    omega (arith, long)

pub returns-clause-seats : goal.returns-clause-seats
returns-clause-seats g c =
    ap (gone_seats c.loop-call.seats.items) (sym c.in_default.ensures.call.1) ∙ c.loop-call.invariant.seats

pub returns-clause-served : goal.returns-clause-served
returns-clause-served g c =
    ap served_by c.in_default.ensures.call.0
    ∙ sym (none-served-none (served_by c.loop-call.served) c.args.server.0 c.in_default.ensures.call.1)
    ∙ c.loop-call.invariant.served
