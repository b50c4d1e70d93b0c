use Rattle.std.proofs.Common.{ap, ◌∙◌, arith}
use Rattle.cc_declared.specs.Entering.{and_name_found}
use Rattle.cc_declared.proofs.Entered.{names-once}
use Rattle.cc_declared.proofs.Firsts.{walk-end, walk-read}
use Rattle.cc_declared.proofs.bodies.names_once.Goals as goal

pub loop-x-preserved : goal.loop-x-preserved
loop-x-preserved c =
    let least = c.in_ok-name_once.ensures.noted in
    let names = c.in_ok-name_once.ensures.names in
    walk-read and_name_found (c.loop-x.least, c.loop-x.names) (c.name_once.new.least, c.name_once.new.names) _ c.args.all.now c.loop-x.x-index _ c.loop-x-test.true (λ i. (least i, names i)) c.loop-x.invariant

pub returns : goal.returns
returns c =
    record { noted = ap (λ w. w.0) (walk-end and_name_found (c.loop-x.least, c.loop-x.names) _ c.args.all.now c.loop-x.x-index (omega (arith, c.loop-x-test.false)) c.loop-x.invariant) ∙ names-once c.args.least.now c.args.all.now }
