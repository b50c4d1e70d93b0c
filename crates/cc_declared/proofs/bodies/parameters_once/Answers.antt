use Rattle.std.proofs.Common.{[], ap, ◌∙◌, arith}
use Rattle.cc_faults.specs.Programs.{names_in}
use Rattle.cc_declared.specs.Entering.{and_parameter_name}
use Rattle.cc_declared.proofs.Entered.{names-once, same-names}
use Rattle.cc_declared.proofs.Firsts.{walk-end, walk-read}
use Rattle.cc_declared.proofs.bodies.parameters_once.Goals as goal

pub loop-p-preserved : goal.loop-p-preserved
loop-p-preserved c =
    let least = c.in_ok-name_once.ensures.noted in
    let names = c.in_ok-name_once.ensures.names in
    walk-read and_parameter_name (c.loop-p.least, c.loop-p.names) (c.name_once.new.least, c.name_once.new.names) _ c.args.all.now c.loop-p.p-index _ c.loop-p-test.true (λ i. (least i, names i)) c.loop-p.invariant

pub returns : goal.returns
returns c =
    ap (λ w. w.0) (walk-end and_parameter_name (c.loop-p.least, c.loop-p.names) _ c.args.all.now c.loop-p.p-index (omega (arith, c.loop-p-test.false)) c.loop-p.invariant)
    ∙ ap (λ w. w.0) (same-names (c.args.least.now, []) c.args.all.now)
    ∙ names-once c.args.least.now (names_in c.args.all.now)
