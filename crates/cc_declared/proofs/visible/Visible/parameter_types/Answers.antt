use Rattle.std.proofs.Common.{ap, ◌∙◌, arith}
use Rattle.cc_declared.specs.Lists.{and_put}
use Rattle.cc_declared.specs.Walks.{and_parameter_found}
use Rattle.cc_declared.proofs.Firsts.{walk-end, walk-read}
use Rattle.cc_declared.proofs.visible.Visible.parameter_types.Goals as goal

pub loop-p-preserved : goal.loop-p-preserved
loop-p-preserved c =
    let types = c.in_ok-types.ensures ∙ ap (and_put c.loop-p.types) c.noted_value_type-found.ensures.outcome in
    let least = c.noted_value_type-found.ensures.noted in
    walk-read (and_parameter_found c.args.self.now) (c.loop-p.types, c.loop-p.least) (c.in_ok-types.types, c.noted_value_type-found.new.least) _ c.args.all.now c.loop-p.p-index _ c.loop-p-test.true (λ i. (types i, least i)) c.loop-p.invariant

pub returns-clause-types : goal.returns-clause-types
returns-clause-types c =
    ap (λ w. w.0) (walk-end (and_parameter_found c.args.self.now) (c.loop-p.types, c.loop-p.least) _ c.args.all.now c.loop-p.p-index (omega (arith, c.loop-p-test.false)) c.loop-p.invariant)

pub returns-clause-noted : goal.returns-clause-noted
returns-clause-noted c =
    ap (λ w. w.1) (walk-end (and_parameter_found c.args.self.now) (c.loop-p.types, c.loop-p.least) _ c.args.all.now c.loop-p.p-index (omega (arith, c.loop-p-test.false)) c.loop-p.invariant)
