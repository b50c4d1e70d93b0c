use Rattle.std.proofs.Common.{ap, ◌∙◌, arith}
use Rattle.cc_declared.specs.Lists.{and_put}
use Rattle.cc_declared.specs.Walks.{and_type_found}
use Rattle.cc_declared.proofs.Firsts.{walk-end, walk-read}
use Rattle.cc_declared.proofs.visible.Visible.types.Goals as goal

pub loop-t-preserved : goal.loop-t-preserved
loop-t-preserved c =
    let types = c.in_ok-types.ensures ∙ ap (and_put c.loop-t.types) c.noted_value_type-found.ensures.outcome in
    let least = c.noted_value_type-found.ensures.noted in
    walk-read (and_type_found c.args.self.now) (c.loop-t.types, c.loop-t.least) (c.in_ok-types.types, c.noted_value_type-found.new.least) _ c.args.all.now c.loop-t.t-index _ c.loop-t-test.true (λ i. (types i, least i)) c.loop-t.invariant

pub returns-clause-types : goal.returns-clause-types
returns-clause-types c =
    ap (λ w. w.0) (walk-end (and_type_found c.args.self.now) (c.loop-t.types, c.loop-t.least) _ c.args.all.now c.loop-t.t-index (omega (arith, c.loop-t-test.false)) c.loop-t.invariant)

pub returns-clause-noted : goal.returns-clause-noted
returns-clause-noted c =
    ap (λ w. w.1) (walk-end (and_type_found c.args.self.now) (c.loop-t.types, c.loop-t.least) _ c.args.all.now c.loop-t.t-index (omega (arith, c.loop-t-test.false)) c.loop-t.invariant)
