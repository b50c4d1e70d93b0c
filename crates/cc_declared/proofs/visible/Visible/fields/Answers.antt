use Rattle.std.proofs.Common.{ap, arith}
use Rattle.cc_declared.specs.Walks.{and_field_found}
use Rattle.cc_declared.proofs.FieldWalks.{fields-more}
use Rattle.cc_declared.proofs.Firsts.{walk-end}
use Rattle.cc_declared.proofs.visible.Visible.fields.Goals as goal

pub loop-f-preserved : goal.loop-f-preserved
loop-f-preserved c =
    fields-more c.args.self.now c.loop-f.types c.in_ok-types.types c.field-found.result c.loop-f.least c.field-found.new.least c.loop-f.names c.see.new.self _ c.args.fields.now c.loop-f.f-index _ c.in_ok-taken.taken c.loop-f-test.true c.in_ok-taken.ensures.before c.field-found.ensures.outcome c.field-found.ensures.noted c.in_ok-types.ensures c.in_ok-taken.ensures.names c.loop-f.invariant

pub returns-clause-types : goal.returns-clause-types
returns-clause-types c =
    ap (λ w. w.0) (walk-end (and_field_found c.args.self.now) (c.loop-f.types, c.loop-f.least, c.loop-f.names) _ c.args.fields.now c.loop-f.f-index (omega (arith, c.loop-f-test.false)) c.loop-f.invariant)

pub returns-clause-noted : goal.returns-clause-noted
returns-clause-noted c =
    ap (λ w. w.1) (walk-end (and_field_found c.args.self.now) (c.loop-f.types, c.loop-f.least, c.loop-f.names) _ c.args.fields.now c.loop-f.f-index (omega (arith, c.loop-f-test.false)) c.loop-f.invariant)

pub returns-clause-names : goal.returns-clause-names
returns-clause-names c =
    ap (λ w. w.2) (walk-end (and_field_found c.args.self.now) (c.loop-f.types, c.loop-f.least, c.loop-f.names) _ c.args.fields.now c.loop-f.f-index (omega (arith, c.loop-f-test.false)) c.loop-f.invariant)
