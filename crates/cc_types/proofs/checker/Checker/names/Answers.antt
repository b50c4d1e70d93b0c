use Rattle.std.proofs.Common.{◌+◌, drop, ◌∙◌, arith}
use Rattle.std.proofs.lemmas.List.{drop_all}
use Rattle.cc_rows.specs.Accepts.{types_in}
use Rattle.cc_typed.specs.Sequences.{drop-at}
use Rattle.cc_types.proofs.Naming.{names-after, names-answer, names-more, names-noted}
use Rattle.cc_types.proofs.checker.Checker.names.Goals as goal

pub loop-at-preserved : goal.loop-at-preserved
loop-at-preserved c =
    let xs = c.args.names.now in
    let k = c.loop-at.at in
    record {
      named = names-more c.args.scope (types_in c.args.types) k (k + 1) c.args.self.now.scope c.loop-at.self.scope c.loop-at.all c.args.least.now c.loop-at.least xs (drop k xs) _ c.type_of_name.result c.in_ok-one.one c.kept-all.result c.name.new.self.scope c.name.new.least (drop (k + 1) xs) (drop-at xs k _ c.loop-at-test.true) (omega arith) c.type_of_name.ensures.of c.in_ok-one.ensures.value c.in_ok-one.ensures.noted c.in_ok-one.ensures.after c.kept-all.ensures.kept c.loop-at.invariant.named;
      names = c.in_ok-one.ensures.names ∙ c.loop-at.invariant.names;
      text = c.name.ensures.text ∙ c.loop-at.invariant.text;
    }

pub returns-clause-value : goal.returns-clause-value
returns-clause-value c =
    names-answer c.args.scope (types_in c.args.types) c.loop-at.at 0 c.args.self.now.scope c.loop-at.self.scope c.loop-at.all c.args.least.now c.loop-at.least c.args.names.now _ (drop_all c.loop-at.at c.args.names.now (omega (arith, c.loop-at-test.false))) c.loop-at.invariant.named

pub returns-clause-noted : goal.returns-clause-noted
returns-clause-noted c =
    names-noted c.args.scope (types_in c.args.types) c.loop-at.at 0 c.args.self.now.scope c.loop-at.self.scope c.loop-at.all c.args.least.now c.loop-at.least c.args.names.now _ (drop_all c.loop-at.at c.args.names.now (omega (arith, c.loop-at-test.false))) c.loop-at.invariant.named

pub returns-clause-after : goal.returns-clause-after
returns-clause-after c =
    names-after c.args.scope (types_in c.args.types) c.loop-at.at 0 c.args.self.now.scope c.loop-at.self.scope c.loop-at.all c.args.least.now c.loop-at.least c.args.names.now _ (drop_all c.loop-at.at c.args.names.now (omega (arith, c.loop-at-test.false))) c.loop-at.invariant.named
