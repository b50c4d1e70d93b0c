use Rattle.std.proofs.Common.{◌<◌, ◌≤◌, length, ◌∙◌, arith}
use Rattle.cc_declared.proofs.Entered.{names-end, names-more}
use Rattle.cc_declared.proofs.visible.Visible.enter_names.Goals as goal

pub loop-k-preserved : goal.loop-k-preserved
loop-k-preserved c =
    let lt : c.loop-k.k < length c.args.names.now = omega (arith, c.loop-k-test.true) in
    record {
      after = names-more c.args.scope c.args.types.now c.args.names.now c.loop-k.k c.loop-k.self c.declare.new.self _ c.type_at-t.result _ lt c.in_ok-declare.ensures.after c.type_at-t.ensures c.loop-k.invariant.after;
      names = c.in_ok-declare.ensures.names ∙ c.loop-k.invariant.names;
    }

pub returns-clause-after : goal.returns-clause-after
returns-clause-after c =
    let le : length c.args.names.now ≤ c.loop-k.k = omega (arith, c.loop-k-test.false) in
    names-end c.args.scope c.args.types.now c.args.names.now c.loop-k.k c.loop-k.self _ le c.loop-k.invariant.after
