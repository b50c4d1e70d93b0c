use Rattle.std.proofs.Common.{◌∙◌, arith}
use Rattle.cc_declared.specs.Entering.{and_parameter}
use Rattle.cc_declared.proofs.Entered.{in-function}
use Rattle.cc_declared.proofs.Firsts.{walk-end, walk-read}
use Rattle.cc_declared.proofs.visible.Visible.enter_function.Goals as goal

pub loop-p-preserved : goal.loop-p-preserved
loop-p-preserved c =
    record {
      after = walk-read and_parameter c.loop-p.self c.parameter.new.self _ c.args.parameters.now c.loop-p.p-index _ c.loop-p-test.true c.in_ok-parameter.ensures.after c.loop-p.invariant.after;
      names = c.in_ok-parameter.ensures.names ∙ c.loop-p.invariant.names;
    }

pub returns-clause-after : goal.returns-clause-after
returns-clause-after c =
    walk-end and_parameter c.loop-p.self _ c.args.parameters.now c.loop-p.p-index (omega (arith, c.loop-p-test.false)) c.loop-p.invariant.after
    ∙ in-function c.args.self.now c.args.parameters.now
