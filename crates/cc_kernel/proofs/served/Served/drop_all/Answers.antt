use Rattle.std.proofs.Common.{◌∷◌, [], ap, sym, ◌∙◌, arith, length, length-append}
use Rattle.cc_kernel.proofs.Stacks.{none-served-none, none-served-taken}
use Rattle.cc_kernel.specs.Stacks.{served_by}
use Rattle.cc_kernel.proofs.served.Served.drop_all.Goals as goal

pub loop-call-preserved : goal.loop-call-preserved
loop-call-preserved c =
    record {
      by =
          none-served-taken (served_by c.loop-call.self) (served_by c.take_innermost.new.self) c.args.server.0 c.in-Some._call c.in-Some.ensures.call
          ∙ c.loop-call.invariant.by;
      spare = (let a = c.loop-call.invariant.spare in let b = c.take_innermost.ensures.spare in omega (arith, a, b));
    }

pub loop-call-smaller : goal.loop-call-smaller
loop-call-smaller c =
    let new = served_by c.take_innermost.new.self in
    let long = ap length c.in-Some.ensures.call.own ∙ length-append (new c.args.server.0) (c.in-Some._call ∷ []) in
    omega (arith, long)

pub returns-clause-by : goal.returns-clause-by
returns-clause-by c =
    ap served_by c.in_default.ensures.call.0
    ∙ sym (none-served-none (served_by c.loop-call.self) c.args.server.0 c.in_default.ensures.call.1)
    ∙ c.loop-call.invariant.by
