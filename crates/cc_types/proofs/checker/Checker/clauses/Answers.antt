use Rattle.std.proofs.Common.{◌<◌, length, arith}
use Rattle.cc_faults.proofs.Judged.{loop-answer, loop-noted}
use Rattle.cc_types.specs.Naming.{clause_within}
use Rattle.cc_types.proofs.checker.Checker.clauses.Goals as goal

pub loop-c-preserved : goal.loop-c-preserved
loop-c-preserved c =
    let one = clause_within c.args.self.now.text c.args.around c.args.self.now.scope in
    let lt : c.loop-c.c-index < length c.args.all.now = omega (arith, c.loop-c-test.true) in
    record {
      value = loop-answer one c.args.all.now c.loop-c.c-index c.c-item.result c.loop-c.done c.in_ok-done.done c.in_ok-one.one lt c.c-item.is c.loop-c.invariant.value c.in_ok-one.ensures.value c.in_ok-done.ensures.put;
      so_far = loop-noted one c.args.all.now c.loop-c.c-index c.c-item.result c.args.least.now c.loop-c.least c.clause.new.least lt c.c-item.is c.loop-c.invariant.so_far c.in_ok-one.ensures.noted;
    }
