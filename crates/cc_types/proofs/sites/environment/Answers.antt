use Rattle.std.proofs.Common.{arith}
use Rattle.cc_declared.proofs.Firsts.{walk-end, walk-more}
use Rattle.cc_types.specs.Naming.{clause_noted}
use Rattle.cc_types.proofs.sites.environment.Goals as goal

pub loop-clause-preserved : goal.loop-clause-preserved
loop-clause-preserved c =
    walk-more (clause_noted c.args.own) c.loop-clause.seen c.note_clause.new.seen _ c.args.clauses.now c.loop-clause.clause-index c.clause-item.result c.loop-clause-test.true c.clause-item.is c.in_ok-note_clause.ensures c.loop-clause.invariant

pub returns : goal.returns
returns c =
    walk-end (clause_noted c.args.own) c.loop-clause.seen _ c.args.clauses.now c.loop-clause.clause-index (omega (arith, c.loop-clause-test.false)) c.loop-clause.invariant
