use Rattle.std.proofs.Common.{◌≡◌, [], drop}
use Rattle.cc_faults.specs.Judged.{after_each}
use Rattle.cc_types.specs.Naming.{clause_noted}
use Rattle.cc_types.proofs.sites.environment.Given as goal

abbrev pub invariant-loop-clause : goal.invariant-loop-clause
invariant-loop-clause l =
    after_each (clause_noted l.own) l.seen (drop l.clause-index l.clauses) ≡ after_each (clause_noted l.own) [] l.clauses
