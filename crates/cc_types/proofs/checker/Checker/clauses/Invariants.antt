use Rattle.std.proofs.Common.{◌≡◌, take}
use Rattle.cc_faults.specs.Faults.{noted}
use Rattle.cc_faults.specs.Judged.{answer, faults}
use Rattle.cc_types.specs.Naming.{clauses_within}
use Rattle.cc_types.proofs.checker.Checker.clauses.Given as goal

abbrev pub invariant-loop-c : goal.invariant-loop-c
invariant-loop-c l =
    record {
      value : l.done ≡ answer (clauses_within l.self.text l.around l.self.scope (take l.c-index l.all));
      so_far : l.least ≡ noted l.fn.least (faults (clauses_within l.self.text l.around l.self.scope (take l.c-index l.all)));
    }
