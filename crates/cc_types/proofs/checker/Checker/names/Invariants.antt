use Rattle.std.proofs.Common.{◌≡◌, drop}
use Rattle.cc_declared.specs.Undone.{undone}
use Rattle.cc_faults.specs.Judged.{after_each}
use Rattle.cc_faults.specs.declared.answer.Answer.TheVariants as an
use Rattle.cc_rows.specs.Accepts.{types_in}
use Rattle.cc_types.specs.Naming.{one_named}
use Rattle.cc_types.proofs.checker.Checker.names.Given as goal

abbrev pub invariant-loop-at : goal.invariant-loop-at
invariant-loop-at l =
    record {
      named : after_each (one_named l.scope (types_in l.types)) (l.at, l.self.scope, l.all, l.least) (drop l.at l.names) ≡ after_each (one_named l.scope (types_in l.types)) (0, l.fn.self.scope, an.Good tt, l.fn.least) l.names;
      names : undone l.hidden l.self.scope.names ≡ undone l.fn.hidden l.fn.self.scope.names;
      text : l.self.text ≡ l.fn.self.text;
    }
