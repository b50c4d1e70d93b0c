use Rattle.std.proofs.Common.{◌≡◌, take}
use Rattle.cc_declared.specs.Undone.{undone}
use Rattle.cc_faults.specs.Faults.{noted}
use Rattle.cc_faults.specs.Judged.{answer, faults}
use Rattle.cc_types.specs.Judging.{after_alternatives_in, after_entries, alternatives_judged_in, entries_judged}
use Rattle.cc_types.proofs.checker.Checker.+statements.Given as goal

abbrev pub invariant-entries-loop-s : goal.invariant-entries-loop-s
invariant-entries-loop-s l =
    record {
      value : l.done ≡ answer (entries_judged l.fn.self.text l.around l.fn.self.scope (take l.s-index l.all));
      so_far : l.least ≡ noted l.fn.least (faults (entries_judged l.fn.self.text l.around l.fn.self.scope (take l.s-index l.all)));
      after : after_entries l.fn.self.text l.around l.fn.self.scope (take l.s-index l.all) ≡ l.self.scope;
      names : undone l.hidden l.self.scope.names ≡ undone l.fn.hidden l.fn.self.scope.names;
      text : l.self.text ≡ l.fn.self.text;
    }

abbrev pub invariant-alternatives-loop-a : goal.invariant-alternatives-loop-a
invariant-alternatives-loop-a l =
    record {
      value : l.done ≡ answer (alternatives_judged_in l.fn.self.text l.around l.fn.self.scope (take l.a-index l.all));
      so_far : l.least ≡ noted l.fn.least (faults (alternatives_judged_in l.fn.self.text l.around l.fn.self.scope (take l.a-index l.all)));
      after : after_alternatives_in l.fn.self.text l.around l.fn.self.scope (take l.a-index l.all) ≡ l.self.scope;
      names : l.self.scope.names ≡ l.fn.self.scope.names;
      text : l.self.text ≡ l.fn.self.text;
    }
