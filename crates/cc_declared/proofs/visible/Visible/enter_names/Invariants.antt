use Rattle.std.proofs.Common.{◌≡◌, drop}
use Rattle.cc_declared.specs.Entering.{names_from}
use Rattle.cc_declared.specs.Undone.{undone}
use Rattle.cc_declared.proofs.visible.Visible.enter_names.Given as goal

abbrev pub invariant-loop-k : goal.invariant-loop-k
invariant-loop-k l =
    record {
      after : names_from l.scope l.types l.k l.self (drop l.k l.names) ≡ names_from l.scope l.types 0 l.fn.self l.names;
      names : undone l.hidden l.self.names ≡ undone l.fn.hidden l.fn.self.names;
    }
