use Rattle.std.proofs.Common.{◌≡◌, drop}
use Rattle.cc_faults.specs.Judged.{after_each}
use Rattle.cc_faults.specs.Programs.{no_variables}
use Rattle.cc_declared.specs.Entering.{and_parameter}
use Rattle.cc_declared.specs.Undone.{undone}
use Rattle.cc_declared.proofs.visible.Visible.enter_function.Given as goal

abbrev pub invariant-loop-p : goal.invariant-loop-p
invariant-loop-p l =
    record {
      after : after_each and_parameter l.self (drop l.p-index l.parameters) ≡ after_each and_parameter (no_variables l.fn.self) l.parameters;
      names : undone l.hidden l.self.names ≡ undone l.fn.hidden l.fn.self.names;
    }
