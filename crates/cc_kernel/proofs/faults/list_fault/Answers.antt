use Rattle.std.proofs.Common.{◌++◌, sym, ap, ◌∙◌}
use Rattle.cc_kernel.proofs.Listed.{fault-at-end}
use Rattle.cc_rules.specs.Faulted.{fault_of}
use Rattle.cc_kernel.proofs.faults.list_fault.Goals as goal

pub returns-clause-items : goal.returns-clause-items
returns-clause-items g c =
    c.add.ensures.items
    ∙ fault-at-end c.args.faults.now.items (record { 0 = c.args.at }, c.in-Some-fault.kind) c.requires.below
    ∙ ap (λ x. c.args.faults.now.items ++ fault_of c.args.at x) (sym (sym c.in-Some.ensures.1 ∙ c.in-Some-fault.ensures.fault))
