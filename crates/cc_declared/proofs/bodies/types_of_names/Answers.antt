use Rattle.std.proofs.Common.{sym, ap, ◌∙◌}
use Rattle.std.specs.Prelude.{nat_eq}
use Rattle.cc_faults.specs.Judged.{known}
use Rattle.cc_declared.specs.Entering.{unless_others}
use Rattle.cc_declared.proofs.Entered.{outcome-others}
use Rattle.cc_declared.proofs.bodies.types_of_names.Goals as goal

pub returns-clause-outcome : goal.returns-clause-outcome
returns-clause-outcome c =
    c.unless_others.ensures
    ∙ ap (unless_others (nat_eq c.args.count c.args.head.now.count) c.args.x) c.in_ok-types.ensures.outcome
    ∙ sym (outcome-others c.args.x c.args.count c.args.head.now.count (known c.args.head.now.parameters))
