use Rattle.std.proofs.Common.{sym, ap, ◌∙◌}
use Rattle.std.specs.Prelude.{slice_get}
use Rattle.cc_faults.specs.Faults.{noted}
use Rattle.cc_faults.specs.Judged.{faults, outcome}
use Rattle.cc_faults.specs.Programs.{types_of_names}
use Rattle.cc_declared.proofs.Entered.{no-kind}
use Rattle.cc_declared.proofs.bodies.types_of_kind.Goals as goal

pub returns-in-None-clause-noted : goal.returns-in-None-clause-noted
returns-in-None-clause-noted c =
    no-kind c.args.least.now c.args.x c.args.count (slice_get c.args.kinds.now c.args.kind) (sym c.in-None.ensures)

pub returns-in_ok-found-in-Some-clause-outcome : goal.returns-in_ok-found-in-Some-clause-outcome
returns-in_ok-found-in-Some-clause-outcome c =
    c.in_ok-found-in-Some.ensures.outcome ∙ ap (λ h. outcome (types_of_names c.args.x c.args.count h)) c.in-Some.ensures

pub returns-in_ok-found-in-Some-clause-noted : goal.returns-in_ok-found-in-Some-clause-noted
returns-in_ok-found-in-Some-clause-noted c =
    c.in_ok-found-in-Some.ensures.noted ∙ ap (λ h. noted c.args.least.now (faults (types_of_names c.args.x c.args.count h))) c.in-Some.ensures
