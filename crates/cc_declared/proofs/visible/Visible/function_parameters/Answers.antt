use Rattle.std.proofs.Common.{[], Ok, ap, ◌∙◌}
use Rattle.cc_faults.specs.Declarations.{types_of}
use Rattle.cc_declared.proofs.TypeWalks.{parameters-found, parameters-noted, same-walk}
use Rattle.cc_declared.proofs.visible.Visible.function_parameters.Goals as goal

pub returns-clause-outcome : goal.returns-clause-outcome
returns-clause-outcome c =
    let types = c.in_ok-types.ensures.types ∙ ap (λ w. w.0) (same-walk c.args.self.now (Ok [], c.args.least.now) c.args.parameters.now) in
    parameters-found c.args.self.now c.args.x c.args.least.now (types_of c.args.parameters.now) c.in_ok-types.types types c.few_cells.result c.few_cells.ensures.outcome

pub returns-clause-noted : goal.returns-clause-noted
returns-clause-noted c =
    let types = c.in_ok-types.ensures.types ∙ ap (λ w. w.0) (same-walk c.args.self.now (Ok [], c.args.least.now) c.args.parameters.now) in
    let least = c.in_ok-types.ensures.noted ∙ ap (λ w. w.1) (same-walk c.args.self.now (Ok [], c.args.least.now) c.args.parameters.now) in
    parameters-noted c.args.self.now c.args.x c.args.least.now (types_of c.args.parameters.now) c.in_ok-types.types types _ _ least c.few_cells.ensures.noted
