use Rattle.cc_declared.proofs.TypeWalks.{parameters-found, parameters-noted}
use Rattle.cc_declared.proofs.visible.Visible.parameters.Goals as goal

pub returns-clause-outcome : goal.returns-clause-outcome
returns-clause-outcome c =
    parameters-found c.args.self.now c.args.x c.args.least.now c.args.types.now c.in_ok-types.types c.in_ok-types.ensures.types c.few_cells.result c.few_cells.ensures.outcome

pub returns-clause-noted : goal.returns-clause-noted
returns-clause-noted c =
    parameters-noted c.args.self.now c.args.x c.args.least.now c.args.types.now c.in_ok-types.types c.in_ok-types.ensures.types _ _ c.in_ok-types.ensures.noted c.few_cells.ensures.noted
