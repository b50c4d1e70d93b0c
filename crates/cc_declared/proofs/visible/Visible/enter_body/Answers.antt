use Rattle.std.proofs.Common.{ap, ◌∙◌}
use Rattle.cc_declared.specs.Entering.{names_from}
use Rattle.cc_declared.proofs.Entered.{in-body}
use Rattle.cc_declared.proofs.visible.Visible.enter_body.Goals as goal

pub returns-clause-after : goal.returns-clause-after
returns-clause-after c =
    let is = c.in_ok-enter_names.ensures.after ∙ ap (λ s. names_from 2 c.args.types.now 0 s c.args.names.now) c.without_variables.ensures in
    λ ts e. in-body c.args.self.now c.enter_names.new.self c.args.types.now c.args.names.now is ts e
