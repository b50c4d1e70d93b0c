use Rattle.std.proofs.Common.{◌≡◌, ◌∙◌, ap}
use Rattle.cc_faults.specs.Declarations.{parameters}
use Rattle.cc_faults.specs.Faults.{noted}
use Rattle.cc_faults.specs.Judged.{faults}
use Rattle.cc_types.proofs.Passings.{specification-adds, specification-notes}
use Rattle.cc_types.specs.Checkers.{Checker}
use Rattle.cc_types.proofs.checker.Checker.specification.Goals as goal

pub returns-clause-made : goal.returns-clause-made
returns-clause-made c =
    specification-adds c.args.of c.args.self.now.scope c.args.types.now c.args.transactions.now c.args.made.now c.transactions.new.made c.in_ok-transactions.ensures.made

pub returns-clause-noted : goal.returns-clause-noted
returns-clause-noted c =
    let s = c.args.self.now.scope in
    let seen : c.self.inside.visible ≡ s = ap (λ (z : Checker). z.scope) c.self.view_is in
    specification-notes c.args.of s c.args.types.now c.args.transactions.now c.args.least.now c.fresh.new.least c.with_body.new.least c.parameters.new.least c.transactions.new.least
    c.fresh.ensures.noted c.with_body.ensures.noted
    (c.in_ok-parameters.ensures.noted ∙ ap (λ z. noted c.with_body.new.least (faults (parameters z c.args.of.name c.args.types.now))) seen)
    c.in_ok-transactions.ensures.noted
