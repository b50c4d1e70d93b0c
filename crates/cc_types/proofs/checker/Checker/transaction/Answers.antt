use Rattle.std.proofs.Common.{rules, ◌≡◌, ◌∙◌, ap, sym}
use Rattle.cc_faults.specs.Declarations.{is_async, transaction_signature}
use Rattle.cc_faults.specs.Faults.{noted}
use Rattle.cc_faults.specs.Judged.{faults, outcome}
use Rattle.cc_faults.specs.Programs.{transaction_made}
use Rattle.cc_faults.specs.Rows.{fresh}
use Rattle.cc_faults.specs.Scopes.{is_among}
use Rattle.cc_types.proofs.Makings.{transaction-makes}
use Rattle.cc_types.proofs.Passings.{noted-named}
use Rattle.cc_types.specs.Checkers.{Checker}
use Rattle.cc_types.specs.Making.{with_transaction}
use Rattle.cc_types.proofs.checker.Checker.transaction.Goals as goal

pub returns-clause-made : goal.returns-clause-made
returns-clause-made c = λ v good.
    let s = c.args.self.now.scope in
    let d = c.args.transaction.now in
    let seen : c.self.inside.visible ≡ s = ap (λ (z : Checker). z.scope) c.self.view_is in
    let head = c.in_ok-head.ensures.outcome ∙ ap (λ z. outcome (transaction_signature z d)) seen in
    let added : c.add_transaction.new.self ≡ with_transaction c.args.made.now c.args.kind (is_async d.result) c.in_ok-head.head = search rules in
    added
    ∙ transaction-makes c.args.made.now c.args.kind d c.in_ok-head.head (fresh (is_among c.args.names.now d.name.name) d.name) (transaction_signature s d) (sym head) v good

pub returns-clause-noted : goal.returns-clause-noted
returns-clause-noted c =
    let s = c.args.self.now.scope in
    let d = c.args.transaction.now in
    let seen : c.self.inside.visible ≡ s = ap (λ (z : Checker). z.scope) c.self.view_is in
    noted-named (transaction_made c.args.kind d) (fresh (is_among c.args.names.now d.name.name) d.name) (transaction_signature s d) c.args.least.now c.fresh.new.least c.transaction_signature.new.least
    (c.fresh.ensures.noted ∙ ap (λ b. noted c.args.least.now (faults (fresh b d.name))) c.in_ok-taken.ensures.before)
    (c.in_ok-head.ensures.noted ∙ ap (λ z. noted c.fresh.new.least (faults (transaction_signature z d))) seen)
