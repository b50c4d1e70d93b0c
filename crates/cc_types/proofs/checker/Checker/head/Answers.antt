use Rattle.cc_types.proofs.Naming.{head-scope, head-value}
use Rattle.cc_types.proofs.checker.Checker.head.Goals as goal

pub returns-clause-value : goal.returns-clause-value
returns-clause-value c =
    head-value c.args.self.now.text c.accepted.new.self.text c.args.around c.in_ok-within.within c.args.self.now.scope c.accepted.new.self.scope c.args.a.now c.as_slice.result.now c.in_ok-accepted.accepted c.in_ok-clauses.clauses c.pair.result c.in_ok-add_site.field-0 c.accepted.ensures.text c.in_ok-within.ensures.clause c.in_ok-accepted.ensures.after c.as_slice.ensures c.in_ok-accepted.ensures.value c.in_ok-clauses.ensures.value c.pair.ensures.pair c.in_ok-add_site.ensures.value

pub returns-clause-after : goal.returns-clause-after
returns-clause-after c =
    head-scope c.args.self.now.text c.accepted.new.self.text c.args.around c.in_ok-within.within c.args.self.now.scope c.accepted.new.self.scope c.args.a.now c.as_slice.result.now c.in_ok-accepted.accepted c.in_ok-clauses.clauses c.pair.result c.in_ok-first.first c.add_site.new.self.scope c.accepted.ensures.text c.in_ok-within.ensures.clause c.in_ok-accepted.ensures.after c.as_slice.ensures c.in_ok-accepted.ensures.value c.in_ok-clauses.ensures.value c.pair.ensures.pair c.in_ok-first.ensures.next c.in_ok-add_site.ensures.after
