use Rattle.cc_types.proofs.Parting.{for_head-answer}
use Rattle.cc_types.proofs.checker.Checker.for_head.Goals as goal

pub returns-clause-value : goal.returns-clause-value
returns-clause-value c =
    for_head-answer c.args.self.now.text c.args.around c.args.self.now.scope c.args.first.now c.args.condition.now c.args.next.now c.in_ok-first.first c.in_ok-condition.condition c.in_ok-next.next c.pair.result c.pair-2.result c.in_ok-first.ensures.value c.in_ok-condition.ensures.value c.in_ok-next.ensures.value c.pair.ensures.pair c.pair-2.ensures.pair
