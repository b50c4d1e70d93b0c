use Rattle.cc_code.proofs.Firsts.{at-start, no-start}
use Rattle.cc_code.proofs.verified.broken_by_first.Goals as goal

pub returns-then-is_empty : goal.returns-then-is_empty
returns-then-is_empty c = no-start c.args.raw.now (c.is_empty.ensures.0 c.if-is_empty.true)

pub returns : goal.returns
returns c = at-start c.args.raw.now c.instr_at.result c.in_ok-broken.broken c.instr_at.ensures c.in_ok-broken.ensures
