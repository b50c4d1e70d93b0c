use Rattle.cc_rows.proofs.Laws.{behind-more, behind-none}
use Rattle.cc_rows.proofs.found.behind.Goals as goal

pub returns-then-is_empty : goal.returns-then-is_empty
returns-then-is_empty c = behind-none c.args.first c.args.steps c.args.data_type (c.is_empty.ensures.0 c.if-is_empty.true)

pub returns : goal.returns
returns c =
    behind-more c.args.first c.in_ok-first.first c.args.steps c.args.data_type c.is_empty.result c.in_ok-first.ensures c.if-is_empty.false c.is_empty.ensures.1
