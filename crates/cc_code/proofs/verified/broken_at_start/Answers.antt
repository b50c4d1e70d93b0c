use Rattle.cc_code.proofs.Firsts.{joined}
use Rattle.cc_code.proofs.verified.broken_at_start.Goals as goal

pub returns : goal.returns
returns c = joined c.args.raw.now _ _ _ c.broken_whole.ensures c.in_ok-first.ensures c.earlier.ensures
