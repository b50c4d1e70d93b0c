use Rattle.std.proofs.Common.{◌<◌, arith}
use Rattle.std.proofs.lemmas.Option.{slice_get_within}
use Rattle.cc_code.proofs.Ascending.{rises-more}
use Rattle.cc_code.proofs.tables.is_ascending.Goals as goal

pub loop-at-init : goal.loop-at-init
loop-at-init c = λ a b x y bound order e f. absurd (omega arith)

pub loop-at-preserved : goal.loop-at-preserved
loop-at-preserved c = rises-more c.args.table.now c.loop-at.at c.entry_at-last.result c.entry_at-next.result (omega arith) c.entry_at-last.ensures c.entry_at-next.ensures (omega arith) c.loop-at.invariant

pub returns : goal.returns
returns c = λ t a b x y order e f. (let w : b < _ = slice_get_within c.args.table.now b y f in c.loop-at.invariant a b x y (omega arith) order e f)
