use Rattle.std.proofs.Common.{◌<◌, sym, arith}
use Rattle.std.proofs.lemmas.Option.{slice_get_within}
use Rattle.cc_code.proofs.Ascending.{entry-found, entry-none, entry-passed}
use Rattle.cc_code.proofs.tables.ascending_entry.Goals as goal

pub returns-then-at-table : goal.returns-then-at-table
returns-then-at-table c = sym (entry-none c.args.table.now c.args.alt (λ j x e f.
    let w : j < _ = slice_get_within c.args.table.now j x e in
    let less : x.alt < c.args.alt = c.lower_bound-at.ensures.below j x (omega arith) e in
    absurd (omega arith)))

pub returns-then-entry-alt : goal.returns-then-entry-alt
returns-then-entry-alt c = sym (entry-found c.args.table.now c.args.alt c.lower_bound-at.result c.entry_at-entry.result c.entry_at-entry.ensures c.if-entry-alt.true c.lower_bound-at.ensures.below)

pub returns-else-entry-alt : goal.returns-else-entry-alt
returns-else-entry-alt c = sym (entry-passed c.args.table.now c.args.alt c.lower_bound-at.result c.entry_at-entry.result c.requires c.entry_at-entry.ensures c.if-entry-alt.false c.lower_bound-at.ensures.below c.lower_bound-at.ensures.above)
