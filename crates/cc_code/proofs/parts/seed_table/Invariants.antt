use Rattle.std.proofs.Common.{take}
use Rattle.cc_code.specs.Checked.{Seeded}
use Rattle.cc_code.specs.Reach.{labelled, table_ways}
use Rattle.cc_code.proofs.parts.seed_table.Given as goal

abbrev pub invariant-loop-entry : goal.invariant-loop-entry
invariant-loop-entry l = Seeded l.labels.items (labelled l.label (table_ways l.raw (take l.entry-index l.table))) l.fn.seeds.items l.seeds.items
