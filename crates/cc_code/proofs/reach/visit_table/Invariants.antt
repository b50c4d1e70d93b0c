use Rattle.std.proofs.Common.{take, ◌≤◌}
use Rattle.cc_code.specs.Reach.{Grown, labelled, left, table_ways}
use Rattle.cc_code.proofs.reach.visit_table.Given as goal

abbrev pub invariant-loop-entry : goal.invariant-loop-entry
invariant-loop-entry l = record {
  grown : Grown (labelled l.label (table_ways l.raw (take l.entry-index l.table))) l.fn.labels.items l.fn.work.items l.labels.items l.work.items;
  lighter : left l.labels.items l.work.items ≤ left l.fn.labels.items l.fn.work.items;
}
