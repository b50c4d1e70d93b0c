use Rattle.std.proofs.Common.{◌≡◌, ℕ, ◌<◌, length, get_or, true}
use Rattle.std.specs.Prelude.{◌↔◌}
use Rattle.cc_code.specs.Control.{addresses}
use Rattle.cc_code.specs.Rules.{AreAddresses}
use Rattle.cc_code.specs.Works.{table_at}
use Rattle.cc_code.proofs.tables.leading.Given as goal

abbrev pub invariant-loop-table : goal.invariant-loop-table
invariant-loop-table l = record {
  are : l.table-items ≡ l.raw.tables;
  long : length l.bits.items ≡ l.table-index;
  each : (j : ℕ) → j < l.table-index → (get_or l.bits.items j true ≡ true) ↔ AreAddresses l.raw (addresses (table_at l.raw j));
}
