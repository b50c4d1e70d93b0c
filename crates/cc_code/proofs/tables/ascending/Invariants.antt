use Rattle.std.proofs.Common.{◌≡◌, ℕ, ◌<◌, List, Some, slice_get, length, get_or, true, false}
use Rattle.cc_code.specs.Waiting.{IsAscending}
use Rattle.cc_code.specs.declared.code.TableEntry.{TableEntry}
use Rattle.cc_code.proofs.tables.ascending.Given as goal

abbrev pub invariant-loop-table : goal.invariant-loop-table
invariant-loop-table l = record {
  are : l.table-items ≡ l.raw.tables;
  long : length l.bits.items ≡ l.table-index;
  each : (j : ℕ) → j < l.table-index → (t : List TableEntry) → slice_get l.raw.tables j ≡ Some t → get_or l.bits.items j false ≡ true → IsAscending t;
}
