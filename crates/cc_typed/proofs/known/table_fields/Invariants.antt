use Rattle.std.proofs.Common.{◌≡◌, ◌≤◌, drop}
use Rattle.cc_typed.specs.Table.{are_fields}
use Rattle.cc_typed.proofs.known.table_fields.Given as goal

abbrev pub invariant-loop-field : goal.invariant-loop-field
invariant-loop-field l =
    are_fields l.structures l.number l.before (drop l.field-index l.fields) l.cells ≡ are_fields l.structures l.number 0 l.fields l.cells
