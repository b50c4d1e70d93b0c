use Rattle.std.proofs.Common.{◌≡◌, drop}
use Rattle.cc_trace.specs.Reading.{row_at, rows}
use Rattle.cc_trace.proofs.names.row_at.Given as goal

-- no row so far has its name at the front
abbrev pub invariant-loop-name : goal.invariant-loop-name
invariant-loop-name g l = row_at (rows l.table) l.text ≡ row_at (rows (drop l.name-index l.table)) l.text
