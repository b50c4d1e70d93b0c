use Rattle.std.proofs.Common.{◌≡◌, [], Ok, drop}
use Rattle.cc_faults.specs.Judged.{after_each}
use Rattle.cc_declared.specs.Walks.{and_field_found}
use Rattle.cc_declared.proofs.visible.Visible.fields.Given as goal

abbrev pub invariant-loop-f : goal.invariant-loop-f
invariant-loop-f l = after_each (and_field_found l.self) (l.types, l.least, l.names) (drop l.f-index l.fields) ≡ after_each (and_field_found l.self) (Ok [], l.fn.least, l.fn.names) l.fields
