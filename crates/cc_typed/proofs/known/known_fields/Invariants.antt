use Rattle.std.proofs.Common.{◌≡◌, drop}
use Rattle.std.specs.List.{list_all}
use Rattle.cc_typed.specs.Checked.{parts_of}
use Rattle.cc_typed.specs.KnownTypes.{is_known_field}
use Rattle.cc_typed.proofs.known.known_fields.Given as goal

abbrev pub invariant-loop-field : goal.invariant-loop-field
invariant-loop-field l =
    list_all (is_known_field (parts_of l.parts)) (drop l.field-index l.fields) ≡ list_all (is_known_field (parts_of l.parts)) l.fields
