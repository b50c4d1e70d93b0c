use Rattle.std.proofs.Common.{◌≡◌, drop}
use Rattle.std.specs.List.{list_all}
use Rattle.cc_typed.specs.Checked.{parts_of}
use Rattle.cc_typed.specs.KnownTypes.{is_known_structure}
use Rattle.cc_typed.proofs.known.known_structures.Given as goal

abbrev pub invariant-loop-structure : goal.invariant-loop-structure
invariant-loop-structure l =
    list_all (is_known_structure (parts_of l.parts)) (drop l.structure-index l.structures) ≡ list_all (is_known_structure (parts_of l.parts)) l.structures
