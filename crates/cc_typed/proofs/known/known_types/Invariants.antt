use Rattle.std.proofs.Common.{◌≡◌, drop}
use Rattle.std.specs.List.{list_all}
use Rattle.cc_typed.specs.Checked.{parts_of}
use Rattle.cc_typed.specs.KnownTypes.{is_known}
use Rattle.cc_typed.proofs.known.known_types.Given as goal

abbrev pub invariant-loop-t : goal.invariant-loop-t
invariant-loop-t l =
    list_all (is_known (parts_of l.parts)) (drop l.t-index l.ts) ≡ list_all (is_known (parts_of l.parts)) l.ts
