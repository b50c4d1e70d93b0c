use Rattle.std.proofs.Common.{◌≡◌, ◌+◌, ◌≤◌, drop}
use Rattle.std.specs.List.{list_all}
use Rattle.cc_typed.specs.Checked.{parts_of}
use Rattle.cc_typed.specs.KnownTypes.{is_whole}
use Rattle.cc_typed.specs.Table.{cells_in_all}
use Rattle.cc_typed.proofs.known.parameter_types.Given as goal

abbrev pub invariant-loop-t : goal.invariant-loop-t
invariant-loop-t l =
    (l.sum + cells_in_all (parts_of l.parts).structures (drop l.t-index l.ts) ≡ cells_in_all (parts_of l.parts).structures l.ts)
    × (list_all (is_whole (parts_of l.parts)) (drop l.t-index l.ts) ≡ list_all (is_whole (parts_of l.parts)) l.ts)
    × l.sum ≤ 256
