use Rattle.std.proofs.Common.{◌≡◌, drop}
use Rattle.cc_typed.specs.Checked.{parts_of}
use Rattle.cc_typed.specs.Typed.{are_typed_kinds}
use Rattle.cc_typed.proofs.typed_programs.typed_kinds.Given as goal

abbrev pub invariant-loop-number : goal.invariant-loop-number
invariant-loop-number l =
    are_typed_kinds (parts_of l.parts) l.number (drop l.number l.kinds) ≡ are_typed_kinds (parts_of l.parts) 0 l.kinds
