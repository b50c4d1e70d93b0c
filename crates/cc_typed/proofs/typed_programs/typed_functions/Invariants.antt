use Rattle.std.proofs.Common.{◌≡◌, drop}
use Rattle.std.specs.List.{list_all}
use Rattle.cc_typed.specs.Checked.{parts_of}
use Rattle.cc_typed.specs.Typed.{is_typed_function}
use Rattle.cc_typed.proofs.typed_programs.typed_functions.Given as goal

abbrev pub invariant-loop-function : goal.invariant-loop-function
invariant-loop-function l =
    list_all (is_typed_function (parts_of l.parts)) (drop l.function-index l.functions) ≡ list_all (is_typed_function (parts_of l.parts)) l.functions
