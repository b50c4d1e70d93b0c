use Rattle.std.proofs.Common.{◌≡◌, ◌++◌, drop}
use Rattle.cc_source.specs.Gives.{blanks}
use Rattle.cc_typed.specs.Table.{layouts_of}
use Rattle.cc_source.proofs.plain.put_zeros.Given as goal

abbrev pub invariant-loop-t : goal.invariant-loop-t
invariant-loop-t l =
    l.all ++ blanks (layouts_of l.structures (drop l.t-index l.types)) ≡ l.fn.all ++ blanks (layouts_of l.structures l.types)
