use Rattle.std.proofs.Common.{◌≡◌, ◌++◌, drop}
use Rattle.cc_source.specs.Gives.{fitted_each}
use Rattle.cc_typed.specs.Table.{layouts_of}
use Rattle.cc_source.proofs.plain.split.Given as goal

abbrev pub invariant-loop-t : goal.invariant-loop-t
invariant-loop-t l =
    l.all ++ fitted_each (layouts_of l.structures (drop l.t-index l.types)) l.rest ≡ fitted_each (layouts_of l.structures l.types) l.cells
