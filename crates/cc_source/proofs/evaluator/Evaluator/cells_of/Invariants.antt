use Rattle.std.proofs.Common.{◌≡◌, ◌++◌, drop, map}
use Rattle.cc_source.specs.Gives.{scope}
use Rattle.cc_source.specs.Meaning.{value_at}
use Rattle.cc_typed.specs.Values.{flats}
use Rattle.cc_source.proofs.evaluator.Evaluator.cells_of.Given as goal

abbrev pub invariant-loop-variable : goal.invariant-loop-variable
invariant-loop-variable l =
    l.all ++ flats (map (value_at (scope l.self l.run)) (drop l.variable-index l.variables)) ≡ flats (map (value_at (scope l.self l.run)) l.variables)
