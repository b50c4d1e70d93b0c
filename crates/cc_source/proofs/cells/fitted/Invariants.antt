use Rattle.std.proofs.Common.{◌≡◌, ◌-◌, ◌++◌, drop}
use Rattle.cc_source.specs.Gives.{fitted}
use Rattle.cc_source.proofs.cells.fitted.Given as goal

abbrev pub invariant-loop-at : goal.invariant-loop-at
invariant-loop-at l = l.all ++ fitted (l.count - l.at) (drop l.at l.cells) ≡ fitted l.count l.cells
