use Rattle.std.proofs.Common.{◌≡◌, ◌+◌, drop}
use Rattle.cc_source.specs.Gives.{Stands, left, scope, structures_of}
use Rattle.cc_source.specs.Meaning.{set_from}
use Rattle.cc_typed.specs.Table.{layouts_of}
use Rattle.cc_typed.specs.Values.{unflats}
use Rattle.cc_source.proofs.evaluator.Evaluator.set_from.Given as goal

abbrev pub invariant-loop-data_type : goal.invariant-loop-data_type
invariant-loop-data_type l = record {
  at : l.variable ≡ l.first + l.data_type-index;
  rest : set_from l.variable (unflats (layouts_of (structures_of l.self) (drop l.data_type-index l.types)) l.rest) (scope l.self l.run)
      ≡ set_from l.first (unflats (layouts_of (structures_of l.self) l.types) l.cells) (scope l.self l.fn.run);
  left : left l.run ≡ left l.fn.run;
  stands : Stands l.self l.run;
}
