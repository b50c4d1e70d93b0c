-- 22 LoopPlace
use Rattle.std.specs.Prelude.{pos, List, [], ◌∷◌, Some}
use Rattle.cc_base.specs.declared.numbers.NumberType.TheVariants as numeric
use Rattle.cc_faults.specs.declared.fault.TypeKind.TheVariants as kind
use Rattle.cc_faults.specs.declared.plain.Item.TheVariants as item
use Rattle.cc_faults.specs.declared.plain.Phrase.TheVariants as phrase
use Rattle.cc_faults.specs.declared.plain.Statement.TheVariants as statement
use Rattle.cc_faults.specs.declared.plain.TypeName.TheVariants as type_name
use Rattle.types_tests.specs.Seen.{Row, at, fault_at, x}

-- main() { break; }
abbrev text0 : Row
text0 = (
  record { names = 1; formats = []; items = (item.Function (type_name.Number numeric.Int) (x 1 1 0) [] ((statement.Break (at 1 10)) ∷ []) ∷ []) },
  Some (fault_at 1 10 kind.LoopPlace),
)

-- main() { while (1) { } continue; }
abbrev text1 : Row
text1 = (
  record {
    names = 1;
    formats = [];
    items = (item.Function (type_name.Number numeric.Int) (x 1 1 0) [] ((statement.While (phrase.Number (at 1 17)
        (pos 1) numeric.Int) (statement.Block [])) ∷ (statement.Continue (at 1 24)) ∷ []) ∷ []);
  },
  Some (fault_at 1 24 kind.LoopPlace),
)

-- process spec p() { trans void t(); }; process body p() { accept t() { break; } } main() { }
abbrev text2 : Row
text2 = (
  record {
    names = 3;
    formats = [];
    items = (item.Specification (x 1 14 1) [] (record {
      result = (Some (type_name.Void (at 1 26)));
      name = (x 1 31
          2);
      parameters = [];
    } ∷ []) ∷ item.Body (x 1 52 1) [] ((statement.Accept (record {
      head = record {
        place = (at 1 58);
        name = (x 1 65 2);
        names =
            [];
        clauses = [];
      };
      block = ((statement.Break (at 1 71)) ∷ []);
    })) ∷ []) ∷ item.Function (type_name.Number numeric.Int) (x 1 82 0) [] [] ∷ []);
  },
  Some (fault_at 1 71 kind.LoopPlace),
)

-- f() { if (1) continue; else break; } main() { }
abbrev text3 : Row
text3 = (
  record {
    names = 2;
    formats = [];
    items = (item.Function (type_name.Number numeric.Int) (x 1 1 1) [] ((statement.IfElse (phrase.Number (at 1 11)
        (pos 1) numeric.Int) (statement.Continue (at 1 14)) (statement.Break (at 1 29))) ∷ []) ∷ item.Function (type_name.Number numeric.Int) (x 1 38 0)
        [] [] ∷ []);
  },
  Some (fault_at 1 14 kind.LoopPlace),
)

abbrev pub rows : List Row
rows = text0 ∷ text1 ∷ text2 ∷ text3 ∷ []
