-- 20 AcceptPlace
use Rattle.std.specs.Prelude.{pos, List, [], ◌∷◌, Some, None}
use Rattle.cc_base.specs.declared.numbers.NumberType.TheVariants as numeric
use Rattle.cc_faults.specs.declared.fault.TypeKind.TheVariants as kind
use Rattle.cc_faults.specs.declared.plain.Choice.TheVariants as choice
use Rattle.cc_faults.specs.declared.plain.Item.TheVariants as item
use Rattle.cc_faults.specs.declared.plain.Phrase.TheVariants as phrase
use Rattle.cc_faults.specs.declared.plain.Statement.TheVariants as statement
use Rattle.cc_faults.specs.declared.plain.Step.TheVariants as step
use Rattle.cc_faults.specs.declared.plain.TypeName.TheVariants as type_name
use Rattle.types_tests.specs.Seen.{Row, at, fault_at, x}

-- main() { accept t(); }
abbrev text0 : Row
text0 = (
  record {
    names = 2;
    formats = [];
    items = (item.Function (type_name.Number numeric.Int) (x 1 1 0) [] ((statement.Accept (record {
      head = record {
        place = (at 1 10);
        name = (x 1 17 1);
        names = [];
        clauses = [];
      };
      block = [];
    })) ∷ []) ∷ []);
  },
  Some (fault_at 1 10 kind.AcceptPlace),
)

-- f() { select { immediate; } } main() { }
abbrev text1 : Row
text1 = (
  record {
    names = 2;
    formats = [];
    items = (item.Function (type_name.Number numeric.Int) (x 1 1 1) [] ((statement.Select (at 1 7) (record {
      guard
          = None;
      choice = choice.Immediate;
      entries = [];
    } ∷ [])) ∷ []) ∷ item.Function (type_name.Number numeric.Int) (x 1 31 0) [] [] ∷ []);
  },
  Some
      (fault_at 1 7 kind.AcceptPlace),
)

-- main() { select { accept t(x) { x.y; treturn 1; } u; } }
abbrev text2 : Row
text2 = (
  record {
    names = 5;
    formats = [];
    items = (item.Function (type_name.Number numeric.Int) (x 1 1 0) [] ((statement.Select (at 1 10) (record {
      guard
          = None;
      choice = (choice.Accept (record {
        head = record { place = (at 1 19); name = (x 1 26 1); names = ((x 1 28 2) ∷ []); clauses = [] };
        block =
            ((statement.Evaluate (phrase.Chain (phrase.Name (x 1 33 2)) (step.Field (x 1 35 3) ∷ []))) ∷ (statement.TransactionReturn (at 1 38) (Some
            (phrase.Number (at 1 46) (pos 1) numeric.Int))) ∷ []);
      }));
      entries = ((statement.Evaluate (phrase.Name (x 1 51 4))) ∷ []);
    } ∷ [])) ∷ []) ∷ []);
  },
  Some (fault_at 1 10 kind.AcceptPlace),
)

abbrev pub rows : List Row
rows = text0 ∷ text1 ∷ text2 ∷ []
