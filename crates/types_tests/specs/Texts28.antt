-- 21 TreturnPlace
use Rattle.std.specs.Prelude.{pos, List, [], ◌∷◌, Some, None}
use Rattle.cc_base.specs.declared.numbers.NumberType.TheVariants as numeric
use Rattle.cc_faults.specs.declared.fault.TypeKind.TheVariants as kind
use Rattle.cc_faults.specs.declared.plain.Choice.TheVariants as choice
use Rattle.cc_faults.specs.declared.plain.Item.TheVariants as item
use Rattle.cc_faults.specs.declared.plain.Phrase.TheVariants as phrase
use Rattle.cc_faults.specs.declared.plain.Statement.TheVariants as statement
use Rattle.cc_faults.specs.declared.plain.TypeName.TheVariants as type_name
use Rattle.types_tests.specs.Seen.{Row, at, fault_at, x}

-- main() { treturn; }
abbrev text0 : Row
text0 = (
  record {
    names = 1;
    formats = [];
    items = (item.Function (type_name.Number numeric.Int) (x 1 1 0) [] ((statement.TransactionReturn (at 1 10)
        None) ∷ []) ∷ []);
  },
  Some (fault_at 1 10 kind.TreturnPlace),
)

-- process spec p() { trans int t(); }; process body p() { treturn 1; } main() { }
abbrev text1 : Row
text1 = (
  record {
    names = 3;
    formats = [];
    items = (item.Specification (x 1 14 1) [] (record {
      result = (Some (type_name.Number numeric.Int));
      name = (x 1
          30 2);
      parameters = [];
    } ∷ []) ∷ item.Body (x 1 51 1) [] ((statement.TransactionReturn (at 1 57) (Some (phrase.Number (at 1 65) (pos 1)
        numeric.Int))) ∷ []) ∷ item.Function (type_name.Number numeric.Int) (x 1 70 0) [] [] ∷ []);
  },
  Some (fault_at 1 57 kind.TreturnPlace),
)

-- process spec p() { trans void t(); }; process body p() { select { accept t() { treturn; } treturn; } } main() { }
abbrev text2 : Row
text2 = (
  record {
    names = 3;
    formats = [];
    items = (item.Specification (x 1 14 1) [] (record {
      result = (Some (type_name.Void (at 1 26)));
      name = (x 1 31
          2);
      parameters = [];
    } ∷ []) ∷ item.Body (x 1 52 1) [] ((statement.Select (at 1 58) (record {
      guard = None;
      choice = (choice.Accept (record {
        head
            = record { place = (at 1 67); name = (x 1 74 2); names = []; clauses = [] };
        block = ((statement.TransactionReturn (at 1 80) None) ∷ []);
      }));
      entries = ((statement.TransactionReturn (at 1 91) None) ∷ []);
    } ∷ [])) ∷ []) ∷ item.Function (type_name.Number numeric.Int) (x 1 104 0) [] [] ∷
        []);
  },
  Some (fault_at 1 91 kind.TreturnPlace),
)

abbrev pub rows : List Row
rows = text0 ∷ text1 ∷ text2 ∷ []
