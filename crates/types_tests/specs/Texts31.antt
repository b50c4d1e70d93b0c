-- 24 ValueHere
use Rattle.std.specs.Prelude.{pos, List, [], ◌∷◌, Some, None}
use Rattle.cc_base.specs.declared.numbers.NumberType.TheVariants as numeric
use Rattle.cc_faults.specs.declared.fault.TypeKind.TheVariants as kind
use Rattle.cc_faults.specs.declared.plain.Item.TheVariants as item
use Rattle.cc_faults.specs.declared.plain.Phrase.TheVariants as phrase
use Rattle.cc_faults.specs.declared.plain.Statement.TheVariants as statement
use Rattle.cc_faults.specs.declared.plain.TypeName.TheVariants as type_name
use Rattle.types_tests.specs.Seen.{Row, at, fault_at, x}

-- void f() { return 1; } main() { }
abbrev text0 : Row
text0 = (
  record {
    names = 2;
    formats = [];
    items = (item.Function (type_name.Void (at 1 1)) (x 1 6 1) [] ((statement.Return (at 1 12) (Some (phrase.Number
        (at 1 19) (pos 1) numeric.Int))) ∷ []) ∷ item.Function (type_name.Number numeric.Int) (x 1 24 0) [] [] ∷ []);
  },
  Some (fault_at 1 12
      kind.ValueHere),
)

-- void main() { return 0; }
abbrev text1 : Row
text1 = (
  record {
    names = 1;
    formats = [];
    items = (item.Function (type_name.Void (at 1 1)) (x 1 6 0) [] ((statement.Return (at 1 15) (Some (phrase.Number
        (at 1 22) (pos 0) numeric.Int))) ∷ []) ∷ []);
  },
  Some (fault_at 1 15 kind.ValueHere),
)

-- process spec p(); process body p() { return 1; } main() { }
abbrev text2 : Row
text2 = (
  record {
    names = 2;
    formats = [];
    items = (item.Specification (x 1 14 1) [] [] ∷ item.Body (x 1 32 1) [] ((statement.Return (at 1 38) (Some
        (phrase.Number (at 1 45) (pos 1) numeric.Int))) ∷ []) ∷ item.Function (type_name.Number numeric.Int) (x 1 50 0) [] [] ∷ []);
  },
  Some (fault_at 1 38
      kind.ValueHere),
)

-- process spec p() { trans void t(); }; process body p() { accept t() { treturn 1; } } main() { }
abbrev text3 : Row
text3 = (
  record {
    names = 3;
    formats = [];
    items = (item.Specification (x 1 14 1) [] (record {
      result = (Some (type_name.Void (at 1 26)));
      name = (x 1 31
          2);
      parameters = [];
    } ∷ []) ∷ item.Body (x 1 52 1) [] ((statement.Accept (record {
      head = record {
        place = (at 1 58);
        name = (x 1 65 2);
        names =
            [];
        clauses = [];
      };
      block = ((statement.TransactionReturn (at 1 71) (Some (phrase.Number (at 1 79) (pos 1) numeric.Int))) ∷ []);
    })) ∷ []) ∷
        item.Function (type_name.Number numeric.Int) (x 1 86 0) [] [] ∷ []);
  },
  Some (fault_at 1 71 kind.ValueHere),
)

-- process spec p() { trans async t(); }; process body p() { accept t() { treturn 0; } } main() { }
abbrev text4 : Row
text4 = (
  record {
    names = 3;
    formats = [];
    items = (item.Specification (x 1 14 1) [] (record { result = None; name = (x 1 32 2); parameters = [] } ∷ []) ∷
        item.Body (x 1 53 1) [] ((statement.Accept (record {
          head = record { place = (at 1 59); name = (x 1 66 2); names = []; clauses = [] };
          block =
              ((statement.TransactionReturn (at 1 72) (Some (phrase.Number (at 1 80) (pos 0) numeric.Int))) ∷ []);
        })) ∷ []) ∷ item.Function (type_name.Number
        numeric.Int) (x 1 87 0) [] [] ∷ []);
  },
  Some (fault_at 1 72 kind.ValueHere),
)

-- f() { return; } struct s { int a; }; struct s main() { return; }
abbrev text5 : Row
text5 = (
  record {
    names = 4;
    formats = [];
    items = (item.Function (type_name.Number numeric.Int) (x 1 1 1) [] ((statement.Return (at 1 7) None) ∷ []) ∷
        item.Structure (x 1 24 2) (record { of = (type_name.Number numeric.Int); name = (x 1 32 3); length = None } ∷ []) ∷ item.Function
        (type_name.Structure (x 1 45 2)) (x 1 47 0) [] ((statement.Return (at 1 56) None) ∷ []) ∷ []);
  },
  None,
)

abbrev pub rows : List Row
rows = text0 ∷ text1 ∷ text2 ∷ text3 ∷ text4 ∷ text5 ∷ []
