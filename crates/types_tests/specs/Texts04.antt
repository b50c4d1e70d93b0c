-- 2 Duplicate
use Rattle.std.specs.Prelude.{List, [], ◌∷◌, Some, None}
use Rattle.cc_base.specs.declared.numbers.NumberType.TheVariants as numeric
use Rattle.cc_faults.specs.declared.fault.TypeKind.TheVariants as kind
use Rattle.cc_faults.specs.declared.plain.Choice.TheVariants as choice
use Rattle.cc_faults.specs.declared.plain.Item.TheVariants as item
use Rattle.cc_faults.specs.declared.plain.LocalForm.TheVariants as form
use Rattle.cc_faults.specs.declared.plain.Statement.TheVariants as statement
use Rattle.cc_faults.specs.declared.plain.TypeName.TheVariants as type_name
use Rattle.types_tests.specs.Seen.{Row, at, fault_at, x}

-- process spec p(); process spec p(); process body p() { } main() { }
abbrev text0 : Row
text0 = (
  record {
    names = 2;
    formats = [];
    items = (item.Specification (x 1 14 1) [] [] ∷ item.Specification (x 1 32 1) [] [] ∷ item.Body (x 1 50 1) [] []
        ∷ item.Function (type_name.Number numeric.Int) (x 1 58 0) [] [] ∷ []);
  },
  Some (fault_at 1 32 kind.Duplicate),
)

-- process spec p(); process body p() { } process body p() { } main() { }
abbrev text1 : Row
text1 = (
  record {
    names = 2;
    formats = [];
    items = (item.Specification (x 1 14 1) [] [] ∷ item.Body (x 1 32 1) [] [] ∷ item.Body (x 1 53 1) [] [] ∷
        item.Function (type_name.Number numeric.Int) (x 1 61 0) [] [] ∷ []);
  },
  Some (fault_at 1 53 kind.Duplicate),
)

-- process spec p() { trans void t(); trans async t(int a); }; process body p() { } main() { }
abbrev text2 : Row
text2 = (
  record {
    names = 3;
    formats = [];
    items = (item.Specification (x 1 14 1) [] (record {
      result = (Some (type_name.Void (at 1 26)));
      name = (x 1 31
          2);
      parameters = [];
    } ∷ record { result = None; name = (x 1 48 2); parameters = ((type_name.Number numeric.Int) ∷ []) } ∷ []) ∷ item.Body (x 1 74
        1) [] [] ∷ item.Function (type_name.Number numeric.Int) (x 1 82 0) [] [] ∷ []);
  },
  Some (fault_at 1 48 kind.Duplicate),
)

-- process spec p(int a, int b); process body p(x, x) { } main() { }
abbrev text3 : Row
text3 = (
  record {
    names = 3;
    formats = [];
    items = (item.Specification (x 1 14 1) ((type_name.Number numeric.Int) ∷ (type_name.Number numeric.Int) ∷ [])
        [] ∷ item.Body (x 1 44 1) ((x 1 46 2) ∷ (x 1 49 2) ∷ []) [] ∷ item.Function (type_name.Number numeric.Int) (x 1 56 0) [] [] ∷ []);
  },
  Some
      (fault_at 1 49 kind.Duplicate),
)

-- process spec p(int a); process body p(x) { int x; } main() { }
abbrev text4 : Row
text4 = (
  record {
    names = 3;
    formats = [];
    items = (item.Specification (x 1 14 1) ((type_name.Number numeric.Int) ∷ []) [] ∷ item.Body (x 1 37 1) ((x 1 39
        2) ∷ []) ((statement.Declare (record { of = (type_name.Number numeric.Int); name = (x 1 48 2); form = form.Plain })) ∷ []) ∷ item.Function
        (type_name.Number numeric.Int) (x 1 53 0) [] [] ∷ []);
  },
  Some (fault_at 1 48 kind.Duplicate),
)

-- process spec p() { trans void t(int a, int b); }; process body p() { accept t(x, x); } main() { }
abbrev text5 : Row
text5 = (
  record {
    names = 4;
    formats = [];
    items = (item.Specification (x 1 14 1) [] (record {
      result = (Some (type_name.Void (at 1 26)));
      name = (x 1 31
          2);
      parameters = ((type_name.Number numeric.Int) ∷ (type_name.Number numeric.Int) ∷ []);
    } ∷ []) ∷ item.Body (x 1 64 1) [] ((statement.Accept
        (record { head = record { place = (at 1 70); name = (x 1 77 2); names = ((x 1 79 3) ∷ (x 1 82 3) ∷ []); clauses = [] }; block = [] })) ∷ []) ∷
        item.Function (type_name.Number numeric.Int) (x 1 88 0) [] [] ∷ []);
  },
  Some (fault_at 1 82 kind.Duplicate),
)

-- process spec p() { trans void t(int a); }; process body p() { accept t(x) { int x; } } main() { }
abbrev text6 : Row
text6 = (
  record {
    names = 4;
    formats = [];
    items = (item.Specification (x 1 14 1) [] (record {
      result = (Some (type_name.Void (at 1 26)));
      name = (x 1 31
          2);
      parameters = ((type_name.Number numeric.Int) ∷ []);
    } ∷ []) ∷ item.Body (x 1 57 1) [] ((statement.Accept (record {
      head = record {
        place = (at
            1 63);
        name = (x 1 70 2);
        names = ((x 1 72 3) ∷ []);
        clauses = [];
      };
      block = ((statement.Declare (record {
        of = (type_name.Number numeric.Int);
        name = (x 1 81 3);
        form = form.Plain;
      })) ∷ []);
    })) ∷ []) ∷ item.Function (type_name.Number numeric.Int) (x 1 88 0) [] [] ∷ []);
  },
  None,
)

-- process spec p(int a, int a) { trans void t(int a, int a); }; process body p(x, y) { } main() { }
abbrev text7 : Row
text7 = (
  record {
    names = 5;
    formats = [];
    items = (item.Specification (x 1 14 1) ((type_name.Number numeric.Int) ∷ (type_name.Number numeric.Int) ∷ [])
        (record {
          result = (Some (type_name.Void (at 1 38)));
          name = (x 1 43 2);
          parameters = ((type_name.Number numeric.Int) ∷ (type_name.Number
              numeric.Int) ∷ []);
        } ∷ []) ∷ item.Body (x 1 76 1) ((x 1 78 3) ∷ (x 1 81 4) ∷ []) [] ∷ item.Function (type_name.Number numeric.Int) (x 1 88 0) []
        [] ∷ []);
  },
  None,
)

-- struct x { int x; }; enum x { y }; process spec x(); process body x() { } x() { } main() { int x; struct x s; }
abbrev text8 : Row
text8 = (
  record {
    names = 4;
    formats = [];
    items = (item.Structure (x 1 8 1) (record {
      of = (type_name.Number numeric.Int);
      name = (x 1 16 1);
      length =
          None;
    } ∷ []) ∷ item.Enumeration (Some (x 1 27 1)) (record { name = (x 1 31 2); value = None } ∷ []) ∷ item.Specification (x 1 49 1) [] [] ∷
        item.Body (x 1 67 1) [] [] ∷ item.Function (type_name.Number numeric.Int) (x 1 75 1) [] [] ∷ item.Function (type_name.Number numeric.Int) (x 1 83
        0) [] ((statement.Declare (record { of = (type_name.Number numeric.Int); name = (x 1 96 1); form = form.Plain })) ∷ (statement.Declare (record {
          of = (type_name.Structure (x 1 106 1));
          name = (x 1 108 3);
          form = form.Plain;
        })) ∷ []) ∷ []);
  },
  None,
)

-- process spec p() { trans void t(); }; process body p() { select { immediate; int a; int a; or immediate; int a; } } main() { }
abbrev text9 : Row
text9 = (
  record {
    names = 4;
    formats = [];
    items = (item.Specification (x 1 14 1) [] (record {
      result = (Some (type_name.Void (at 1 26)));
      name = (x 1 31
          2);
      parameters = [];
    } ∷ []) ∷ item.Body (x 1 52 1) [] ((statement.Select (at 1 58) (record {
      guard = None;
      choice = choice.Immediate;
      entries =
          ((statement.Declare (record { of = (type_name.Number numeric.Int); name = (x 1 82 3); form = form.Plain })) ∷ (statement.Declare (record {
            of =
                (type_name.Number numeric.Int);
            name = (x 1 89 3);
            form = form.Plain;
          })) ∷ []);
    } ∷ record {
      guard = None;
      choice = choice.Immediate;
      entries =
          ((statement.Declare (record { of = (type_name.Number numeric.Int); name = (x 1 110 3); form = form.Plain })) ∷ []);
    } ∷ [])) ∷ []) ∷ item.Function
        (type_name.Number numeric.Int) (x 1 117 0) [] [] ∷ []);
  },
  Some (fault_at 1 89 kind.Duplicate),
)

abbrev pub rows : List Row
rows = text0 ∷ text1 ∷ text2 ∷ text3 ∷ text4 ∷ text5 ∷ text6 ∷ text7 ∷ text8 ∷ text9 ∷ []
