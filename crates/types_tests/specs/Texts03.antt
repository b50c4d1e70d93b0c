-- 2 Duplicate
use Rattle.std.specs.Prelude.{List, [], ◌∷◌, Some, None}
use Rattle.cc_base.specs.declared.numbers.NumberType.TheVariants as numeric
use Rattle.cc_faults.specs.declared.fault.TypeKind.TheVariants as kind
use Rattle.cc_faults.specs.declared.plain.Item.TheVariants as item
use Rattle.cc_faults.specs.declared.plain.LocalForm.TheVariants as form
use Rattle.cc_faults.specs.declared.plain.Statement.TheVariants as statement
use Rattle.cc_faults.specs.declared.plain.TypeName.TheVariants as type_name
use Rattle.types_tests.specs.Seen.{Row, fault_at, x}

-- main() { int x; int x; }
abbrev text0 : Row
text0 = (
  record {
    names = 2;
    formats = [];
    items = (item.Function (type_name.Number numeric.Int) (x 1 1 0) [] ((statement.Declare (record {
      of =
          (type_name.Number numeric.Int);
      name = (x 1 14 1);
      form = form.Plain;
    })) ∷ (statement.Declare (record {
      of = (type_name.Number numeric.Int);
      name
          = (x 1 21 1);
      form = form.Plain;
    })) ∷ []) ∷ []);
  },
  Some (fault_at 1 21 kind.Duplicate),
)

-- f(int x, int x) { } main() { }
abbrev text1 : Row
text1 = (
  record {
    names = 3;
    formats = [];
    items = (item.Function (type_name.Number numeric.Int) (x 1 1 1) (record {
      of = (type_name.Number numeric.Int);
      name = (x 1 7 2);
    } ∷ record { of = (type_name.Number numeric.Int); name = (x 1 14 2) } ∷ []) [] ∷ item.Function (type_name.Number numeric.Int) (x
        1 21 0) [] [] ∷ []);
  },
  Some (fault_at 1 14 kind.Duplicate),
)

-- f(int x) { int x; } main() { }
abbrev text2 : Row
text2 = (
  record {
    names = 3;
    formats = [];
    items = (item.Function (type_name.Number numeric.Int) (x 1 1 1) (record {
      of = (type_name.Number numeric.Int);
      name = (x 1 7 2);
    } ∷ []) ((statement.Declare (record { of = (type_name.Number numeric.Int); name = (x 1 16 2); form = form.Plain })) ∷ []) ∷
        item.Function (type_name.Number numeric.Int) (x 1 21 0) [] [] ∷ []);
  },
  Some (fault_at 1 16 kind.Duplicate),
)

-- f(int x) { { int x; } } main() { }
abbrev text3 : Row
text3 = (
  record {
    names = 3;
    formats = [];
    items = (item.Function (type_name.Number numeric.Int) (x 1 1 1) (record {
      of = (type_name.Number numeric.Int);
      name = (x 1 7 2);
    } ∷ []) ((statement.Block ((statement.Declare (record {
      of = (type_name.Number numeric.Int);
      name = (x 1 18 2);
      form = form.Plain;
    })) ∷ [])) ∷ []) ∷ item.Function (type_name.Number numeric.Int) (x 1 25 0) [] [] ∷ []);
  },
  None,
)

-- struct s { int a, a; }; main() { }
abbrev text4 : Row
text4 = (
  record {
    names = 3;
    formats = [];
    items = (item.Structure (x 1 8 1) (record {
      of = (type_name.Number numeric.Int);
      name = (x 1 16 2);
      length =
          None;
    } ∷ record { of = (type_name.Number numeric.Int); name = (x 1 19 2); length = None } ∷ []) ∷ item.Function (type_name.Number numeric.Int) (x
        1 25 0) [] [] ∷ []);
  },
  Some (fault_at 1 19 kind.Duplicate),
)

-- struct s { int a; }; struct s { int b; }; main() { }
abbrev text5 : Row
text5 = (
  record {
    names = 4;
    formats = [];
    items = (item.Structure (x 1 8 1) (record {
      of = (type_name.Number numeric.Int);
      name = (x 1 16 2);
      length =
          None;
    } ∷ []) ∷ item.Structure (x 1 29 1) (record { of = (type_name.Number numeric.Int); name = (x 1 37 3); length = None } ∷ []) ∷ item.Function
        (type_name.Number numeric.Int) (x 1 43 0) [] [] ∷ []);
  },
  Some (fault_at 1 29 kind.Duplicate),
)

-- enum e { A }; enum e { B }; main() { }
abbrev text6 : Row
text6 = (
  record {
    names = 4;
    formats = [];
    items = (item.Enumeration (Some (x 1 6 1)) (record { name = (x 1 10 2); value = None } ∷ []) ∷ item.Enumeration
        (Some (x 1 20 1)) (record { name = (x 1 24 3); value = None } ∷ []) ∷ item.Function (type_name.Number numeric.Int) (x 1 29 0) [] [] ∷ []);
  },
  Some
      (fault_at 1 20 kind.Duplicate),
)

-- enum { A, A }; main() { }
abbrev text7 : Row
text7 = (
  record {
    names = 2;
    formats = [];
    items = (item.Enumeration None (record { name = (x 1 8 1); value = None } ∷ record {
      name = (x 1 11 1);
      value =
          None;
    } ∷ []) ∷ item.Function (type_name.Number numeric.Int) (x 1 16 0) [] [] ∷ []);
  },
  Some (fault_at 1 11 kind.Duplicate),
)

-- enum { A }; enum { B, A }; main() { }
abbrev text8 : Row
text8 = (
  record {
    names = 3;
    formats = [];
    items = (item.Enumeration None (record { name = (x 1 8 1); value = None } ∷ []) ∷ item.Enumeration None (record
        { name = (x 1 20 2); value = None } ∷ record { name = (x 1 23 1); value = None } ∷ []) ∷ item.Function (type_name.Number numeric.Int) (x 1 28 0)
        [] [] ∷ []);
  },
  Some (fault_at 1 23 kind.Duplicate),
)

-- f() { } f() { } main() { }
abbrev text9 : Row
text9 = (
  record {
    names = 2;
    formats = [];
    items = (item.Function (type_name.Number numeric.Int) (x 1 1 1) [] [] ∷ item.Function (type_name.Number
        numeric.Int) (x 1 9 1) [] [] ∷ item.Function (type_name.Number numeric.Int) (x 1 17 0) [] [] ∷ []);
  },
  Some (fault_at 1 9 kind.Duplicate),
)

-- enum { f }; f() { } main() { }
abbrev text10 : Row
text10 = (
  record {
    names = 2;
    formats = [];
    items = (item.Enumeration None (record { name = (x 1 8 1); value = None } ∷ []) ∷ item.Function
        (type_name.Number numeric.Int) (x 1 13 1) [] [] ∷ item.Function (type_name.Number numeric.Int) (x 1 21 0) [] [] ∷ []);
  },
  Some (fault_at 1 13
      kind.Duplicate),
)

-- f() { } enum { f }; main() { }
abbrev text11 : Row
text11 = (
  record {
    names = 2;
    formats = [];
    items = (item.Function (type_name.Number numeric.Int) (x 1 1 1) [] [] ∷ item.Enumeration None (record {
      name =
          (x 1 16 1);
      value = None;
    } ∷ []) ∷ item.Function (type_name.Number numeric.Int) (x 1 21 0) [] [] ∷ []);
  },
  Some (fault_at 1 16 kind.Duplicate),
)

abbrev pub rows : List Row
rows = text0 ∷ text1 ∷ text2 ∷ text3 ∷ text4 ∷ text5 ∷ text6 ∷ text7 ∷ text8 ∷ text9 ∷ text10 ∷ text11 ∷ []
