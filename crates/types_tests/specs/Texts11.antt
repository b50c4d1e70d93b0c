-- 8 LargeType
use Rattle.std.specs.Prelude.{pos, List, [], ◌∷◌, Some, None}
use Rattle.cc_base.specs.declared.numbers.NumberType.TheVariants as numeric
use Rattle.cc_faults.specs.declared.fault.TypeKind.TheVariants as kind
use Rattle.cc_faults.specs.declared.plain.Item.TheVariants as item
use Rattle.cc_faults.specs.declared.plain.Length.TheVariants as some_length
use Rattle.cc_faults.specs.declared.plain.LocalForm.TheVariants as form
use Rattle.cc_faults.specs.declared.plain.Statement.TheVariants as statement
use Rattle.cc_faults.specs.declared.plain.TypeName.TheVariants as type_name
use Rattle.types_tests.specs.Seen.{Row, at, fault_at, x}

-- struct s { int a[65536]; int b; }; main() { }
abbrev text0 : Row
text0 = (
  record {
    names = 4;
    formats = [];
    items = (item.Structure (x 1 8 1) (record {
      of = (type_name.Number numeric.Int);
      name = (x 1 16 2);
      length =
          (Some (some_length.Number (at 1 18) (pos 65536)));
    } ∷ record { of = (type_name.Number numeric.Int); name = (x 1 30 3); length = None } ∷ []) ∷
        item.Function (type_name.Number numeric.Int) (x 1 36 0) [] [] ∷ []);
  },
  Some (fault_at 1 8 kind.LargeType),
)

-- struct s { int a[65535]; int b; }; main() { struct s x; }
abbrev text1 : Row
text1 = (
  record {
    names = 5;
    formats = [];
    items = (item.Structure (x 1 8 1) (record {
      of = (type_name.Number numeric.Int);
      name = (x 1 16 2);
      length =
          (Some (some_length.Number (at 1 18) (pos 65535)));
    } ∷ record { of = (type_name.Number numeric.Int); name = (x 1 30 3); length = None } ∷ []) ∷
        item.Function (type_name.Number numeric.Int) (x 1 36 0) [] ((statement.Declare (record {
          of = (type_name.Structure (x 1 52 1));
          name = (x 1 54 4);
          form = form.Plain;
        })) ∷ []) ∷ []);
  },
  None,
)

-- struct s { int a; int b; }; main() { struct s x[32769]; }
abbrev text2 : Row
text2 = (
  record {
    names = 5;
    formats = [];
    items = (item.Structure (x 1 8 1) (record {
      of = (type_name.Number numeric.Int);
      name = (x 1 16 2);
      length =
          None;
    } ∷ record { of = (type_name.Number numeric.Int); name = (x 1 23 3); length = None } ∷ []) ∷ item.Function (type_name.Number numeric.Int) (x
        1 29 0) [] ((statement.Declare (record {
          of = (type_name.Structure (x 1 45 1));
          name = (x 1 47 4);
          form = form.Array (some_length.Number (at 1 49)
              (pos 32769));
        })) ∷ []) ∷ []);
  },
  Some (fault_at 1 47 kind.LargeType),
)

-- struct s { int a; int b; }; main() { struct s x[32768]; }
abbrev text3 : Row
text3 = (
  record {
    names = 5;
    formats = [];
    items = (item.Structure (x 1 8 1) (record {
      of = (type_name.Number numeric.Int);
      name = (x 1 16 2);
      length =
          None;
    } ∷ record { of = (type_name.Number numeric.Int); name = (x 1 23 3); length = None } ∷ []) ∷ item.Function (type_name.Number numeric.Int) (x
        1 29 0) [] ((statement.Declare (record {
          of = (type_name.Structure (x 1 45 1));
          name = (x 1 47 4);
          form = form.Array (some_length.Number (at 1 49)
              (pos 32768));
        })) ∷ []) ∷ []);
  },
  None,
)

-- struct s { int a[256]; }; struct t { struct s x[257]; }; main() { }
abbrev text4 : Row
text4 = (
  record {
    names = 5;
    formats = [];
    items = (item.Structure (x 1 8 1) (record {
      of = (type_name.Number numeric.Int);
      name = (x 1 16 2);
      length =
          (Some (some_length.Number (at 1 18) (pos 256)));
    } ∷ []) ∷ item.Structure (x 1 34 3) (record {
      of = (type_name.Structure (x 1 45 1));
      name = (x 1
          47 4);
      length = (Some (some_length.Number (at 1 49) (pos 257)));
    } ∷ []) ∷ item.Function (type_name.Number numeric.Int) (x 1 58 0) [] [] ∷ []);
  },
  Some (fault_at 1 47 kind.LargeType),
)

-- struct s { int a[256]; int b; }; struct t { struct s x[255]; int y; }; main() { }
abbrev text5 : Row
text5 = (
  record {
    names = 7;
    formats = [];
    items = (item.Structure (x 1 8 1) (record {
      of = (type_name.Number numeric.Int);
      name = (x 1 16 2);
      length =
          (Some (some_length.Number (at 1 18) (pos 256)));
    } ∷ record { of = (type_name.Number numeric.Int); name = (x 1 28 3); length = None } ∷ []) ∷
        item.Structure (x 1 41 4) (record {
          of = (type_name.Structure (x 1 52 1));
          name = (x 1 54 5);
          length = (Some (some_length.Number (at 1 56) (pos
              255)));
        } ∷ record { of = (type_name.Number numeric.Int); name = (x 1 66 6); length = None } ∷ []) ∷ item.Function (type_name.Number numeric.Int)
        (x 1 72 0) [] [] ∷ []);
  },
  None,
)

-- struct s { int a[256]; int b; }; struct t { struct s x[255]; int y, z; }; main() { }
abbrev text6 : Row
text6 = (
  record {
    names = 8;
    formats = [];
    items = (item.Structure (x 1 8 1) (record {
      of = (type_name.Number numeric.Int);
      name = (x 1 16 2);
      length =
          (Some (some_length.Number (at 1 18) (pos 256)));
    } ∷ record { of = (type_name.Number numeric.Int); name = (x 1 28 3); length = None } ∷ []) ∷
        item.Structure (x 1 41 4) (record {
          of = (type_name.Structure (x 1 52 1));
          name = (x 1 54 5);
          length = (Some (some_length.Number (at 1 56) (pos
              255)));
        } ∷ record { of = (type_name.Number numeric.Int); name = (x 1 66 6); length = None } ∷ record {
          of = (type_name.Number numeric.Int);
          name =
              (x 1 69 7);
          length = None;
        } ∷ []) ∷ item.Function (type_name.Number numeric.Int) (x 1 75 0) [] [] ∷ []);
  },
  Some (fault_at 1 41 kind.LargeType),
)

abbrev pub rows : List Row
rows = text0 ∷ text1 ∷ text2 ∷ text3 ∷ text4 ∷ text5 ∷ text6 ∷ []
