-- 6 BadLength
use Rattle.std.specs.Prelude.{pos, true, false, List, [], ◌∷◌, Some, None}
use Rattle.cc_base.specs.declared.numbers.NumberType.TheVariants as numeric
use Rattle.cc_faults.specs.declared.fault.TypeKind.TheVariants as kind
use Rattle.cc_faults.specs.declared.plain.Item.TheVariants as item
use Rattle.cc_faults.specs.declared.plain.Length.TheVariants as some_length
use Rattle.cc_faults.specs.declared.plain.LocalForm.TheVariants as form
use Rattle.cc_faults.specs.declared.plain.Statement.TheVariants as statement
use Rattle.cc_faults.specs.declared.plain.TypeName.TheVariants as type_name
use Rattle.types_tests.specs.Seen.{Row, at, fault_at, x}

-- main() { int a[0]; }
abbrev text0 : Row
text0 = (
  record {
    names = 2;
    formats = [];
    items = (item.Function (type_name.Number numeric.Int) (x 1 1 0) [] ((statement.Declare (record {
      of =
          (type_name.Number numeric.Int);
      name = (x 1 14 1);
      form = form.Array (some_length.Number (at 1 16) (pos 0));
    })) ∷ []) ∷ []);
  },
  Some (fault_at 1 16
      kind.BadLength),
)

-- main() { int a[65537]; }
abbrev text1 : Row
text1 = (
  record {
    names = 2;
    formats = [];
    items = (item.Function (type_name.Number numeric.Int) (x 1 1 0) [] ((statement.Declare (record {
      of =
          (type_name.Number numeric.Int);
      name = (x 1 14 1);
      form = form.Array (some_length.Number (at 1 16) (pos 65537));
    })) ∷ []) ∷ []);
  },
  Some (fault_at
      1 16 kind.BadLength),
)

-- main() { int a[65536]; int b[1]; }
abbrev text2 : Row
text2 = (
  record {
    names = 3;
    formats = [];
    items = (item.Function (type_name.Number numeric.Int) (x 1 1 0) [] ((statement.Declare (record {
      of =
          (type_name.Number numeric.Int);
      name = (x 1 14 1);
      form = form.Array (some_length.Number (at 1 16) (pos 65536));
    })) ∷ (statement.Declare (record {
      of = (type_name.Number numeric.Int);
      name = (x 1 28 2);
      form = form.Array (some_length.Number (at 1 30) (pos 1));
    })) ∷ []) ∷ []);
  },
  None,
)

-- main() { int n; int a[n]; }
abbrev text3 : Row
text3 = (
  record {
    names = 3;
    formats = [];
    items = (item.Function (type_name.Number numeric.Int) (x 1 1 0) [] ((statement.Declare (record {
      of =
          (type_name.Number numeric.Int);
      name = (x 1 14 1);
      form = form.Plain;
    })) ∷ (statement.Declare (record {
      of = (type_name.Number numeric.Int);
      name
          = (x 1 21 2);
      form = form.Array (some_length.Name (x 1 23 1));
    })) ∷ []) ∷ []);
  },
  Some (fault_at 1 23 kind.BadLength),
)

-- main() { int a[f]; } f() { }
abbrev text4 : Row
text4 = (
  record {
    names = 3;
    formats = [];
    items = (item.Function (type_name.Number numeric.Int) (x 1 1 0) [] ((statement.Declare (record {
      of =
          (type_name.Number numeric.Int);
      name = (x 1 14 1);
      form = form.Array (some_length.Name (x 1 16 2));
    })) ∷ []) ∷ item.Function (type_name.Number
        numeric.Int) (x 1 22 2) [] [] ∷ []);
  },
  Some (fault_at 1 16 kind.BadLength),
)

-- struct s { int a['\0']; }; main() { }
abbrev text5 : Row
text5 = (
  record {
    names = 3;
    formats = [];
    items = (item.Structure (x 1 8 1) (record {
      of = (type_name.Number numeric.Int);
      name = (x 1 16 2);
      length =
          (Some (some_length.Number (at 1 18) (pos 0)));
    } ∷ []) ∷ item.Function (type_name.Number numeric.Int) (x 1 28 0) [] [] ∷ []);
  },
  Some (fault_at 1 18
      kind.BadLength),
)

-- struct s { int a['\n']; int b[0x10L]; }; main() { }
abbrev text6 : Row
text6 = (
  record {
    names = 4;
    formats = [];
    items = (item.Structure (x 1 8 1) (record {
      of = (type_name.Number numeric.Int);
      name = (x 1 16 2);
      length =
          (Some (some_length.Number (at 1 18) (pos 10)));
    } ∷ record {
      of = (type_name.Number numeric.Int);
      name = (x 1 29 3);
      length = (Some
          (some_length.Number (at 1 31) (pos 16)));
    } ∷ []) ∷ item.Function (type_name.Number numeric.Int) (x 1 42 0) [] [] ∷ []);
  },
  None,
)

-- enum { N = 0 }; main() { int a[N]; }
abbrev text7 : Row
text7 = (
  record {
    names = 3;
    formats = [];
    items = (item.Enumeration None (record {
      name = (x 1 8 1);
      value = (Some (record {
        negative = false;
        length =
            (some_length.Number (at 1 12) (pos 0));
      }));
    } ∷ []) ∷ item.Function (type_name.Number numeric.Int) (x 1 17 0) [] ((statement.Declare (record {
      of =
          (type_name.Number numeric.Int);
      name = (x 1 30 2);
      form = form.Array (some_length.Name (x 1 32 1));
    })) ∷ []) ∷ []);
  },
  Some (fault_at 1 32
      kind.BadLength),
)

-- enum { N = -1 }; struct s { int a[N]; }; main() { }
abbrev text8 : Row
text8 = (
  record {
    names = 4;
    formats = [];
    items = (item.Enumeration None (record {
      name = (x 1 8 1);
      value = (Some (record {
        negative = true;
        length =
            (some_length.Number (at 1 13) (pos 1));
      }));
    } ∷ []) ∷ item.Structure (x 1 25 2) (record {
      of = (type_name.Number numeric.Int);
      name = (x 1 33 3);
      length = (Some (some_length.Name (x 1 35 1)));
    } ∷ []) ∷ item.Function (type_name.Number numeric.Int) (x 1 42 0) [] [] ∷ []);
  },
  Some (fault_at 1 35
      kind.BadLength),
)

-- enum { N = 2 }; main() { int N; int a[N]; }
abbrev text9 : Row
text9 = (
  record {
    names = 3;
    formats = [];
    items = (item.Enumeration None (record {
      name = (x 1 8 1);
      value = (Some (record {
        negative = false;
        length =
            (some_length.Number (at 1 12) (pos 2));
      }));
    } ∷ []) ∷ item.Function (type_name.Number numeric.Int) (x 1 17 0) [] ((statement.Declare (record {
      of =
          (type_name.Number numeric.Int);
      name = (x 1 30 1);
      form = form.Plain;
    })) ∷ (statement.Declare (record {
      of = (type_name.Number numeric.Int);
      name
          = (x 1 37 2);
      form = form.Array (some_length.Name (x 1 39 1));
    })) ∷ []) ∷ []);
  },
  Some (fault_at 1 39 kind.BadLength),
)

-- main() { int a[main]; }
abbrev text10 : Row
text10 = (
  record {
    names = 2;
    formats = [];
    items = (item.Function (type_name.Number numeric.Int) (x 1 1 0) [] ((statement.Declare (record {
      of =
          (type_name.Number numeric.Int);
      name = (x 1 14 1);
      form = form.Array (some_length.Name (x 1 16 0));
    })) ∷ []) ∷ []);
  },
  Some (fault_at 1 16
      kind.BadLength),
)

abbrev pub rows : List Row
rows = text0 ∷ text1 ∷ text2 ∷ text3 ∷ text4 ∷ text5 ∷ text6 ∷ text7 ∷ text8 ∷ text9 ∷ text10 ∷ []
