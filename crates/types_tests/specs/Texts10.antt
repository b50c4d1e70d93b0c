-- 7 EnumRange
use Rattle.std.specs.Prelude.{pos, true, false, List, [], ◌∷◌, Some, None}
use Rattle.cc_base.specs.declared.numbers.NumberType.TheVariants as numeric
use Rattle.cc_faults.specs.declared.fault.TypeKind.TheVariants as kind
use Rattle.cc_faults.specs.declared.plain.Item.TheVariants as item
use Rattle.cc_faults.specs.declared.plain.Length.TheVariants as some_length
use Rattle.cc_faults.specs.declared.plain.Phrase.TheVariants as phrase
use Rattle.cc_faults.specs.declared.plain.Statement.TheVariants as statement
use Rattle.cc_faults.specs.declared.plain.TypeName.TheVariants as type_name
use Rattle.types_tests.specs.Seen.{Row, at, fault_at, x}

-- enum { A = 2147483647, B, C }; main() { C; }
abbrev text0 : Row
text0 = (
  record {
    names = 4;
    formats = [];
    items = (item.Enumeration None (record {
      name = (x 1 8 1);
      value = (Some (record {
        negative = false;
        length =
            (some_length.Number (at 1 12) (pos 2147483647));
      }));
    } ∷ record { name = (x 1 24 2); value = None } ∷ record { name = (x 1 27 3); value = None } ∷
        []) ∷ item.Function (type_name.Number numeric.Int) (x 1 32 0) [] ((statement.Evaluate (phrase.Name (x 1 41 3))) ∷ []) ∷ []);
  },
  Some (fault_at 1 24
      kind.EnumRange),
)

-- enum { A = 2147483648 }; main() { }
abbrev text1 : Row
text1 = (
  record {
    names = 2;
    formats = [];
    items = (item.Enumeration None (record {
      name = (x 1 8 1);
      value = (Some (record {
        negative = false;
        length =
            (some_length.Number (at 1 12) (pos 2147483648));
      }));
    } ∷ []) ∷ item.Function (type_name.Number numeric.Int) (x 1 26 0) [] [] ∷ []);
  },
  Some
      (fault_at 1 8 kind.EnumRange),
)

-- enum { A = -2147483648, B = 2147483647, C = 'a', D = 017L }; main() { putchar(B); }
abbrev text2 : Row
text2 = (
  record {
    names = 5;
    formats = [];
    items = (item.Enumeration None (record {
      name = (x 1 8 1);
      value = (Some (record {
        negative = true;
        length =
            (some_length.Number (at 1 13) (pos 2147483648));
      }));
    } ∷ record {
      name = (x 1 25 2);
      value = (Some (record {
        negative = false;
        length =
            (some_length.Number (at 1 29) (pos 2147483647));
      }));
    } ∷ record {
      name = (x 1 41 3);
      value = (Some (record {
        negative = false;
        length =
            (some_length.Number (at 1 45) (pos 97));
      }));
    } ∷ record {
      name = (x 1 50 4);
      value = (Some (record {
        negative = false;
        length = (some_length.Number
            (at 1 54) (pos 15));
      }));
    } ∷ []) ∷ item.Function (type_name.Number numeric.Int) (x 1 62 0) [] ((statement.Evaluate (phrase.PutChar (at 1 71)
        (phrase.Name (x 1 79 2)))) ∷ []) ∷ []);
  },
  None,
)

-- enum { A = -2147483649 }; main() { }
abbrev text3 : Row
text3 = (
  record {
    names = 2;
    formats = [];
    items = (item.Enumeration None (record {
      name = (x 1 8 1);
      value = (Some (record {
        negative = true;
        length =
            (some_length.Number (at 1 13) (pos 2147483649));
      }));
    } ∷ []) ∷ item.Function (type_name.Number numeric.Int) (x 1 27 0) [] [] ∷ []);
  },
  Some
      (fault_at 1 8 kind.EnumRange),
)

-- enum { A = f }; f() { } main() { }
abbrev text4 : Row
text4 = (
  record {
    names = 3;
    formats = [];
    items = (item.Enumeration None (record {
      name = (x 1 8 1);
      value = (Some (record {
        negative = false;
        length =
            (some_length.Name (x 1 12 2));
      }));
    } ∷ []) ∷ item.Function (type_name.Number numeric.Int) (x 1 17 2) [] [] ∷ item.Function (type_name.Number
        numeric.Int) (x 1 25 0) [] [] ∷ []);
  },
  Some (fault_at 1 8 kind.EnumRange),
)

-- enum { A = -main }; main() { }
abbrev text5 : Row
text5 = (
  record {
    names = 2;
    formats = [];
    items = (item.Enumeration None (record {
      name = (x 1 8 1);
      value = (Some (record {
        negative = true;
        length =
            (some_length.Name (x 1 13 0));
      }));
    } ∷ []) ∷ item.Function (type_name.Number numeric.Int) (x 1 21 0) [] [] ∷ []);
  },
  Some (fault_at 1 8
      kind.EnumRange),
)

-- f() { } enum { A, B = f, C }; main() { }
abbrev text6 : Row
text6 = (
  record {
    names = 5;
    formats = [];
    items = (item.Function (type_name.Number numeric.Int) (x 1 1 1) [] [] ∷ item.Enumeration None (record {
      name =
          (x 1 16 2);
      value = None;
    } ∷ record { name = (x 1 19 3); value = (Some (record { negative = false; length = (some_length.Name (x 1 23 1)) })) } ∷
        record { name = (x 1 26 4); value = None } ∷ []) ∷ item.Function (type_name.Number numeric.Int) (x 1 31 0) [] [] ∷ []);
  },
  Some (fault_at 1 19
      kind.EnumRange),
)

abbrev pub rows : List Row
rows = text0 ∷ text1 ∷ text2 ∷ text3 ∷ text4 ∷ text5 ∷ text6 ∷ []
