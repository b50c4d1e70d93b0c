-- 3 UnknownName
use Rattle.std.specs.Prelude.{pos, false, List, [], ◌∷◌, Some, None}
use Rattle.cc_base.specs.declared.numbers.NumberType.TheVariants as numeric
use Rattle.cc_faults.specs.declared.fault.TypeKind.TheVariants as kind
use Rattle.cc_faults.specs.declared.plain.Choice.TheVariants as choice
use Rattle.cc_faults.specs.declared.plain.Item.TheVariants as item
use Rattle.cc_faults.specs.declared.plain.Length.TheVariants as some_length
use Rattle.cc_faults.specs.declared.plain.LocalForm.TheVariants as form
use Rattle.cc_faults.specs.declared.plain.Phrase.TheVariants as phrase
use Rattle.cc_faults.specs.declared.plain.Statement.TheVariants as statement
use Rattle.cc_faults.specs.declared.plain.TypeName.TheVariants as type_name
use Rattle.types_tests.specs.Seen.{Row, at, fault_at, x}

-- main() { putchar(u); }
abbrev text0 : Row
text0 = (
  record {
    names = 2;
    formats = [];
    items = (item.Function (type_name.Number numeric.Int) (x 1 1 0) [] ((statement.Evaluate (phrase.PutChar (at 1
        10) (phrase.Name (x 1 18 1)))) ∷ []) ∷ []);
  },
  Some (fault_at 1 18 kind.UnknownName),
)

-- main() { u(); }
abbrev text1 : Row
text1 = (
  record {
    names = 2;
    formats = [];
    items = (item.Function (type_name.Number numeric.Int) (x 1 1 0) [] ((statement.Evaluate (phrase.Call (x 1 10 1)
        [])) ∷ []) ∷ []);
  },
  Some (fault_at 1 10 kind.UnknownName),
)

-- main() { int a[N]; }
abbrev text2 : Row
text2 = (
  record {
    names = 3;
    formats = [];
    items = (item.Function (type_name.Number numeric.Int) (x 1 1 0) [] ((statement.Declare (record {
      of =
          (type_name.Number numeric.Int);
      name = (x 1 14 1);
      form = form.Array (some_length.Name (x 1 16 2));
    })) ∷ []) ∷ []);
  },
  Some (fault_at 1 16
      kind.UnknownName),
)

-- struct s { int a[N]; }; enum { N = 2 }; main() { }
abbrev text3 : Row
text3 = (
  record {
    names = 4;
    formats = [];
    items = (item.Structure (x 1 8 1) (record {
      of = (type_name.Number numeric.Int);
      name = (x 1 16 2);
      length =
          (Some (some_length.Name (x 1 18 3)));
    } ∷ []) ∷ item.Enumeration None (record {
      name = (x 1 32 3);
      value = (Some (record {
        negative = false;
        length
            = (some_length.Number (at 1 36) (pos 2));
      }));
    } ∷ []) ∷ item.Function (type_name.Number numeric.Int) (x 1 41 0) [] [] ∷ []);
  },
  Some (fault_at 1 18
      kind.UnknownName),
)

-- enum { A = B }; main() { }
abbrev text4 : Row
text4 = (
  record {
    names = 3;
    formats = [];
    items = (item.Enumeration None (record {
      name = (x 1 8 1);
      value = (Some (record {
        negative = false;
        length =
            (some_length.Name (x 1 12 2));
      }));
    } ∷ []) ∷ item.Function (type_name.Number numeric.Int) (x 1 17 0) [] [] ∷ []);
  },
  Some (fault_at 1 12
      kind.UnknownName),
)

-- enum { A = A }; main() { }
abbrev text5 : Row
text5 = (
  record {
    names = 2;
    formats = [];
    items = (item.Enumeration None (record {
      name = (x 1 8 1);
      value = (Some (record {
        negative = false;
        length =
            (some_length.Name (x 1 12 1));
      }));
    } ∷ []) ∷ item.Function (type_name.Number numeric.Int) (x 1 17 0) [] [] ∷ []);
  },
  Some (fault_at 1 12
      kind.UnknownName),
)

-- main() { int x = x; }
abbrev text6 : Row
text6 = (
  record {
    names = 2;
    formats = [];
    items = (item.Function (type_name.Number numeric.Int) (x 1 1 0) [] ((statement.Declare (record {
      of =
          (type_name.Number numeric.Int);
      name = (x 1 14 1);
      form = form.Value (phrase.Name (x 1 18 1));
    })) ∷ []) ∷ []);
  },
  Some (fault_at 1 18
      kind.UnknownName),
)

-- main() { int x; { int x = x; } }
abbrev text7 : Row
text7 = (
  record {
    names = 2;
    formats = [];
    items = (item.Function (type_name.Number numeric.Int) (x 1 1 0) [] ((statement.Declare (record {
      of =
          (type_name.Number numeric.Int);
      name = (x 1 14 1);
      form = form.Plain;
    })) ∷ (statement.Block ((statement.Declare (record {
      of = (type_name.Number
          numeric.Int);
      name = (x 1 23 1);
      form = form.Value (phrase.Name (x 1 27 1));
    })) ∷ [])) ∷ []) ∷ []);
  },
  None,
)

-- main() { { int x; } x; }
abbrev text8 : Row
text8 = (
  record {
    names = 2;
    formats = [];
    items = (item.Function (type_name.Number numeric.Int) (x 1 1 0) [] ((statement.Block ((statement.Declare
        (record { of = (type_name.Number numeric.Int); name = (x 1 16 1); form = form.Plain })) ∷ [])) ∷ (statement.Evaluate (phrase.Name (x 1 21 1))) ∷
        []) ∷ []);
  },
  Some (fault_at 1 21 kind.UnknownName),
)

-- main() { A; } enum { A };
abbrev text9 : Row
text9 = (
  record {
    names = 2;
    formats = [];
    items = (item.Function (type_name.Number numeric.Int) (x 1 1 0) [] ((statement.Evaluate (phrase.Name (x 1 10
        1))) ∷ []) ∷ item.Enumeration None (record { name = (x 1 22 1); value = None } ∷ []) ∷ []);
  },
  Some (fault_at 1 10 kind.UnknownName),
)

-- process spec p() { trans void t(int a); }; process body p() { accept t(x); x; } main() { }
abbrev text10 : Row
text10 = (
  record {
    names = 4;
    formats = [];
    items = (item.Specification (x 1 14 1) [] (record {
      result = (Some (type_name.Void (at 1 26)));
      name = (x 1 31
          2);
      parameters = ((type_name.Number numeric.Int) ∷ []);
    } ∷ []) ∷ item.Body (x 1 57 1) [] ((statement.Accept (record {
      head = record {
        place = (at
            1 63);
        name = (x 1 70 2);
        names = ((x 1 72 3) ∷ []);
        clauses = [];
      };
      block = [];
    })) ∷ (statement.Evaluate (phrase.Name (x 1 76 3))) ∷ []) ∷
        item.Function (type_name.Number numeric.Int) (x 1 81 0) [] [] ∷ []);
  },
  Some (fault_at 1 76 kind.UnknownName),
)

-- process spec p() { trans void t(int a); }; process body p() { select { accept t(x) { } x; } } main() { }
abbrev text11 : Row
text11 = (
  record {
    names = 4;
    formats = [];
    items = (item.Specification (x 1 14 1) [] (record {
      result = (Some (type_name.Void (at 1 26)));
      name = (x 1 31
          2);
      parameters = ((type_name.Number numeric.Int) ∷ []);
    } ∷ []) ∷ item.Body (x 1 57 1) [] ((statement.Select (at 1 63) (record {
      guard = None;
      choice = (choice.Accept (record { head = record { place = (at 1 72); name = (x 1 79 2); names = ((x 1 81 3) ∷ []); clauses = [] }; block = [] }));
      entries = ((statement.Evaluate (phrase.Name (x 1 88 3))) ∷ []);
    } ∷ [])) ∷ []) ∷ item.Function (type_name.Number numeric.Int) (x 1 95 0) [] [] ∷
        []);
  },
  Some (fault_at 1 88 kind.UnknownName),
)

abbrev pub rows : List Row
rows = text0 ∷ text1 ∷ text2 ∷ text3 ∷ text4 ∷ text5 ∷ text6 ∷ text7 ∷ text8 ∷ text9 ∷ text10 ∷ text11 ∷ []
