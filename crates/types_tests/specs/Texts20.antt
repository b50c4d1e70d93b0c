-- 14 Mismatch
use Rattle.std.specs.Prelude.{pos, List, [], ◌∷◌, Some, None}
use Rattle.cc_base.specs.declared.numbers.Comparison.TheVariants as comparison
use Rattle.cc_base.specs.declared.numbers.NumberType.TheVariants as numeric
use Rattle.cc_faults.specs.declared.fault.TypeKind.TheVariants as kind
use Rattle.cc_faults.specs.declared.plain.Item.TheVariants as item
use Rattle.cc_faults.specs.declared.plain.Length.TheVariants as some_length
use Rattle.cc_faults.specs.declared.plain.LocalForm.TheVariants as form
use Rattle.cc_faults.specs.declared.plain.Phrase.TheVariants as phrase
use Rattle.cc_faults.specs.declared.plain.Statement.TheVariants as statement
use Rattle.cc_faults.specs.declared.plain.TypeName.TheVariants as type_name
use Rattle.types_tests.specs.Seen.{Row, at, fault_at, x}

-- main() { process p x; x == 1; } process spec p(); process body p() { }
abbrev text0 : Row
text0 = (
  record {
    names = 3;
    formats = [];
    items = (item.Function (type_name.Number numeric.Int) (x 1 1 0) [] ((statement.Declare (record {
      of =
          (type_name.Process (x 1 18 1));
      name = (x 1 20 2);
      form = form.Plain;
    })) ∷ (statement.Evaluate (phrase.Compare (phrase.Name (x 1 23 2)) (record {
      comparison = comparison.Equal;
      operand = (phrase.Number (at 1 28) (pos 1) numeric.Int);
    } ∷ []))) ∷ []) ∷ item.Specification (x 1 46 1) [] [] ∷
        item.Body (x 1 64 1) [] [] ∷ []);
  },
  Some (fault_at 1 23 kind.Mismatch),
)

-- main() { process p x; 1 != x; } process spec p(); process body p() { }
abbrev text1 : Row
text1 = (
  record {
    names = 3;
    formats = [];
    items = (item.Function (type_name.Number numeric.Int) (x 1 1 0) [] ((statement.Declare (record {
      of =
          (type_name.Process (x 1 18 1));
      name = (x 1 20 2);
      form = form.Plain;
    })) ∷ (statement.Evaluate (phrase.Compare (phrase.Number (at 1 23) (pos 1)
        numeric.Int) (record { comparison = comparison.Different; operand = (phrase.Name (x 1 28 2)) } ∷ []))) ∷ []) ∷ item.Specification (x 1 46 1) [] []
        ∷ item.Body (x 1 64 1) [] [] ∷ []);
  },
  Some (fault_at 1 28 kind.Mismatch),
)

-- main() { process p x; x < x; } process spec p(); process body p() { }
abbrev text2 : Row
text2 = (
  record {
    names = 3;
    formats = [];
    items = (item.Function (type_name.Number numeric.Int) (x 1 1 0) [] ((statement.Declare (record {
      of =
          (type_name.Process (x 1 18 1));
      name = (x 1 20 2);
      form = form.Plain;
    })) ∷ (statement.Evaluate (phrase.Compare (phrase.Name (x 1 23 2)) (record {
      comparison = comparison.Less;
      operand = (phrase.Name (x 1 27 2));
    } ∷ []))) ∷ []) ∷ item.Specification (x 1 45 1) [] [] ∷ item.Body (x 1 63 1) []
        [] ∷ []);
  },
  Some (fault_at 1 23 kind.Mismatch),
)

-- main() { process p x; process q y; x == y; } process spec p(); process body p() { } process spec q(); process body q() { }
abbrev text3 : Row
text3 = (
  record {
    names = 5;
    formats = [];
    items = (item.Function (type_name.Number numeric.Int) (x 1 1 0) [] ((statement.Declare (record {
      of =
          (type_name.Process (x 1 18 1));
      name = (x 1 20 2);
      form = form.Plain;
    })) ∷ (statement.Declare (record {
      of = (type_name.Process (x 1 31 3));
      name
          = (x 1 33 4);
      form = form.Plain;
    })) ∷ (statement.Evaluate (phrase.Compare (phrase.Name (x 1 36 2)) (record {
      comparison = comparison.Equal;
      operand = (phrase.Name (x 1 41 4));
    } ∷ []))) ∷ []) ∷ item.Specification (x 1 59 1) [] [] ∷ item.Body (x 1 77 1) [] [] ∷ item.Specification (x 1 98
        3) [] [] ∷ item.Body (x 1 116 3) [] [] ∷ []);
  },
  Some (fault_at 1 36 kind.Mismatch),
)

-- main() { process p x; x == x == x; } process spec p(); process body p() { }
abbrev text4 : Row
text4 = (
  record {
    names = 3;
    formats = [];
    items = (item.Function (type_name.Number numeric.Int) (x 1 1 0) [] ((statement.Declare (record {
      of =
          (type_name.Process (x 1 18 1));
      name = (x 1 20 2);
      form = form.Plain;
    })) ∷ (statement.Evaluate (phrase.Compare (phrase.Name (x 1 23 2)) (record {
      comparison = comparison.Equal;
      operand = (phrase.Name (x 1 28 2));
    } ∷ record { comparison = comparison.Equal; operand = (phrase.Name (x 1 33 2)) }
        ∷ []))) ∷ []) ∷ item.Specification (x 1 51 1) [] [] ∷ item.Body (x 1 69 1) [] [] ∷ []);
  },
  Some (fault_at 1 33 kind.Mismatch),
)

-- main() { process p x; x == x == 1; } process spec p(); process body p() { }
abbrev text5 : Row
text5 = (
  record {
    names = 3;
    formats = [];
    items = (item.Function (type_name.Number numeric.Int) (x 1 1 0) [] ((statement.Declare (record {
      of =
          (type_name.Process (x 1 18 1));
      name = (x 1 20 2);
      form = form.Plain;
    })) ∷ (statement.Evaluate (phrase.Compare (phrase.Name (x 1 23 2)) (record {
      comparison = comparison.Equal;
      operand = (phrase.Name (x 1 28 2));
    } ∷ record {
      comparison = comparison.Equal;
      operand = (phrase.Number (at 1 33)
          (pos 1) numeric.Int);
    } ∷ []))) ∷ []) ∷ item.Specification (x 1 51 1) [] [] ∷ item.Body (x 1 69 1) [] [] ∷ []);
  },
  None,
)

-- main() { process p x; x == u; } process spec p(); process body p() { }
abbrev text6 : Row
text6 = (
  record {
    names = 4;
    formats = [];
    items = (item.Function (type_name.Number numeric.Int) (x 1 1 0) [] ((statement.Declare (record {
      of =
          (type_name.Process (x 1 18 1));
      name = (x 1 20 2);
      form = form.Plain;
    })) ∷ (statement.Evaluate (phrase.Compare (phrase.Name (x 1 23 2)) (record {
      comparison = comparison.Equal;
      operand = (phrase.Name (x 1 28 3));
    } ∷ []))) ∷ []) ∷ item.Specification (x 1 46 1) [] [] ∷ item.Body (x 1 64 1) []
        [] ∷ []);
  },
  Some (fault_at 1 28 kind.UnknownName),
)

-- struct s { int a; }; main() { struct s x; x == u; }
abbrev text7 : Row
text7 = (
  record {
    names = 5;
    formats = [];
    items = (item.Structure (x 1 8 1) (record {
      of = (type_name.Number numeric.Int);
      name = (x 1 16 2);
      length =
          None;
    } ∷ []) ∷ item.Function (type_name.Number numeric.Int) (x 1 22 0) [] ((statement.Declare (record {
      of = (type_name.Structure (x 1 38 1));
      name = (x 1 40 3);
      form = form.Plain;
    })) ∷ (statement.Evaluate (phrase.Compare (phrase.Name (x 1 43 3)) (record {
      comparison = comparison.Equal;
      operand = (phrase.Name (x 1 48 4));
    } ∷ []))) ∷ []) ∷ []);
  },
  Some (fault_at 1 43 kind.Mismatch),
)

-- struct s { int a; }; main() { struct s x; 1 ? 2 : x; }
abbrev text8 : Row
text8 = (
  record {
    names = 4;
    formats = [];
    items = (item.Structure (x 1 8 1) (record {
      of = (type_name.Number numeric.Int);
      name = (x 1 16 2);
      length =
          None;
    } ∷ []) ∷ item.Function (type_name.Number numeric.Int) (x 1 22 0) [] ((statement.Declare (record {
      of = (type_name.Structure (x 1 38 1));
      name = (x 1 40 3);
      form = form.Plain;
    })) ∷ (statement.Evaluate (phrase.Choose (phrase.Number (at 1 43) (pos 1) numeric.Int) (phrase.Number (at 1
        47) (pos 2) numeric.Int) (phrase.Name (x 1 51 3)))) ∷ []) ∷ []);
  },
  Some (fault_at 1 51 kind.Mismatch),
)

-- struct s { int a; }; main() { struct s x; 1 ? x : 2; }
abbrev text9 : Row
text9 = (
  record {
    names = 4;
    formats = [];
    items = (item.Structure (x 1 8 1) (record {
      of = (type_name.Number numeric.Int);
      name = (x 1 16 2);
      length =
          None;
    } ∷ []) ∷ item.Function (type_name.Number numeric.Int) (x 1 22 0) [] ((statement.Declare (record {
      of = (type_name.Structure (x 1 38 1));
      name = (x 1 40 3);
      form = form.Plain;
    })) ∷ (statement.Evaluate (phrase.Choose (phrase.Number (at 1 43) (pos 1) numeric.Int) (phrase.Name (x 1 47
        3)) (phrase.Number (at 1 51) (pos 2) numeric.Int))) ∷ []) ∷ []);
  },
  Some (fault_at 1 51 kind.Mismatch),
)

-- main() { int a[2]; 1 ? a : a; }
abbrev text10 : Row
text10 = (
  record {
    names = 2;
    formats = [];
    items = (item.Function (type_name.Number numeric.Int) (x 1 1 0) [] ((statement.Declare (record {
      of =
          (type_name.Number numeric.Int);
      name = (x 1 14 1);
      form = form.Array (some_length.Number (at 1 16) (pos 2));
    })) ∷ (statement.Evaluate
        (phrase.Choose (phrase.Number (at 1 20) (pos 1) numeric.Int) (phrase.Name (x 1 24 1)) (phrase.Name (x 1 28 1)))) ∷ []) ∷ []);
  },
  Some (fault_at 1
      24 kind.Mismatch),
)

-- void g() { } main() { 1 ? g() : 1; }
abbrev text11 : Row
text11 = (
  record {
    names = 2;
    formats = [];
    items = (item.Function (type_name.Void (at 1 1)) (x 1 6 1) [] [] ∷ item.Function (type_name.Number numeric.Int)
        (x 1 14 0) [] ((statement.Evaluate (phrase.Choose (phrase.Number (at 1 23) (pos 1) numeric.Int) (phrase.Call (x 1 27 1) []) (phrase.Number (at 1
        33) (pos 1) numeric.Int))) ∷ []) ∷ []);
  },
  Some (fault_at 1 33 kind.Mismatch),
)

abbrev pub rows : List Row
rows = text0 ∷ text1 ∷ text2 ∷ text3 ∷ text4 ∷ text5 ∷ text6 ∷ text7 ∷ text8 ∷ text9 ∷ text10 ∷ text11 ∷ []
