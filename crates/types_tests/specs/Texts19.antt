-- 14 Mismatch
use Rattle.std.specs.Prelude.{pos, List, [], ◌∷◌, Some, None}
use Rattle.cc_base.specs.declared.numbers.Comparison.TheVariants as comparison
use Rattle.cc_base.specs.declared.numbers.NumberType.TheVariants as numeric
use Rattle.cc_base.specs.declared.numbers.Operator.TheVariants as operator
use Rattle.cc_faults.specs.declared.fault.TypeKind.TheVariants as kind
use Rattle.cc_faults.specs.declared.plain.Choice.TheVariants as choice
use Rattle.cc_faults.specs.declared.plain.ClauseWord.TheVariants as clause_word
use Rattle.cc_faults.specs.declared.plain.Item.TheVariants as item
use Rattle.cc_faults.specs.declared.plain.Length.TheVariants as some_length
use Rattle.cc_faults.specs.declared.plain.LocalForm.TheVariants as form
use Rattle.cc_faults.specs.declared.plain.Phrase.TheVariants as phrase
use Rattle.cc_faults.specs.declared.plain.Statement.TheVariants as statement
use Rattle.cc_faults.specs.declared.plain.TypeName.TheVariants as type_name
use Rattle.types_tests.specs.Seen.{Row, at, fault_at, x}

-- main() { int a[2]; a = 5; }
abbrev text0 : Row
text0 = (
  record {
    names = 2;
    formats = [];
    items = (item.Function (type_name.Number numeric.Int) (x 1 1 0) [] ((statement.Declare (record {
      of =
          (type_name.Number numeric.Int);
      name = (x 1 14 1);
      form = form.Array (some_length.Number (at 1 16) (pos 2));
    })) ∷ (statement.Evaluate
        (phrase.Assign (phrase.Name (x 1 20 1)) (phrase.Number (at 1 24) (pos 5) numeric.Int))) ∷ []) ∷ []);
  },
  Some (fault_at 1 20 kind.Mismatch),
)

-- main() { int a[2]; a += 5; }
abbrev text1 : Row
text1 = (
  record {
    names = 2;
    formats = [];
    items = (item.Function (type_name.Number numeric.Int) (x 1 1 0) [] ((statement.Declare (record {
      of =
          (type_name.Number numeric.Int);
      name = (x 1 14 1);
      form = form.Array (some_length.Number (at 1 16) (pos 2));
    })) ∷ (statement.Evaluate
        (phrase.Update (phrase.Name (x 1 20 1)) operator.Add (phrase.Number (at 1 25) (pos 5) numeric.Int))) ∷ []) ∷ []);
  },
  Some (fault_at 1 20
      kind.Mismatch),
)

-- void g() { } main() { int x; x = g(); }
abbrev text2 : Row
text2 = (
  record {
    names = 3;
    formats = [];
    items = (item.Function (type_name.Void (at 1 1)) (x 1 6 1) [] [] ∷ item.Function (type_name.Number numeric.Int)
        (x 1 14 0) [] ((statement.Declare (record { of = (type_name.Number numeric.Int); name = (x 1 27 2); form = form.Plain })) ∷ (statement.Evaluate
        (phrase.Assign (phrase.Name (x 1 30 2)) (phrase.Call (x 1 34 1) []))) ∷ []) ∷ []);
  },
  Some (fault_at 1 34 kind.Mismatch),
)

-- f(int x) { } main() { int a[2]; f(a); }
abbrev text3 : Row
text3 = (
  record {
    names = 4;
    formats = [];
    items = (item.Function (type_name.Number numeric.Int) (x 1 1 1) (record {
      of = (type_name.Number numeric.Int);
      name = (x 1 7 2);
    } ∷ []) [] ∷ item.Function (type_name.Number numeric.Int) (x 1 14 0) [] ((statement.Declare (record {
      of = (type_name.Number
          numeric.Int);
      name = (x 1 27 3);
      form = form.Array (some_length.Number (at 1 29) (pos 2));
    })) ∷ (statement.Evaluate (phrase.Call (x 1 33 1)
        ((phrase.Name (x 1 35 3)) ∷ []))) ∷ []) ∷ []);
  },
  Some (fault_at 1 35 kind.Mismatch),
)

-- process spec p() { trans int t(); }; process body p() { select { (create p()): terminate; } } main() { }
abbrev text4 : Row
text4 = (
  record {
    names = 3;
    formats = [];
    items = (item.Specification (x 1 14 1) [] (record {
      result = (Some (type_name.Number numeric.Int));
      name = (x 1
          30 2);
      parameters = [];
    } ∷ []) ∷ item.Body (x 1 51 1) [] ((statement.Select (at 1 57) (record {
      guard = (Some (phrase.Create (at 1 67) (x 1 74 1)
          []));
      choice = choice.Terminate;
      entries = [];
    } ∷ [])) ∷ []) ∷ item.Function (type_name.Number numeric.Int) (x 1 95 0) [] [] ∷ []);
  },
  Some
      (fault_at 1 67 kind.Mismatch),
)

-- process spec p() { trans async t(struct s x); }; process body p() { } struct s { int a; }; main() { }
abbrev text5 : Row
text5 = (
  record {
    names = 5;
    formats = [];
    items = (item.Specification (x 1 14 1) [] (record {
      result = None;
      name = (x 1 32 2);
      parameters =
          ((type_name.Structure (x 1 41 3)) ∷ []);
    } ∷ []) ∷ item.Body (x 1 63 1) [] [] ∷ item.Structure (x 1 78 3) (record {
      of = (type_name.Number
          numeric.Int);
      name = (x 1 86 4);
      length = None;
    } ∷ []) ∷ item.Function (type_name.Number numeric.Int) (x 1 92 0) [] [] ∷ []);
  },
  Some (fault_at 1
      41 kind.UnknownType),
)

-- process spec p() { trans void t(process p q); }; process body p() { accept t(q) suchthat (q) { } } main() { }
abbrev text6 : Row
text6 = (
  record {
    names = 4;
    formats = [];
    items = (item.Specification (x 1 14 1) [] (record {
      result = (Some (type_name.Void (at 1 26)));
      name = (x 1 31
          2);
      parameters = ((type_name.Process (x 1 41 1)) ∷ []);
    } ∷ []) ∷ item.Body (x 1 63 1) [] ((statement.Accept (record {
      head = record {
        place = (at
            1 69);
        name = (x 1 76 2);
        names = ((x 1 78 3) ∷ []);
        clauses = (record { word = clause_word.SuchThat; expression = (phrase.Name (x 1 91 3)) } ∷
            []);
      };
      block = [];
    })) ∷ []) ∷ item.Function (type_name.Number numeric.Int) (x 1 100 0) [] [] ∷ []);
  },
  Some (fault_at 1 91 kind.Mismatch),
)

-- process spec p() { trans void t(process p q); }; process body p() { accept t(q) by (q); } main() { }
abbrev text7 : Row
text7 = (
  record {
    names = 4;
    formats = [];
    items = (item.Specification (x 1 14 1) [] (record {
      result = (Some (type_name.Void (at 1 26)));
      name = (x 1 31
          2);
      parameters = ((type_name.Process (x 1 41 1)) ∷ []);
    } ∷ []) ∷ item.Body (x 1 63 1) [] ((statement.Accept (record {
      head = record {
        place = (at
            1 69);
        name = (x 1 76 2);
        names = ((x 1 78 3) ∷ []);
        clauses = (record { word = clause_word.By; expression = (phrase.Name (x 1 85 3)) } ∷ []);
      };
      block = [];
    })) ∷ []) ∷ item.Function (type_name.Number numeric.Int) (x 1 91 0) [] [] ∷ []);
  },
  Some (fault_at 1 85 kind.Mismatch),
)

-- struct s { int a; }; main() { struct s x; !x; }
abbrev text8 : Row
text8 = (
  record {
    names = 4;
    formats = [];
    items = (item.Structure (x 1 8 1) (record {
      of = (type_name.Number numeric.Int);
      name = (x 1 16 2);
      length =
          None;
    } ∷ []) ∷ item.Function (type_name.Number numeric.Int) (x 1 22 0) [] ((statement.Declare (record {
      of = (type_name.Structure (x 1 38 1));
      name = (x 1 40 3);
      form = form.Plain;
    })) ∷ (statement.Evaluate (phrase.Not (at 1 43) (phrase.Name (x 1 44 3)))) ∷ []) ∷ []);
  },
  Some (fault_at 1 44
      kind.Mismatch),
)

-- struct s { int a; }; main() { struct s x; 1 && x; }
abbrev text9 : Row
text9 = (
  record {
    names = 4;
    formats = [];
    items = (item.Structure (x 1 8 1) (record {
      of = (type_name.Number numeric.Int);
      name = (x 1 16 2);
      length =
          None;
    } ∷ []) ∷ item.Function (type_name.Number numeric.Int) (x 1 22 0) [] ((statement.Declare (record {
      of = (type_name.Structure (x 1 38 1));
      name = (x 1 40 3);
      form = form.Plain;
    })) ∷ (statement.Evaluate (phrase.Both (phrase.Number (at 1 43) (pos 1) numeric.Int) ((phrase.Name (x 1 48
        3)) ∷ []))) ∷ []) ∷ []);
  },
  Some (fault_at 1 48 kind.Mismatch),
)

-- struct s { int a; }; main() { struct s x; x || 1; }
abbrev text10 : Row
text10 = (
  record {
    names = 4;
    formats = [];
    items = (item.Structure (x 1 8 1) (record {
      of = (type_name.Number numeric.Int);
      name = (x 1 16 2);
      length =
          None;
    } ∷ []) ∷ item.Function (type_name.Number numeric.Int) (x 1 22 0) [] ((statement.Declare (record {
      of = (type_name.Structure (x 1 38 1));
      name = (x 1 40 3);
      form = form.Plain;
    })) ∷ (statement.Evaluate (phrase.Either (phrase.Name (x 1 43 3)) ((phrase.Number (at 1 48) (pos 1)
        numeric.Int) ∷ []))) ∷ []) ∷ []);
  },
  Some (fault_at 1 43 kind.Mismatch),
)

-- struct s { int a; }; main() { struct s x; x == x; }
abbrev text11 : Row
text11 = (
  record {
    names = 4;
    formats = [];
    items = (item.Structure (x 1 8 1) (record {
      of = (type_name.Number numeric.Int);
      name = (x 1 16 2);
      length =
          None;
    } ∷ []) ∷ item.Function (type_name.Number numeric.Int) (x 1 22 0) [] ((statement.Declare (record {
      of = (type_name.Structure (x 1 38 1));
      name = (x 1 40 3);
      form = form.Plain;
    })) ∷ (statement.Evaluate (phrase.Compare (phrase.Name (x 1 43 3)) (record {
      comparison = comparison.Equal;
      operand = (phrase.Name (x 1 48 3));
    } ∷ []))) ∷ []) ∷ []);
  },
  Some (fault_at 1 43 kind.Mismatch),
)

abbrev pub rows : List Row
rows = text0 ∷ text1 ∷ text2 ∷ text3 ∷ text4 ∷ text5 ∷ text6 ∷ text7 ∷ text8 ∷ text9 ∷ text10 ∷ text11 ∷ []
