-- 14 Mismatch
use Rattle.std.specs.Prelude.{pos, List, [], ◌∷◌, Some, None}
use Rattle.cc_base.specs.declared.numbers.NumberType.TheVariants as numeric
use Rattle.cc_faults.specs.declared.fault.TypeKind.TheVariants as kind
use Rattle.cc_faults.specs.declared.plain.Item.TheVariants as item
use Rattle.cc_faults.specs.declared.plain.Length.TheVariants as some_length
use Rattle.cc_faults.specs.declared.plain.LocalForm.TheVariants as form
use Rattle.cc_faults.specs.declared.plain.Phrase.TheVariants as phrase
use Rattle.cc_faults.specs.declared.plain.Statement.TheVariants as statement
use Rattle.cc_faults.specs.declared.plain.Step.TheVariants as step
use Rattle.cc_faults.specs.declared.plain.TypeName.TheVariants as type_name
use Rattle.types_tests.specs.Seen.{Row, at, fault_at, x}

-- struct s { int a; }; f(struct s x) { } main() { f(1); }
abbrev text0 : Row
text0 = (
  record {
    names = 5;
    formats = [];
    items = (item.Structure (x 1 8 1) (record {
      of = (type_name.Number numeric.Int);
      name = (x 1 16 2);
      length =
          None;
    } ∷ []) ∷ item.Function (type_name.Number numeric.Int) (x 1 22 3) (record { of = (type_name.Structure (x 1 31 1)); name = (x 1 33 4) } ∷ [])
        [] ∷ item.Function (type_name.Number numeric.Int) (x 1 40 0) [] ((statement.Evaluate (phrase.Call (x 1 49 3) ((phrase.Number (at 1 51) (pos 1)
        numeric.Int) ∷ []))) ∷ []) ∷ []);
  },
  Some (fault_at 1 51 kind.Mismatch),
)

-- struct s { int a; }; main() { struct s x = 0; }
abbrev text1 : Row
text1 = (
  record {
    names = 4;
    formats = [];
    items = (item.Structure (x 1 8 1) (record {
      of = (type_name.Number numeric.Int);
      name = (x 1 16 2);
      length =
          None;
    } ∷ []) ∷ item.Function (type_name.Number numeric.Int) (x 1 22 0) [] ((statement.Declare (record {
      of = (type_name.Structure (x 1 38 1));
      name = (x 1 40 3);
      form = form.Value (phrase.Number (at 1 44) (pos 0) numeric.Int);
    })) ∷ []) ∷ []);
  },
  Some (fault_at 1 44 kind.Mismatch),
)

-- struct s { int a; }; struct s f() { return 1; } main() { }
abbrev text2 : Row
text2 = (
  record {
    names = 4;
    formats = [];
    items = (item.Structure (x 1 8 1) (record {
      of = (type_name.Number numeric.Int);
      name = (x 1 16 2);
      length =
          None;
    } ∷ []) ∷ item.Function (type_name.Structure (x 1 29 1)) (x 1 31 3) [] ((statement.Return (at 1 37) (Some (phrase.Number (at 1 44) (pos 1)
        numeric.Int))) ∷ []) ∷ item.Function (type_name.Number numeric.Int) (x 1 49 0) [] [] ∷ []);
  },
  Some (fault_at 1 44 kind.Mismatch),
)

-- process spec p(); process body p() { } process spec q(); process body q() { } main() { process p x; x = create q(); }
abbrev text3 : Row
text3 = (
  record {
    names = 4;
    formats = [];
    items = (item.Specification (x 1 14 1) [] [] ∷ item.Body (x 1 32 1) [] [] ∷ item.Specification (x 1 53 2) [] []
        ∷ item.Body (x 1 71 2) [] [] ∷ item.Function (type_name.Number numeric.Int) (x 1 79 0) [] ((statement.Declare (record {
          of = (type_name.Process (x
              1 96 1));
          name = (x 1 98 3);
          form = form.Plain;
        })) ∷ (statement.Evaluate (phrase.Assign (phrase.Name (x 1 101 3)) (phrase.Create (at 1 105) (x 1
        112 2) []))) ∷ []) ∷ []);
  },
  Some (fault_at 1 105 kind.Mismatch),
)

-- process spec p() { trans int t(); }; process body p() { accept t() { treturn create p(); } } main() { }
abbrev text4 : Row
text4 = (
  record {
    names = 3;
    formats = [];
    items = (item.Specification (x 1 14 1) [] (record {
      result = (Some (type_name.Number numeric.Int));
      name = (x 1
          30 2);
      parameters = [];
    } ∷ []) ∷ item.Body (x 1 51 1) [] ((statement.Accept (record {
      head = record {
        place = (at 1 57);
        name = (x 1 64 2);
        names
            = [];
        clauses = [];
      };
      block = ((statement.TransactionReturn (at 1 70) (Some (phrase.Create (at 1 78) (x 1 85 1) []))) ∷ []);
    })) ∷ []) ∷
        item.Function (type_name.Number numeric.Int) (x 1 94 0) [] [] ∷ []);
  },
  Some (fault_at 1 78 kind.Mismatch),
)

-- main() { int x; x.a; }
abbrev text5 : Row
text5 = (
  record {
    names = 3;
    formats = [];
    items = (item.Function (type_name.Number numeric.Int) (x 1 1 0) [] ((statement.Declare (record {
      of =
          (type_name.Number numeric.Int);
      name = (x 1 14 1);
      form = form.Plain;
    })) ∷ (statement.Evaluate (phrase.Chain (phrase.Name (x 1 17 1)) (step.Field
        (x 1 19 2) ∷ []))) ∷ []) ∷ []);
  },
  Some (fault_at 1 17 kind.Mismatch),
)

-- main() { int x; x[0]; }
abbrev text6 : Row
text6 = (
  record {
    names = 2;
    formats = [];
    items = (item.Function (type_name.Number numeric.Int) (x 1 1 0) [] ((statement.Declare (record {
      of =
          (type_name.Number numeric.Int);
      name = (x 1 14 1);
      form = form.Plain;
    })) ∷ (statement.Evaluate (phrase.Chain (phrase.Name (x 1 17 1)) (step.Index
        (phrase.Number (at 1 19) (pos 0) numeric.Int) ∷ []))) ∷ []) ∷ []);
  },
  Some (fault_at 1 17 kind.Mismatch),
)

-- main() { int x; x.t(); }
abbrev text7 : Row
text7 = (
  record {
    names = 3;
    formats = [];
    items = (item.Function (type_name.Number numeric.Int) (x 1 1 0) [] ((statement.Declare (record {
      of =
          (type_name.Number numeric.Int);
      name = (x 1 14 1);
      form = form.Plain;
    })) ∷ (statement.Evaluate (phrase.Chain (phrase.Name (x 1 17 1)) (step.Call
        (x 1 19 2) [] ∷ []))) ∷ []) ∷ []);
  },
  Some (fault_at 1 17 kind.Mismatch),
)

-- struct s { int t; }; main() { struct s x; x.t(1); }
abbrev text8 : Row
text8 = (
  record {
    names = 4;
    formats = [];
    items = (item.Structure (x 1 8 1) (record {
      of = (type_name.Number numeric.Int);
      name = (x 1 16 2);
      length =
          None;
    } ∷ []) ∷ item.Function (type_name.Number numeric.Int) (x 1 22 0) [] ((statement.Declare (record {
      of = (type_name.Structure (x 1 38 1));
      name = (x 1 40 3);
      form = form.Plain;
    })) ∷ (statement.Evaluate (phrase.Chain (phrase.Name (x 1 43 3)) (step.Call (x 1 45 2) ((phrase.Number (at 1
        47) (pos 1) numeric.Int) ∷ []) ∷ []))) ∷ []) ∷ []);
  },
  Some (fault_at 1 43 kind.Mismatch),
)

-- process spec p() { trans int t(); }; process body p() { } main() { process p x; x.t; }
abbrev text9 : Row
text9 = (
  record {
    names = 4;
    formats = [];
    items = (item.Specification (x 1 14 1) [] (record {
      result = (Some (type_name.Number numeric.Int));
      name = (x 1
          30 2);
      parameters = [];
    } ∷ []) ∷ item.Body (x 1 51 1) [] [] ∷ item.Function (type_name.Number numeric.Int) (x 1 59 0) [] ((statement.Declare
        (record { of = (type_name.Process (x 1 76 1)); name = (x 1 78 3); form = form.Plain })) ∷ (statement.Evaluate (phrase.Chain (phrase.Name (x 1 81
        3)) (step.Field (x 1 83 2) ∷ []))) ∷ []) ∷ []);
  },
  Some (fault_at 1 81 kind.Mismatch),
)

-- main() { int a[2]; int b = a; }
abbrev text10 : Row
text10 = (
  record {
    names = 3;
    formats = [];
    items = (item.Function (type_name.Number numeric.Int) (x 1 1 0) [] ((statement.Declare (record {
      of =
          (type_name.Number numeric.Int);
      name = (x 1 14 1);
      form = form.Array (some_length.Number (at 1 16) (pos 2));
    })) ∷ (statement.Declare (record {
      of
          = (type_name.Number numeric.Int);
      name = (x 1 24 2);
      form = form.Value (phrase.Name (x 1 28 1));
    })) ∷ []) ∷ []);
  },
  Some (fault_at 1 28
      kind.Mismatch),
)

-- main() { int a[2]; int b[2]; a = b; }
abbrev text11 : Row
text11 = (
  record {
    names = 3;
    formats = [];
    items = (item.Function (type_name.Number numeric.Int) (x 1 1 0) [] ((statement.Declare (record {
      of =
          (type_name.Number numeric.Int);
      name = (x 1 14 1);
      form = form.Array (some_length.Number (at 1 16) (pos 2));
    })) ∷ (statement.Declare (record {
      of
          = (type_name.Number numeric.Int);
      name = (x 1 24 2);
      form = form.Array (some_length.Number (at 1 26) (pos 2));
    })) ∷ (statement.Evaluate
        (phrase.Assign (phrase.Name (x 1 30 1)) (phrase.Name (x 1 34 2)))) ∷ []) ∷ []);
  },
  Some (fault_at 1 30 kind.Mismatch),
)

abbrev pub rows : List Row
rows = text0 ∷ text1 ∷ text2 ∷ text3 ∷ text4 ∷ text5 ∷ text6 ∷ text7 ∷ text8 ∷ text9 ∷ text10 ∷ text11 ∷ []
