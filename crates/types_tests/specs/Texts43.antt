-- what is known beside a fault in a declaration
use Rattle.std.specs.Prelude.{pos, List, [], ◌∷◌, Some, None}
use Rattle.cc_base.specs.declared.numbers.NumberType.TheVariants as numeric
use Rattle.cc_base.specs.declared.numbers.Operator.TheVariants as operator
use Rattle.cc_faults.specs.declared.fault.TypeKind.TheVariants as kind
use Rattle.cc_faults.specs.declared.plain.Item.TheVariants as item
use Rattle.cc_faults.specs.declared.plain.Length.TheVariants as some_length
use Rattle.cc_faults.specs.declared.plain.LocalForm.TheVariants as form
use Rattle.cc_faults.specs.declared.plain.Phrase.TheVariants as phrase
use Rattle.cc_faults.specs.declared.plain.Statement.TheVariants as statement
use Rattle.cc_faults.specs.declared.plain.TypeName.TheVariants as type_name
use Rattle.types_tests.specs.Seen.{Row, at, fault_at, x}

-- main() { process p x; x + 1; } process spec p(void a); process body p(a) { }
abbrev text0 : Row
text0 = (
  record {
    names = 4;
    formats = [];
    items = (item.Function (type_name.Number numeric.Int) (x 1 1 0) [] ((statement.Declare (record {
      of =
          (type_name.Process (x 1 18 1));
      name = (x 1 20 2);
      form = form.Plain;
    })) ∷ (statement.Evaluate (phrase.Arithmetic (phrase.Name (x 1 23 2)) (record
        { operator = operator.Add; operand = (phrase.Number (at 1 27) (pos 1) numeric.Int) } ∷ []))) ∷ []) ∷ item.Specification (x 1 45 1)
        ((type_name.Void (at 1 47)) ∷ []) [] ∷ item.Body (x 1 69 1) ((x 1 71 3) ∷ []) [] ∷ []);
  },
  Some (fault_at 1 23 kind.Mismatch),
)

-- main() { process p x; int v = x; } process spec p(void a); process body p(a) { }
abbrev text1 : Row
text1 = (
  record {
    names = 5;
    formats = [];
    items = (item.Function (type_name.Number numeric.Int) (x 1 1 0) [] ((statement.Declare (record {
      of =
          (type_name.Process (x 1 18 1));
      name = (x 1 20 2);
      form = form.Plain;
    })) ∷ (statement.Declare (record {
      of = (type_name.Number numeric.Int);
      name
          = (x 1 27 3);
      form = form.Value (phrase.Name (x 1 31 2));
    })) ∷ []) ∷ item.Specification (x 1 49 1) ((type_name.Void (at 1 51)) ∷ []) [] ∷
        item.Body (x 1 73 1) ((x 1 75 4) ∷ []) [] ∷ []);
  },
  Some (fault_at 1 31 kind.Mismatch),
)

-- main() { int v = create p(); } process spec p(void a); process body p(a) { }
abbrev text2 : Row
text2 = (
  record {
    names = 4;
    formats = [];
    items = (item.Function (type_name.Number numeric.Int) (x 1 1 0) [] ((statement.Declare (record {
      of =
          (type_name.Number numeric.Int);
      name = (x 1 14 1);
      form = form.Value (phrase.Create (at 1 18) (x 1 25 2) []);
    })) ∷ []) ∷ item.Specification (x 1
        45 2) ((type_name.Void (at 1 47)) ∷ []) [] ∷ item.Body (x 1 69 2) ((x 1 71 3) ∷ []) [] ∷ []);
  },
  Some (fault_at 1 47 kind.VoidHere),
)

-- process body p() { accept t(x) { treturn 1; } } process spec p() { trans async t(void a); }; main() { }
abbrev text3 : Row
text3 = (
  record {
    names = 4;
    formats = [];
    items = (item.Body (x 1 14 1) [] ((statement.Accept (record {
      head = record {
        place = (at 1 20);
        name = (x 1 27
            2);
        names = ((x 1 29 3) ∷ []);
        clauses = [];
      };
      block = ((statement.TransactionReturn (at 1 34) (Some (phrase.Number (at 1 42) (pos 1)
          numeric.Int))) ∷ []);
    })) ∷ []) ∷ item.Specification (x 1 62 1) [] (record {
      result = None;
      name = (x 1 80 2);
      parameters = ((type_name.Void (at 1
          82)) ∷ []);
    } ∷ []) ∷ item.Function (type_name.Number numeric.Int) (x 1 94 0) [] [] ∷ []);
  },
  Some (fault_at 1 34 kind.ValueHere),
)

-- process body p() { accept t(x) { treturn 1; } } process spec p() { trans void t(void a); }; main() { }
abbrev text4 : Row
text4 = (
  record {
    names = 4;
    formats = [];
    items = (item.Body (x 1 14 1) [] ((statement.Accept (record {
      head = record {
        place = (at 1 20);
        name = (x 1 27
            2);
        names = ((x 1 29 3) ∷ []);
        clauses = [];
      };
      block = ((statement.TransactionReturn (at 1 34) (Some (phrase.Number (at 1 42) (pos 1)
          numeric.Int))) ∷ []);
    })) ∷ []) ∷ item.Specification (x 1 62 1) [] (record {
      result = (Some (type_name.Void (at 1 74)));
      name = (x 1 79 2);
      parameters = ((type_name.Void (at 1 81)) ∷ []);
    } ∷ []) ∷ item.Function (type_name.Number numeric.Int) (x 1 93 0) [] [] ∷ []);
  },
  Some (fault_at 1
      81 kind.VoidHere),
)

-- main() { f(1); } f(int x, int x) { }
abbrev text5 : Row
text5 = (
  record {
    names = 3;
    formats = [];
    items = (item.Function (type_name.Number numeric.Int) (x 1 1 0) [] ((statement.Evaluate (phrase.Call (x 1 10 1)
        ((phrase.Number (at 1 12) (pos 1) numeric.Int) ∷ []))) ∷ []) ∷ item.Function (type_name.Number numeric.Int) (x 1 18 1) (record {
          of =
              (type_name.Number numeric.Int);
          name = (x 1 24 2);
        } ∷ record { of = (type_name.Number numeric.Int); name = (x 1 31 2) } ∷ []) [] ∷ []);
  },
  Some
      (fault_at 1 10 kind.Arity),
)

-- struct s { int a[65536]; int a; int b; }; main() { }
abbrev text6 : Row
text6 = (
  record {
    names = 4;
    formats = [];
    items = (item.Structure (x 1 8 1) (record {
      of = (type_name.Number numeric.Int);
      name = (x 1 16 2);
      length =
          (Some (some_length.Number (at 1 18) (pos 65536)));
    } ∷ record { of = (type_name.Number numeric.Int); name = (x 1 30 2); length = None } ∷ record {
      of = (type_name.Number numeric.Int);
      name = (x 1 37 3);
      length = None;
    } ∷ []) ∷ item.Function (type_name.Number numeric.Int) (x 1 43 0) [] [] ∷
        []);
  },
  Some (fault_at 1 30 kind.Duplicate),
)

-- struct s { int a[200]; }; f(struct s x, struct s x) { } main() { }
abbrev text7 : Row
text7 = (
  record {
    names = 5;
    formats = [];
    items = (item.Structure (x 1 8 1) (record {
      of = (type_name.Number numeric.Int);
      name = (x 1 16 2);
      length =
          (Some (some_length.Number (at 1 18) (pos 200)));
    } ∷ []) ∷ item.Function (type_name.Number numeric.Int) (x 1 27 3) (record {
      of =
          (type_name.Structure (x 1 36 1));
      name = (x 1 38 4);
    } ∷ record { of = (type_name.Structure (x 1 48 1)); name = (x 1 50 4) } ∷ []) [] ∷
        item.Function (type_name.Number numeric.Int) (x 1 57 0) [] [] ∷ []);
  },
  Some (fault_at 1 27 kind.ManyCells),
)

-- process body p(x) { } process spec p(); process spec p(int a); main() { }
abbrev text8 : Row
text8 = (
  record {
    names = 3;
    formats = [];
    items = (item.Body (x 1 14 1) ((x 1 16 2) ∷ []) [] ∷ item.Specification (x 1 36 1) [] [] ∷ item.Specification
        (x 1 54 1) ((type_name.Number numeric.Int) ∷ []) [] ∷ item.Function (type_name.Number numeric.Int) (x 1 64 0) [] [] ∷ []);
  },
  Some (fault_at 1 14
      kind.BodyNames),
)

-- process spec p(int a); process spec p(); process body p(x) { } main() { }
abbrev text9 : Row
text9 = (
  record {
    names = 3;
    formats = [];
    items = (item.Specification (x 1 14 1) ((type_name.Number numeric.Int) ∷ []) [] ∷ item.Specification (x 1 37 1)
        [] [] ∷ item.Body (x 1 55 1) ((x 1 57 2) ∷ []) [] ∷ item.Function (type_name.Number numeric.Int) (x 1 64 0) [] [] ∷ []);
  },
  Some (fault_at 1 37
      kind.Duplicate),
)

abbrev pub rows : List Row
rows = text0 ∷ text1 ∷ text2 ∷ text3 ∷ text4 ∷ text5 ∷ text6 ∷ text7 ∷ text8 ∷ text9 ∷ []
