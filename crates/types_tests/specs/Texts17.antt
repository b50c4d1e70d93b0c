-- 14 Mismatch
use Rattle.std.specs.Prelude.{pos, List, [], ◌∷◌, Some, None}
use Rattle.cc_base.specs.declared.numbers.NumberType.TheVariants as numeric
use Rattle.cc_base.specs.declared.numbers.Operator.TheVariants as operator
use Rattle.cc_faults.specs.declared.fault.TypeKind.TheVariants as kind
use Rattle.cc_faults.specs.declared.plain.Item.TheVariants as item
use Rattle.cc_faults.specs.declared.plain.Length.TheVariants as some_length
use Rattle.cc_faults.specs.declared.plain.LocalForm.TheVariants as form
use Rattle.cc_faults.specs.declared.plain.Phrase.TheVariants as phrase
use Rattle.cc_faults.specs.declared.plain.Statement.TheVariants as statement
use Rattle.cc_faults.specs.declared.plain.Step.TheVariants as step
use Rattle.cc_faults.specs.declared.plain.TypeName.TheVariants as type_name
use Rattle.types_tests.specs.Seen.{Row, at, fault_at, x}

-- struct s { int a; }; main() { struct s x; x + 1; }
abbrev text0 : Row
text0 = (
  record {
    names = 4;
    formats = [];
    items = (item.Structure (x 1 8 1) (record {
      of = (type_name.Number numeric.Int);
      name = (x 1 16 2);
      length =
          None;
    } ∷ []) ∷ item.Function (type_name.Number numeric.Int) (x 1 22 0) [] ((statement.Declare (record {
      of = (type_name.Structure (x 1 38 1));
      name = (x 1 40 3);
      form = form.Plain;
    })) ∷ (statement.Evaluate (phrase.Arithmetic (phrase.Name (x 1 43 3)) (record {
      operator = operator.Add;
      operand = (phrase.Number (at 1 47) (pos 1) numeric.Int);
    } ∷ []))) ∷ []) ∷ []);
  },
  Some (fault_at 1 43 kind.Mismatch),
)

-- main() { process p x; 1 - x; } process spec p(); process body p() { }
abbrev text1 : Row
text1 = (
  record {
    names = 3;
    formats = [];
    items = (item.Function (type_name.Number numeric.Int) (x 1 1 0) [] ((statement.Declare (record {
      of =
          (type_name.Process (x 1 18 1));
      name = (x 1 20 2);
      form = form.Plain;
    })) ∷ (statement.Evaluate (phrase.Arithmetic (phrase.Number (at 1 23) (pos 1)
        numeric.Int) (record { operator = operator.Subtract; operand = (phrase.Name (x 1 27 2)) } ∷ []))) ∷ []) ∷ item.Specification (x 1 45 1) [] [] ∷
        item.Body (x 1 63 1) [] [] ∷ []);
  },
  Some (fault_at 1 27 kind.Mismatch),
)

-- f() { } void g() { } main() { if (g()) f(); }
abbrev text2 : Row
text2 = (
  record {
    names = 3;
    formats = [];
    items = (item.Function (type_name.Number numeric.Int) (x 1 1 1) [] [] ∷ item.Function (type_name.Void (at 1 9))
        (x 1 14 2) [] [] ∷ item.Function (type_name.Number numeric.Int) (x 1 22 0) [] ((statement.If (phrase.Call (x 1 35 2) []) (statement.Evaluate
        (phrase.Call (x 1 40 1) []))) ∷ []) ∷ []);
  },
  Some (fault_at 1 35 kind.Mismatch),
)

-- struct s { int a; }; main() { struct s x; while (x) ; }
abbrev text3 : Row
text3 = (
  record {
    names = 4;
    formats = [];
    items = (item.Structure (x 1 8 1) (record {
      of = (type_name.Number numeric.Int);
      name = (x 1 16 2);
      length =
          None;
    } ∷ []) ∷ item.Function (type_name.Number numeric.Int) (x 1 22 0) [] ((statement.Declare (record {
      of = (type_name.Structure (x 1 38 1));
      name = (x 1 40 3);
      form = form.Plain;
    })) ∷ (statement.While (phrase.Name (x 1 50 3)) statement.Empty) ∷ []) ∷ []);
  },
  Some (fault_at 1 50
      kind.Mismatch),
)

-- struct s { int a; }; main() { struct s x; do ; while (x); }
abbrev text4 : Row
text4 = (
  record {
    names = 4;
    formats = [];
    items = (item.Structure (x 1 8 1) (record {
      of = (type_name.Number numeric.Int);
      name = (x 1 16 2);
      length =
          None;
    } ∷ []) ∷ item.Function (type_name.Number numeric.Int) (x 1 22 0) [] ((statement.Declare (record {
      of = (type_name.Structure (x 1 38 1));
      name = (x 1 40 3);
      form = form.Plain;
    })) ∷ (statement.DoWhile statement.Empty (phrase.Name (x 1 55 3))) ∷ []) ∷ []);
  },
  Some (fault_at 1 55
      kind.Mismatch),
)

-- struct s { int a; }; main() { struct s x; for (x; x; x) ; }
abbrev text5 : Row
text5 = (
  record {
    names = 4;
    formats = [];
    items = (item.Structure (x 1 8 1) (record {
      of = (type_name.Number numeric.Int);
      name = (x 1 16 2);
      length =
          None;
    } ∷ []) ∷ item.Function (type_name.Number numeric.Int) (x 1 22 0) [] ((statement.Declare (record {
      of = (type_name.Structure (x 1 38 1));
      name = (x 1 40 3);
      form = form.Plain;
    })) ∷ (statement.For (Some (phrase.Name (x 1 48 3))) (Some (phrase.Name (x 1 51 3))) (Some (phrase.Name (x 1
        54 3))) statement.Empty) ∷ []) ∷ []);
  },
  Some (fault_at 1 51 kind.Mismatch),
)

-- void g() { } struct s { int a; }; main() { int a[2]; struct s x; for (a; ; g()) ; x; a; g(); }
abbrev text6 : Row
text6 = (
  record {
    names = 5;
    formats = [];
    items = (item.Function (type_name.Void (at 1 1)) (x 1 6 1) [] [] ∷ item.Structure (x 1 21 2) (record {
      of =
          (type_name.Number numeric.Int);
      name = (x 1 29 3);
      length = None;
    } ∷ []) ∷ item.Function (type_name.Number numeric.Int) (x 1 35 0) []
        ((statement.Declare (record { of = (type_name.Number numeric.Int); name = (x 1 48 3); form = form.Array (some_length.Number (at 1 50) (pos 2)) }))
        ∷ (statement.Declare (record { of = (type_name.Structure (x 1 61 2)); name = (x 1 63 4); form = form.Plain })) ∷ (statement.For (Some (phrase.Name
        (x 1 71 3))) None (Some (phrase.Call (x 1 76 1) [])) statement.Empty) ∷ (statement.Evaluate (phrase.Name (x 1 83 4))) ∷ (statement.Evaluate
        (phrase.Name (x 1 86 3))) ∷ (statement.Evaluate (phrase.Call (x 1 89 1) [])) ∷ []) ∷ []);
  },
  None,
)

-- struct s { int a; }; main() { struct s x; delay x; }
abbrev text7 : Row
text7 = (
  record {
    names = 4;
    formats = [];
    items = (item.Structure (x 1 8 1) (record {
      of = (type_name.Number numeric.Int);
      name = (x 1 16 2);
      length =
          None;
    } ∷ []) ∷ item.Function (type_name.Number numeric.Int) (x 1 22 0) [] ((statement.Declare (record {
      of = (type_name.Structure (x 1 38 1));
      name = (x 1 40 3);
      form = form.Plain;
    })) ∷ (statement.Delay (phrase.Name (x 1 49 3))) ∷ []) ∷ []);
  },
  Some (fault_at 1 49 kind.Mismatch),
)

-- struct s { int a; }; main() { struct s x; int a[2]; a[x]; }
abbrev text8 : Row
text8 = (
  record {
    names = 4;
    formats = [];
    items = (item.Structure (x 1 8 1) (record {
      of = (type_name.Number numeric.Int);
      name = (x 1 16 2);
      length =
          None;
    } ∷ []) ∷ item.Function (type_name.Number numeric.Int) (x 1 22 0) [] ((statement.Declare (record {
      of = (type_name.Structure (x 1 38 1));
      name = (x 1 40 3);
      form = form.Plain;
    })) ∷ (statement.Declare (record {
      of = (type_name.Number numeric.Int);
      name = (x 1 47 2);
      form = form.Array
          (some_length.Number (at 1 49) (pos 2));
    })) ∷ (statement.Evaluate (phrase.Chain (phrase.Name (x 1 53 2)) (step.Index (phrase.Name (x 1 55 3)) ∷
        []))) ∷ []) ∷ []);
  },
  Some (fault_at 1 55 kind.Mismatch),
)

-- struct s { int a; }; main() { struct s x; putchar(x); }
abbrev text9 : Row
text9 = (
  record {
    names = 4;
    formats = [];
    items = (item.Structure (x 1 8 1) (record {
      of = (type_name.Number numeric.Int);
      name = (x 1 16 2);
      length =
          None;
    } ∷ []) ∷ item.Function (type_name.Number numeric.Int) (x 1 22 0) [] ((statement.Declare (record {
      of = (type_name.Structure (x 1 38 1));
      name = (x 1 40 3);
      form = form.Plain;
    })) ∷ (statement.Evaluate (phrase.PutChar (at 1 43) (phrase.Name (x 1 51 3)))) ∷ []) ∷ []);
  },
  Some (fault_at
      1 51 kind.Mismatch),
)

-- struct s { int a; }; main() { struct s x; printf("%d", x); }
abbrev text10 : Row
text10 = (
  record {
    names = 4;
    formats = ((37 ∷ 100 ∷ []) ∷ []);
    items = (item.Structure (x 1 8 1) (record {
      of = (type_name.Number numeric.Int);
      name = (x
          1 16 2);
      length = None;
    } ∷ []) ∷ item.Function (type_name.Number numeric.Int) (x 1 22 0) [] ((statement.Declare (record {
      of =
          (type_name.Structure (x 1 38 1));
      name = (x 1 40 3);
      form = form.Plain;
    })) ∷ (statement.Evaluate (phrase.PrintFormat (at 1 43) (record {
      place =
          (at 1 50);
      number = 0;
    }) ((phrase.Name (x 1 56 3)) ∷ []))) ∷ []) ∷ []);
  },
  Some (fault_at 1 56 kind.Mismatch),
)

-- struct s { int a; }; struct t { int a; }; main() { struct s x; struct t y; x = y; }
abbrev text11 : Row
text11 = (
  record {
    names = 6;
    formats = [];
    items = (item.Structure (x 1 8 1) (record {
      of = (type_name.Number numeric.Int);
      name = (x 1 16 2);
      length =
          None;
    } ∷ []) ∷ item.Structure (x 1 29 3) (record { of = (type_name.Number numeric.Int); name = (x 1 37 2); length = None } ∷ []) ∷ item.Function
        (type_name.Number numeric.Int) (x 1 43 0) [] ((statement.Declare (record {
          of = (type_name.Structure (x 1 59 1));
          name = (x 1 61 4);
          form =
              form.Plain;
        })) ∷ (statement.Declare (record { of = (type_name.Structure (x 1 71 3)); name = (x 1 73 5); form = form.Plain })) ∷
        (statement.Evaluate (phrase.Assign (phrase.Name (x 1 76 4)) (phrase.Name (x 1 80 5)))) ∷ []) ∷ []);
  },
  Some (fault_at 1 80 kind.Mismatch),
)

abbrev pub rows : List Row
rows = text0 ∷ text1 ∷ text2 ∷ text3 ∷ text4 ∷ text5 ∷ text6 ∷ text7 ∷ text8 ∷ text9 ∷ text10 ∷ text11 ∷ []
