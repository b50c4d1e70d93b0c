-- 4 UnknownType
use Rattle.std.specs.Prelude.{pos, List, [], ◌∷◌, Some, None}
use Rattle.cc_base.specs.declared.numbers.NumberType.TheVariants as numeric
use Rattle.cc_base.specs.declared.numbers.Operator.TheVariants as operator
use Rattle.cc_faults.specs.declared.fault.TypeKind.TheVariants as kind
use Rattle.cc_faults.specs.declared.plain.Item.TheVariants as item
use Rattle.cc_faults.specs.declared.plain.LocalForm.TheVariants as form
use Rattle.cc_faults.specs.declared.plain.Phrase.TheVariants as phrase
use Rattle.cc_faults.specs.declared.plain.Statement.TheVariants as statement
use Rattle.cc_faults.specs.declared.plain.TypeName.TheVariants as type_name
use Rattle.types_tests.specs.Seen.{Row, at, fault_at, x}

-- main() { struct s x; }
abbrev text0 : Row
text0 = (
  record {
    names = 3;
    formats = [];
    items = (item.Function (type_name.Number numeric.Int) (x 1 1 0) [] ((statement.Declare (record {
      of =
          (type_name.Structure (x 1 17 1));
      name = (x 1 19 2);
      form = form.Plain;
    })) ∷ []) ∷ []);
  },
  Some (fault_at 1 17 kind.UnknownType),
)

-- main() { enum e x; }
abbrev text1 : Row
text1 = (
  record {
    names = 3;
    formats = [];
    items = (item.Function (type_name.Number numeric.Int) (x 1 1 0) [] ((statement.Declare (record {
      of =
          (type_name.Enumeration (x 1 15 1));
      name = (x 1 17 2);
      form = form.Plain;
    })) ∷ []) ∷ []);
  },
  Some (fault_at 1 15 kind.UnknownType),
)

-- main() { process p x; }
abbrev text2 : Row
text2 = (
  record {
    names = 3;
    formats = [];
    items = (item.Function (type_name.Number numeric.Int) (x 1 1 0) [] ((statement.Declare (record {
      of =
          (type_name.Process (x 1 18 1));
      name = (x 1 20 2);
      form = form.Plain;
    })) ∷ []) ∷ []);
  },
  Some (fault_at 1 18 kind.UnknownType),
)

-- struct s { struct s a; }; main() { }
abbrev text3 : Row
text3 = (
  record {
    names = 3;
    formats = [];
    items = (item.Structure (x 1 8 1) (record {
      of = (type_name.Structure (x 1 19 1));
      name = (x 1 21 2);
      length =
          None;
    } ∷ []) ∷ item.Function (type_name.Number numeric.Int) (x 1 27 0) [] [] ∷ []);
  },
  Some (fault_at 1 19 kind.UnknownType),
)

-- f(struct s x) { } struct s { int a; }; main() { }
abbrev text4 : Row
text4 = (
  record {
    names = 5;
    formats = [];
    items = (item.Function (type_name.Number numeric.Int) (x 1 1 1) (record {
      of = (type_name.Structure (x 1 10
          2));
      name = (x 1 12 3);
    } ∷ []) [] ∷ item.Structure (x 1 26 2) (record { of = (type_name.Number numeric.Int); name = (x 1 34 4); length = None } ∷
        []) ∷ item.Function (type_name.Number numeric.Int) (x 1 40 0) [] [] ∷ []);
  },
  Some (fault_at 1 10 kind.UnknownType),
)

-- process spec p(enum e x); process body p(x) { } main() { }
abbrev text5 : Row
text5 = (
  record {
    names = 4;
    formats = [];
    items = (item.Specification (x 1 14 1) ((type_name.Enumeration (x 1 21 2)) ∷ []) [] ∷ item.Body (x 1 40 1) ((x
        1 42 3) ∷ []) [] ∷ item.Function (type_name.Number numeric.Int) (x 1 49 0) [] [] ∷ []);
  },
  Some (fault_at 1 21 kind.UnknownType),
)

-- process spec p() { trans struct s t(); }; process body p() { } main() { }
abbrev text6 : Row
text6 = (
  record {
    names = 4;
    formats = [];
    items = (item.Specification (x 1 14 1) [] (record {
      result = (Some (type_name.Structure (x 1 33 2)));
      name = (x
          1 35 3);
      parameters = [];
    } ∷ []) ∷ item.Body (x 1 56 1) [] [] ∷ item.Function (type_name.Number numeric.Int) (x 1 64 0) [] [] ∷ []);
  },
  Some
      (fault_at 1 33 kind.UnknownType),
)

-- main() { create p(); }
abbrev text7 : Row
text7 = (
  record {
    names = 2;
    formats = [];
    items = (item.Function (type_name.Number numeric.Int) (x 1 1 0) [] ((statement.Evaluate (phrase.Create (at 1
        10) (x 1 17 1) [])) ∷ []) ∷ []);
  },
  Some (fault_at 1 17 kind.UnknownType),
)

-- struct s main() { }
abbrev text8 : Row
text8 = (
  record { names = 2; formats = []; items = (item.Function (type_name.Structure (x 1 8 1)) (x 1 10 0) [] [] ∷ []) },
  Some (fault_at 1 8
      kind.UnknownType),
)

-- main() { process p x; x = create p(); } process spec p(); process body p() { }
abbrev text9 : Row
text9 = (
  record {
    names = 3;
    formats = [];
    items = (item.Function (type_name.Number numeric.Int) (x 1 1 0) [] ((statement.Declare (record {
      of =
          (type_name.Process (x 1 18 1));
      name = (x 1 20 2);
      form = form.Plain;
    })) ∷ (statement.Evaluate (phrase.Assign (phrase.Name (x 1 23 2))
        (phrase.Create (at 1 27) (x 1 34 1) []))) ∷ []) ∷ item.Specification (x 1 54 1) [] [] ∷ item.Body (x 1 72 1) [] [] ∷ []);
  },
  None,
)

-- enum e { A }; main() { enum e x = A; x = x + 1; }
abbrev text10 : Row
text10 = (
  record {
    names = 4;
    formats = [];
    items = (item.Enumeration (Some (x 1 6 1)) (record { name = (x 1 10 2); value = None } ∷ []) ∷ item.Function
        (type_name.Number numeric.Int) (x 1 15 0) [] ((statement.Declare (record {
          of = (type_name.Enumeration (x 1 29 1));
          name = (x 1 31 3);
          form =
              form.Value (phrase.Name (x 1 35 2));
        })) ∷ (statement.Evaluate (phrase.Assign (phrase.Name (x 1 38 3)) (phrase.Arithmetic (phrase.Name (x 1 42 3))
        (record { operator = operator.Add; operand = (phrase.Number (at 1 46) (pos 1) numeric.Int) } ∷ [])))) ∷ []) ∷ []);
  },
  None,
)

abbrev pub rows : List Row
rows = text0 ∷ text1 ∷ text2 ∷ text3 ∷ text4 ∷ text5 ∷ text6 ∷ text7 ∷ text8 ∷ text9 ∷ text10 ∷ []
