-- a declaration with a fault, and names of the whole text
use Rattle.std.specs.Prelude.{pos, List, [], ◌∷◌, Some, None}
use Rattle.cc_base.specs.declared.numbers.NumberType.TheVariants as numeric
use Rattle.cc_base.specs.declared.numbers.Operator.TheVariants as operator
use Rattle.cc_faults.specs.declared.fault.TypeKind.TheVariants as kind
use Rattle.cc_faults.specs.declared.plain.Item.TheVariants as item
use Rattle.cc_faults.specs.declared.plain.Length.TheVariants as some_length
use Rattle.cc_faults.specs.declared.plain.LocalForm.TheVariants as form
use Rattle.cc_faults.specs.declared.plain.Phrase.TheVariants as phrase
use Rattle.cc_faults.specs.declared.plain.Statement.TheVariants as statement
use Rattle.cc_faults.specs.declared.plain.Step.TheVariants as step
use Rattle.cc_faults.specs.declared.plain.TypeName.TheVariants as type_name
use Rattle.types_tests.specs.Seen.{Row, at, fault_at, x}

-- main() { g(1, 2) + 1; } g(void x) { }
abbrev text0 : Row
text0 = (
  record {
    names = 3;
    formats = [];
    items = (item.Function (type_name.Number numeric.Int) (x 1 1 0) [] ((statement.Evaluate (phrase.Arithmetic
        (phrase.Call (x 1 10 1) ((phrase.Number (at 1 12) (pos 1) numeric.Int) ∷ (phrase.Number (at 1 15) (pos 2) numeric.Int) ∷ [])) (record {
          operator =
              operator.Add;
          operand = (phrase.Number (at 1 20) (pos 1) numeric.Int);
        } ∷ []))) ∷ []) ∷ item.Function (type_name.Number numeric.Int) (x 1 25 1)
        (record { of = (type_name.Void (at 1 27)); name = (x 1 32 2) } ∷ []) [] ∷ []);
  },
  Some (fault_at 1 27 kind.VoidHere),
)

-- main() { f(1); } f() { } f(int x) { }
abbrev text1 : Row
text1 = (
  record {
    names = 3;
    formats = [];
    items = (item.Function (type_name.Number numeric.Int) (x 1 1 0) [] ((statement.Evaluate (phrase.Call (x 1 10 1)
        ((phrase.Number (at 1 12) (pos 1) numeric.Int) ∷ []))) ∷ []) ∷ item.Function (type_name.Number numeric.Int) (x 1 18 1) [] [] ∷ item.Function
        (type_name.Number numeric.Int) (x 1 26 1) (record { of = (type_name.Number numeric.Int); name = (x 1 32 2) } ∷ []) [] ∷ []);
  },
  Some (fault_at 1 10
      kind.Arity),
)

-- main() { process p x; create p(1); } process spec p(int a); process body p(a) { } process spec p(void);
abbrev text2 : Row
text2 = (
  record {
    names = 4;
    formats = [];
    items = (item.Function (type_name.Number numeric.Int) (x 1 1 0) [] ((statement.Declare (record {
      of =
          (type_name.Process (x 1 18 1));
      name = (x 1 20 2);
      form = form.Plain;
    })) ∷ (statement.Evaluate (phrase.Create (at 1 23) (x 1 30 1) ((phrase.Number
        (at 1 32) (pos 1) numeric.Int) ∷ []))) ∷ []) ∷ item.Specification (x 1 51 1) ((type_name.Number numeric.Int) ∷ []) [] ∷ item.Body (x 1 74 1) ((x 1
        76 3) ∷ []) [] ∷ item.Specification (x 1 96 1) [] [] ∷ []);
  },
  Some (fault_at 1 96 kind.Duplicate),
)

-- main() { process p x; x.t(1, 2); } process spec p() { trans void t(struct s a); }; process body p() { }
abbrev text3 : Row
text3 = (
  record {
    names = 5;
    formats = [];
    items = (item.Function (type_name.Number numeric.Int) (x 1 1 0) [] ((statement.Declare (record {
      of =
          (type_name.Process (x 1 18 1));
      name = (x 1 20 2);
      form = form.Plain;
    })) ∷ (statement.Evaluate (phrase.Chain (phrase.Name (x 1 23 2)) (step.Call
        (x 1 25 3) ((phrase.Number (at 1 27) (pos 1) numeric.Int) ∷ (phrase.Number (at 1 30) (pos 2) numeric.Int) ∷ []) ∷ []))) ∷ []) ∷ item.Specification
        (x 1 49 1) [] (record { result = (Some (type_name.Void (at 1 61))); name = (x 1 66 3); parameters = ((type_name.Structure (x 1 75 4)) ∷ []) } ∷
        []) ∷ item.Body (x 1 97 1) [] [] ∷ []);
  },
  Some (fault_at 1 75 kind.UnknownType),
)

-- main() { process p x; x.u(); } process spec p(void a); process body p(a) { }
abbrev text4 : Row
text4 = (
  record {
    names = 5;
    formats = [];
    items = (item.Function (type_name.Number numeric.Int) (x 1 1 0) [] ((statement.Declare (record {
      of =
          (type_name.Process (x 1 18 1));
      name = (x 1 20 2);
      form = form.Plain;
    })) ∷ (statement.Evaluate (phrase.Chain (phrase.Name (x 1 23 2)) (step.Call
        (x 1 25 3) [] ∷ []))) ∷ []) ∷ item.Specification (x 1 45 1) ((type_name.Void (at 1 47)) ∷ []) [] ∷ item.Body (x 1 69 1) ((x 1 71 4) ∷ []) [] ∷ []);
  },
  Some (fault_at 1 25 kind.UnknownTransaction),
)

-- main() { create p(1, 2); } process spec p(void a); process body p(a) { }
abbrev text5 : Row
text5 = (
  record {
    names = 3;
    formats = [];
    items = (item.Function (type_name.Number numeric.Int) (x 1 1 0) [] ((statement.Evaluate (phrase.Create (at 1
        10) (x 1 17 1) ((phrase.Number (at 1 19) (pos 1) numeric.Int) ∷ (phrase.Number (at 1 22) (pos 2) numeric.Int) ∷ []))) ∷ []) ∷ item.Specification
        (x 1 41 1) ((type_name.Void (at 1 43)) ∷ []) [] ∷ item.Body (x 1 65 1) ((x 1 67 2) ∷ []) [] ∷ []);
  },
  Some (fault_at 1 43 kind.VoidHere),
)

-- f() { g; } enum { g }; g() { } main() { }
abbrev text6 : Row
text6 = (
  record {
    names = 3;
    formats = [];
    items = (item.Function (type_name.Number numeric.Int) (x 1 1 1) [] ((statement.Evaluate (phrase.Name (x 1 7
        2))) ∷ []) ∷ item.Enumeration None (record { name = (x 1 19 2); value = None } ∷ []) ∷ item.Function (type_name.Number numeric.Int) (x 1 24 2) []
        [] ∷ item.Function (type_name.Number numeric.Int) (x 1 32 0) [] [] ∷ []);
  },
  Some (fault_at 1 7 kind.NotAValue),
)

-- enum { g }; f() { g; } g() { } main() { }
abbrev text7 : Row
text7 = (
  record {
    names = 3;
    formats = [];
    items = (item.Enumeration None (record { name = (x 1 8 1); value = None } ∷ []) ∷ item.Function
        (type_name.Number numeric.Int) (x 1 13 2) [] ((statement.Evaluate (phrase.Name (x 1 19 1))) ∷ []) ∷ item.Function (type_name.Number numeric.Int)
        (x 1 24 1) [] [] ∷ item.Function (type_name.Number numeric.Int) (x 1 32 0) [] [] ∷ []);
  },
  Some (fault_at 1 24 kind.Duplicate),
)

-- enum { g }; f() { g(); } g() { } main() { }
abbrev text8 : Row
text8 = (
  record {
    names = 3;
    formats = [];
    items = (item.Enumeration None (record { name = (x 1 8 1); value = None } ∷ []) ∷ item.Function
        (type_name.Number numeric.Int) (x 1 13 2) [] ((statement.Evaluate (phrase.Call (x 1 19 1) [])) ∷ []) ∷ item.Function (type_name.Number
        numeric.Int) (x 1 26 1) [] [] ∷ item.Function (type_name.Number numeric.Int) (x 1 34 0) [] [] ∷ []);
  },
  Some (fault_at 1 19 kind.NotAFunction),
)

-- main() { void x; x + 1; x.a; x(); }
abbrev text9 : Row
text9 = (
  record {
    names = 3;
    formats = [];
    items = (item.Function (type_name.Number numeric.Int) (x 1 1 0) [] ((statement.Declare (record {
      of =
          (type_name.Void (at 1 10));
      name = (x 1 15 1);
      form = form.Plain;
    })) ∷ (statement.Evaluate (phrase.Arithmetic (phrase.Name (x 1 18 1)) (record {
      operator = operator.Add;
      operand = (phrase.Number (at 1 22) (pos 1) numeric.Int);
    } ∷ []))) ∷ (statement.Evaluate (phrase.Chain (phrase.Name (x 1
        25 1)) (step.Field (x 1 27 2) ∷ []))) ∷ (statement.Evaluate (phrase.Call (x 1 30 1) [])) ∷ []) ∷ []);
  },
  Some (fault_at 1 10 kind.VoidHere),
)

-- struct s { int a[2]; }; main() { struct s x[65536]; x[0].a.b; }
abbrev text10 : Row
text10 = (
  record {
    names = 5;
    formats = [];
    items = (item.Structure (x 1 8 1) (record {
      of = (type_name.Number numeric.Int);
      name = (x 1 16 2);
      length =
          (Some (some_length.Number (at 1 18) (pos 2)));
    } ∷ []) ∷ item.Function (type_name.Number numeric.Int) (x 1 25 0) [] ((statement.Declare (record {
      of = (type_name.Structure (x 1 41 1));
      name = (x 1 43 3);
      form = form.Array (some_length.Number (at 1 45) (pos 65536));
    })) ∷ (statement.Evaluate
        (phrase.Chain (phrase.Name (x 1 53 3)) (step.Index (phrase.Number (at 1 55) (pos 0) numeric.Int) ∷ step.Field (x 1 58 2) ∷ step.Field (x 1 60 4) ∷
        []))) ∷ []) ∷ []);
  },
  Some (fault_at 1 43 kind.LargeType),
)

-- main() { struct s x = 1; x.a = x; }
abbrev text11 : Row
text11 = (
  record {
    names = 4;
    formats = [];
    items = (item.Function (type_name.Number numeric.Int) (x 1 1 0) [] ((statement.Declare (record {
      of =
          (type_name.Structure (x 1 17 1));
      name = (x 1 19 2);
      form = form.Value (phrase.Number (at 1 23) (pos 1) numeric.Int);
    })) ∷ (statement.Evaluate
        (phrase.Assign (phrase.Chain (phrase.Name (x 1 26 2)) (step.Field (x 1 28 3) ∷ [])) (phrase.Name (x 1 32 2)))) ∷ []) ∷ []);
  },
  Some (fault_at 1 17
      kind.UnknownType),
)

abbrev pub rows : List Row
rows = text0 ∷ text1 ∷ text2 ∷ text3 ∷ text4 ∷ text5 ∷ text6 ∷ text7 ∷ text8 ∷ text9 ∷ text10 ∷ text11 ∷ []
