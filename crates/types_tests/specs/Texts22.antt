-- 15 NotAPlace
use Rattle.std.specs.Prelude.{pos, List, [], ◌∷◌, Some, None}
use Rattle.cc_base.specs.declared.numbers.NumberType.TheVariants as numeric
use Rattle.cc_base.specs.declared.numbers.Operator.TheVariants as operator
use Rattle.cc_faults.specs.declared.fault.TypeKind.TheVariants as kind
use Rattle.cc_faults.specs.declared.plain.Item.TheVariants as item
use Rattle.cc_faults.specs.declared.plain.Length.TheVariants as some_length
use Rattle.cc_faults.specs.declared.plain.LocalForm.TheVariants as form
use Rattle.cc_faults.specs.declared.plain.Phrase.TheVariants as phrase
use Rattle.cc_faults.specs.declared.plain.Statement.TheVariants as statement
use Rattle.cc_faults.specs.declared.plain.Step.TheVariants as step
use Rattle.cc_faults.specs.declared.plain.StepWord.TheVariants as step_word
use Rattle.cc_faults.specs.declared.plain.TypeName.TheVariants as type_name
use Rattle.types_tests.specs.Seen.{Row, at, fault_at, x}

-- main() { 1 = 2; }
abbrev text0 : Row
text0 = (
  record {
    names = 1;
    formats = [];
    items = (item.Function (type_name.Number numeric.Int) (x 1 1 0) [] ((statement.Evaluate (phrase.Assign
        (phrase.Number (at 1 10) (pos 1) numeric.Int) (phrase.Number (at 1 14) (pos 2) numeric.Int))) ∷ []) ∷ []);
  },
  Some (fault_at 1 10 kind.NotAPlace),
)

-- main() { int x; x++ = 1; }
abbrev text1 : Row
text1 = (
  record {
    names = 2;
    formats = [];
    items = (item.Function (type_name.Number numeric.Int) (x 1 1 0) [] ((statement.Declare (record {
      of =
          (type_name.Number numeric.Int);
      name = (x 1 14 1);
      form = form.Plain;
    })) ∷ (statement.Evaluate (phrase.Assign (phrase.StepAfter (phrase.Name (x 1
        17 1)) step_word.Up) (phrase.Number (at 1 23) (pos 1) numeric.Int))) ∷ []) ∷ []);
  },
  Some (fault_at 1 17 kind.NotAPlace),
)

-- main() { int x; -x = 1; }
abbrev text2 : Row
text2 = (
  record {
    names = 2;
    formats = [];
    items = (item.Function (type_name.Number numeric.Int) (x 1 1 0) [] ((statement.Declare (record {
      of =
          (type_name.Number numeric.Int);
      name = (x 1 14 1);
      form = form.Plain;
    })) ∷ (statement.Evaluate (phrase.Assign (phrase.Negate (at 1 17)
        (phrase.Name (x 1 18 1))) (phrase.Number (at 1 22) (pos 1) numeric.Int))) ∷ []) ∷ []);
  },
  Some (fault_at 1 17 kind.NotAPlace),
)

-- main() { int x; ++(x + 1); }
abbrev text3 : Row
text3 = (
  record {
    names = 2;
    formats = [];
    items = (item.Function (type_name.Number numeric.Int) (x 1 1 0) [] ((statement.Declare (record {
      of =
          (type_name.Number numeric.Int);
      name = (x 1 14 1);
      form = form.Plain;
    })) ∷ (statement.Evaluate (phrase.StepBefore (at 1 17) step_word.Up
        (phrase.Parenthesized (at 1 19) (phrase.Arithmetic (phrase.Name (x 1 20 1)) (record {
          operator = operator.Add;
          operand = (phrase.Number (at 1 24)
              (pos 1) numeric.Int);
        } ∷ []))))) ∷ []) ∷ []);
  },
  Some (fault_at 1 19 kind.NotAPlace),
)

-- main() { int x; int y; x ? x : y = 1; }
abbrev text4 : Row
text4 = (
  record {
    names = 3;
    formats = [];
    items = (item.Function (type_name.Number numeric.Int) (x 1 1 0) [] ((statement.Declare (record {
      of =
          (type_name.Number numeric.Int);
      name = (x 1 14 1);
      form = form.Plain;
    })) ∷ (statement.Declare (record {
      of = (type_name.Number numeric.Int);
      name
          = (x 1 21 2);
      form = form.Plain;
    })) ∷ (statement.Evaluate (phrase.Assign (phrase.Choose (phrase.Name (x 1 24 1)) (phrase.Name (x 1 28 1))
        (phrase.Name (x 1 32 2))) (phrase.Number (at 1 36) (pos 1) numeric.Int))) ∷ []) ∷ []);
  },
  Some (fault_at 1 24 kind.NotAPlace),
)

-- enum { A }; main() { A++; }
abbrev text5 : Row
text5 = (
  record {
    names = 2;
    formats = [];
    items = (item.Enumeration None (record { name = (x 1 8 1); value = None } ∷ []) ∷ item.Function
        (type_name.Number numeric.Int) (x 1 13 0) [] ((statement.Evaluate (phrase.StepAfter (phrase.Name (x 1 22 1)) step_word.Up)) ∷ []) ∷ []);
  },
  Some
      (fault_at 1 22 kind.NotAPlace),
)

-- struct s { int a; }; struct s f() { } main() { f().a = 1; }
abbrev text6 : Row
text6 = (
  record {
    names = 4;
    formats = [];
    items = (item.Structure (x 1 8 1) (record {
      of = (type_name.Number numeric.Int);
      name = (x 1 16 2);
      length =
          None;
    } ∷ []) ∷ item.Function (type_name.Structure (x 1 29 1)) (x 1 31 3) [] [] ∷ item.Function (type_name.Number numeric.Int) (x 1 39 0) []
        ((statement.Evaluate (phrase.Assign (phrase.Chain (phrase.Call (x 1 48 3) []) (step.Field (x 1 52 2) ∷ [])) (phrase.Number (at 1 56) (pos 1)
        numeric.Int))) ∷ []) ∷ []);
  },
  Some (fault_at 1 48 kind.NotAPlace),
)

-- struct s { int a; }; main() { struct s x; struct s y; (x = y).a += 1; }
abbrev text7 : Row
text7 = (
  record {
    names = 5;
    formats = [];
    items = (item.Structure (x 1 8 1) (record {
      of = (type_name.Number numeric.Int);
      name = (x 1 16 2);
      length =
          None;
    } ∷ []) ∷ item.Function (type_name.Number numeric.Int) (x 1 22 0) [] ((statement.Declare (record {
      of = (type_name.Structure (x 1 38 1));
      name = (x 1 40 3);
      form = form.Plain;
    })) ∷ (statement.Declare (record {
      of = (type_name.Structure (x 1 50 1));
      name = (x 1 52 4);
      form =
          form.Plain;
    })) ∷ (statement.Evaluate (phrase.Update (phrase.Chain (phrase.Parenthesized (at 1 55) (phrase.Assign (phrase.Name (x 1 56 3))
        (phrase.Name (x 1 60 4)))) (step.Field (x 1 63 2) ∷ [])) operator.Add (phrase.Number (at 1 68) (pos 1) numeric.Int))) ∷ []) ∷ []);
  },
  Some
      (fault_at 1 55 kind.NotAPlace),
)

-- struct s { int a[2]; }; main() { struct s x[2]; (((x)[1]).a)[0]++; --(x[0].a[1]); }
abbrev text8 : Row
text8 = (
  record {
    names = 4;
    formats = [];
    items = (item.Structure (x 1 8 1) (record {
      of = (type_name.Number numeric.Int);
      name = (x 1 16 2);
      length =
          (Some (some_length.Number (at 1 18) (pos 2)));
    } ∷ []) ∷ item.Function (type_name.Number numeric.Int) (x 1 25 0) [] ((statement.Declare (record {
      of = (type_name.Structure (x 1 41 1));
      name = (x 1 43 3);
      form = form.Array (some_length.Number (at 1 45) (pos 2));
    })) ∷ (statement.Evaluate
        (phrase.StepAfter (phrase.Chain (phrase.Parenthesized (at 1 49) (phrase.Chain (phrase.Parenthesized (at 1 50) (phrase.Chain (phrase.Parenthesized
        (at 1 51) (phrase.Name (x 1 52 3))) (step.Index (phrase.Number (at 1 55) (pos 1) numeric.Int) ∷ []))) (step.Field (x 1 59 2) ∷ []))) (step.Index
        (phrase.Number (at 1 62) (pos 0) numeric.Int) ∷ [])) step_word.Up)) ∷ (statement.Evaluate (phrase.StepBefore (at 1 68) step_word.Down
        (phrase.Parenthesized (at 1 70) (phrase.Chain (phrase.Name (x 1 71 3)) (step.Index (phrase.Number (at 1 73) (pos 0) numeric.Int) ∷ step.Field (x 1
        76 2) ∷ step.Index (phrase.Number (at 1 78) (pos 1) numeric.Int) ∷ []))))) ∷ []) ∷ []);
  },
  None,
)

-- main() { 5 += 1; }
abbrev text9 : Row
text9 = (
  record {
    names = 1;
    formats = [];
    items = (item.Function (type_name.Number numeric.Int) (x 1 1 0) [] ((statement.Evaluate (phrase.Update
        (phrase.Number (at 1 10) (pos 5) numeric.Int) operator.Add (phrase.Number (at 1 15) (pos 1) numeric.Int))) ∷ []) ∷ []);
  },
  Some (fault_at 1 10
      kind.NotAPlace),
)

-- main() { u = 1; u++; }
abbrev text10 : Row
text10 = (
  record {
    names = 2;
    formats = [];
    items = (item.Function (type_name.Number numeric.Int) (x 1 1 0) [] ((statement.Evaluate (phrase.Assign
        (phrase.Name (x 1 10 1)) (phrase.Number (at 1 14) (pos 1) numeric.Int))) ∷ (statement.Evaluate (phrase.StepAfter (phrase.Name (x 1 17 1))
        step_word.Up)) ∷ []) ∷ []);
  },
  Some (fault_at 1 10 kind.UnknownName),
)

abbrev pub rows : List Row
rows = text0 ∷ text1 ∷ text2 ∷ text3 ∷ text4 ∷ text5 ∷ text6 ∷ text7 ∷ text8 ∷ text9 ∷ text10 ∷ []
