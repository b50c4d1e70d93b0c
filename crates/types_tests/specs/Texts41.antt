-- a part without a type that holds no fault
use Rattle.std.specs.Prelude.{pos, List, [], ◌∷◌, Some, None}
use Rattle.cc_base.specs.declared.numbers.NumberType.TheVariants as numeric
use Rattle.cc_base.specs.declared.numbers.Operator.TheVariants as operator
use Rattle.cc_faults.specs.declared.fault.TypeKind.TheVariants as kind
use Rattle.cc_faults.specs.declared.plain.Item.TheVariants as item
use Rattle.cc_faults.specs.declared.plain.Length.TheVariants as some_length
use Rattle.cc_faults.specs.declared.plain.LocalForm.TheVariants as form
use Rattle.cc_faults.specs.declared.plain.Phrase.TheVariants as phrase
use Rattle.cc_faults.specs.declared.plain.Statement.TheVariants as statement
use Rattle.cc_faults.specs.declared.plain.Step.TheVariants as step
use Rattle.cc_faults.specs.declared.plain.TypeName.TheVariants as type_name
use Rattle.types_tests.specs.Seen.{Row, at, fault_at, x}

-- main() { process p x; within 1 ? x.t(1) : 0; } process spec p() { trans int t(void a); }; process body p() { }
abbrev text0 : Row
text0 = (
  record {
    names = 4;
    formats = [];
    items = (item.Function (type_name.Number numeric.Int) (x 1 1 0) [] ((statement.Declare (record {
      of =
          (type_name.Process (x 1 18 1));
      name = (x 1 20 2);
      form = form.Plain;
    })) ∷ (statement.Evaluate (phrase.Within (at 1 23) (phrase.Number (at 1 30)
        (pos 1) numeric.Int) (phrase.Chain (phrase.Name (x 1 34 2)) (step.Call (x 1 36 3) ((phrase.Number (at 1 38) (pos 1) numeric.Int) ∷ []) ∷ []))
        (phrase.Number (at 1 43) (pos 0) numeric.Int))) ∷ []) ∷ item.Specification (x 1 61 1) [] (record {
          result = (Some (type_name.Number numeric.Int));
          name = (x 1 77 3);
          parameters = ((type_name.Void (at 1 79)) ∷ []);
        } ∷ []) ∷ item.Body (x 1 104 1) [] [] ∷ []);
  },
  Some (fault_at 1 79
      kind.VoidHere),
)

-- process body p(x) { process p q; within 1 ? q.t(x) : 0; } process spec p(void a) { trans async t(int a); }; main() { }
abbrev text1 : Row
text1 = (
  record {
    names = 5;
    formats = [];
    items = (item.Body (x 1 14 1) ((x 1 16 2) ∷ []) ((statement.Declare (record {
      of = (type_name.Process (x 1 29
          1));
      name = (x 1 31 3);
      form = form.Plain;
    })) ∷ (statement.Evaluate (phrase.Within (at 1 34) (phrase.Number (at 1 41) (pos 1) numeric.Int)
        (phrase.Chain (phrase.Name (x 1 45 3)) (step.Call (x 1 47 4) ((phrase.Name (x 1 49 2)) ∷ []) ∷ [])) (phrase.Number (at 1 54) (pos 0)
        numeric.Int))) ∷ []) ∷ item.Specification (x 1 72 1) ((type_name.Void (at 1 74)) ∷ []) (record {
          result = None;
          name = (x 1 96 4);
          parameters =
              ((type_name.Number numeric.Int) ∷ []);
        } ∷ []) ∷ item.Function (type_name.Number numeric.Int) (x 1 109 0) [] [] ∷ []);
  },
  Some (fault_at 1 45
      kind.NotTimed),
)

-- process body p(x) { x(); } process spec p(void a); main() { }
abbrev text2 : Row
text2 = (
  record {
    names = 3;
    formats = [];
    items = (item.Body (x 1 14 1) ((x 1 16 2) ∷ []) ((statement.Evaluate (phrase.Call (x 1 21 2) [])) ∷ []) ∷
        item.Specification (x 1 41 1) ((type_name.Void (at 1 43)) ∷ []) [] ∷ item.Function (type_name.Number numeric.Int) (x 1 52 0) [] [] ∷ []);
  },
  Some
      (fault_at 1 21 kind.NotAFunction),
)

-- process body p(x) { int a[x]; } process spec p(void a); main() { }
abbrev text3 : Row
text3 = (
  record {
    names = 4;
    formats = [];
    items = (item.Body (x 1 14 1) ((x 1 16 2) ∷ []) ((statement.Declare (record {
      of = (type_name.Number
          numeric.Int);
      name = (x 1 25 3);
      form = form.Array (some_length.Name (x 1 27 2));
    })) ∷ []) ∷ item.Specification (x 1 46 1) ((type_name.Void (at 1
        48)) ∷ []) [] ∷ item.Function (type_name.Number numeric.Int) (x 1 57 0) [] [] ∷ []);
  },
  Some (fault_at 1 27 kind.BadLength),
)

-- process body p() { accept t(x) { x(); } } process spec p() { trans void t(void a); }; main() { }
abbrev text4 : Row
text4 = (
  record {
    names = 4;
    formats = [];
    items = (item.Body (x 1 14 1) [] ((statement.Accept (record {
      head = record {
        place = (at 1 20);
        name = (x 1 27
            2);
        names = ((x 1 29 3) ∷ []);
        clauses = [];
      };
      block = ((statement.Evaluate (phrase.Call (x 1 34 3) [])) ∷ []);
    })) ∷ []) ∷ item.Specification (x 1
        56 1) [] (record { result = (Some (type_name.Void (at 1 68))); name = (x 1 73 2); parameters = ((type_name.Void (at 1 75)) ∷ []) } ∷ []) ∷
        item.Function (type_name.Number numeric.Int) (x 1 87 0) [] [] ∷ []);
  },
  Some (fault_at 1 34 kind.NotAFunction),
)

-- process body p(x) { x + 1; x.y; x[2]; x.t(3); f(x); } f(int a) { } process spec p(void a); main() { }
abbrev text5 : Row
text5 = (
  record {
    names = 7;
    formats = [];
    items = (item.Body (x 1 14 1) ((x 1 16 2) ∷ []) ((statement.Evaluate (phrase.Arithmetic (phrase.Name (x 1 21
        2)) (record { operator = operator.Add; operand = (phrase.Number (at 1 25) (pos 1) numeric.Int) } ∷ []))) ∷ (statement.Evaluate (phrase.Chain
        (phrase.Name (x 1 28 2)) (step.Field (x 1 30 3) ∷ []))) ∷ (statement.Evaluate (phrase.Chain (phrase.Name (x 1 33 2)) (step.Index (phrase.Number
        (at 1 35) (pos 2) numeric.Int) ∷ []))) ∷ (statement.Evaluate (phrase.Chain (phrase.Name (x 1 39 2)) (step.Call (x 1 41 4) ((phrase.Number (at 1
        43) (pos 3) numeric.Int) ∷ []) ∷ []))) ∷ (statement.Evaluate (phrase.Call (x 1 47 5) ((phrase.Name (x 1 49 2)) ∷ []))) ∷ []) ∷ item.Function
        (type_name.Number numeric.Int) (x 1 55 5) (record { of = (type_name.Number numeric.Int); name = (x 1 61 6) } ∷ []) [] ∷ item.Specification (x 1 81
        1) ((type_name.Void (at 1 83)) ∷ []) [] ∷ item.Function (type_name.Number numeric.Int) (x 1 92 0) [] [] ∷ []);
  },
  Some (fault_at 1 83
      kind.VoidHere),
)

abbrev pub rows : List Row
rows = text0 ∷ text1 ∷ text2 ∷ text3 ∷ text4 ∷ text5 ∷ []
