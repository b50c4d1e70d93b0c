-- a part without a type that holds no fault
use Rattle.std.specs.Prelude.{pos, List, [], ◌∷◌, Some, None}
use Rattle.cc_base.specs.declared.numbers.NumberType.TheVariants as numeric
use Rattle.cc_base.specs.declared.numbers.Operator.TheVariants as operator
use Rattle.cc_faults.specs.declared.fault.TypeKind.TheVariants as kind
use Rattle.cc_faults.specs.declared.plain.Item.TheVariants as item
use Rattle.cc_faults.specs.declared.plain.LocalForm.TheVariants as form
use Rattle.cc_faults.specs.declared.plain.Phrase.TheVariants as phrase
use Rattle.cc_faults.specs.declared.plain.Statement.TheVariants as statement
use Rattle.cc_faults.specs.declared.plain.Step.TheVariants as step
use Rattle.cc_faults.specs.declared.plain.StepWord.TheVariants as step_word
use Rattle.cc_faults.specs.declared.plain.TypeName.TheVariants as type_name
use Rattle.types_tests.specs.Seen.{Row, at, fault_at, x}

-- main() { f() = 1; } f(void x) { }
abbrev text0 : Row
text0 = (
  record {
    names = 3;
    formats = [];
    items = (item.Function (type_name.Number numeric.Int) (x 1 1 0) [] ((statement.Evaluate (phrase.Assign
        (phrase.Call (x 1 10 1) []) (phrase.Number (at 1 16) (pos 1) numeric.Int))) ∷ []) ∷ item.Function (type_name.Number numeric.Int) (x 1 21 1)
        (record { of = (type_name.Void (at 1 23)); name = (x 1 28 2) } ∷ []) [] ∷ []);
  },
  Some (fault_at 1 10 kind.NotAPlace),
)

-- main() { f()++; } f(void x) { }
abbrev text1 : Row
text1 = (
  record {
    names = 3;
    formats = [];
    items = (item.Function (type_name.Number numeric.Int) (x 1 1 0) [] ((statement.Evaluate (phrase.StepAfter
        (phrase.Call (x 1 10 1) []) step_word.Up)) ∷ []) ∷ item.Function (type_name.Number numeric.Int) (x 1 19 1) (record {
          of = (type_name.Void (at 1
              21));
          name = (x 1 26 2);
        } ∷ []) [] ∷ []);
  },
  Some (fault_at 1 10 kind.NotAPlace),
)

-- main() { create p() = 1; } process spec p(void a); process body p(a) { }
abbrev text2 : Row
text2 = (
  record {
    names = 3;
    formats = [];
    items = (item.Function (type_name.Number numeric.Int) (x 1 1 0) [] ((statement.Evaluate (phrase.Assign
        (phrase.Create (at 1 10) (x 1 17 1) []) (phrase.Number (at 1 23) (pos 1) numeric.Int))) ∷ []) ∷ item.Specification (x 1 41 1) ((type_name.Void (at
        1 43)) ∷ []) [] ∷ item.Body (x 1 65 1) ((x 1 67 2) ∷ []) [] ∷ []);
  },
  Some (fault_at 1 10 kind.NotAPlace),
)

-- process body p(x) { x + 1 = 2; } process spec p(void a); main() { }
abbrev text3 : Row
text3 = (
  record {
    names = 3;
    formats = [];
    items = (item.Body (x 1 14 1) ((x 1 16 2) ∷ []) ((statement.Evaluate (phrase.Assign (phrase.Arithmetic
        (phrase.Name (x 1 21 2)) (record { operator = operator.Add; operand = (phrase.Number (at 1 25) (pos 1) numeric.Int) } ∷ [])) (phrase.Number (at 1
        29) (pos 2) numeric.Int))) ∷ []) ∷ item.Specification (x 1 47 1) ((type_name.Void (at 1 49)) ∷ []) [] ∷ item.Function (type_name.Number
        numeric.Int) (x 1 58 0) [] [] ∷ []);
  },
  Some (fault_at 1 21 kind.NotAPlace),
)

-- main() { f().a = 1; } f(void x) { }
abbrev text4 : Row
text4 = (
  record {
    names = 4;
    formats = [];
    items = (item.Function (type_name.Number numeric.Int) (x 1 1 0) [] ((statement.Evaluate (phrase.Assign
        (phrase.Chain (phrase.Call (x 1 10 1) []) (step.Field (x 1 14 2) ∷ [])) (phrase.Number (at 1 18) (pos 1) numeric.Int))) ∷ []) ∷ item.Function
        (type_name.Number numeric.Int) (x 1 23 1) (record { of = (type_name.Void (at 1 25)); name = (x 1 30 3) } ∷ []) [] ∷ []);
  },
  Some (fault_at 1 10
      kind.NotAPlace),
)

-- process body p(x) { ++(x + 1); } process spec p(void a); main() { }
abbrev text5 : Row
text5 = (
  record {
    names = 3;
    formats = [];
    items = (item.Body (x 1 14 1) ((x 1 16 2) ∷ []) ((statement.Evaluate (phrase.StepBefore (at 1 21) step_word.Up
        (phrase.Parenthesized (at 1 23) (phrase.Arithmetic (phrase.Name (x 1 24 2)) (record {
          operator = operator.Add;
          operand = (phrase.Number (at 1 28)
              (pos 1) numeric.Int);
        } ∷ []))))) ∷ []) ∷ item.Specification (x 1 47 1) ((type_name.Void (at 1 49)) ∷ []) [] ∷ item.Function (type_name.Number
        numeric.Int) (x 1 58 0) [] [] ∷ []);
  },
  Some (fault_at 1 23 kind.NotAPlace),
)

-- process body p(x) { x = 1; x++; x.a = 2; (x[1]).b -= 3; } process spec p(void a); main() { }
abbrev text6 : Row
text6 = (
  record {
    names = 5;
    formats = [];
    items = (item.Body (x 1 14 1) ((x 1 16 2) ∷ []) ((statement.Evaluate (phrase.Assign (phrase.Name (x 1 21 2))
        (phrase.Number (at 1 25) (pos 1) numeric.Int))) ∷ (statement.Evaluate (phrase.StepAfter (phrase.Name (x 1 28 2)) step_word.Up)) ∷
        (statement.Evaluate (phrase.Assign (phrase.Chain (phrase.Name (x 1 33 2)) (step.Field (x 1 35 3) ∷ [])) (phrase.Number (at 1 39) (pos 2)
        numeric.Int))) ∷ (statement.Evaluate (phrase.Update (phrase.Chain (phrase.Parenthesized (at 1 42) (phrase.Chain (phrase.Name (x 1 43 2))
        (step.Index (phrase.Number (at 1 45) (pos 1) numeric.Int) ∷ []))) (step.Field (x 1 49 4) ∷ [])) operator.Subtract (phrase.Number (at 1 54) (pos 3)
        numeric.Int))) ∷ []) ∷ item.Specification (x 1 72 1) ((type_name.Void (at 1 74)) ∷ []) [] ∷ item.Function (type_name.Number numeric.Int) (x 1 83
        0) [] [] ∷ []);
  },
  Some (fault_at 1 74 kind.VoidHere),
)

-- main() { within 1 ? f() : 0; } f(void x) { }
abbrev text7 : Row
text7 = (
  record {
    names = 3;
    formats = [];
    items = (item.Function (type_name.Number numeric.Int) (x 1 1 0) [] ((statement.Evaluate (phrase.Within (at 1
        10) (phrase.Number (at 1 17) (pos 1) numeric.Int) (phrase.Call (x 1 21 1) []) (phrase.Number (at 1 27) (pos 0) numeric.Int))) ∷ []) ∷
        item.Function (type_name.Number numeric.Int) (x 1 32 1) (record { of = (type_name.Void (at 1 34)); name = (x 1 39 2) } ∷ []) [] ∷ []);
  },
  Some
      (fault_at 1 21 kind.NotTimed),
)

-- process body p(x) { within 1 ? x : 0; } process spec p(void a); main() { }
abbrev text8 : Row
text8 = (
  record {
    names = 3;
    formats = [];
    items = (item.Body (x 1 14 1) ((x 1 16 2) ∷ []) ((statement.Evaluate (phrase.Within (at 1 21) (phrase.Number
        (at 1 28) (pos 1) numeric.Int) (phrase.Name (x 1 32 2)) (phrase.Number (at 1 36) (pos 0) numeric.Int))) ∷ []) ∷ item.Specification (x 1 54 1)
        ((type_name.Void (at 1 56)) ∷ []) [] ∷ item.Function (type_name.Number numeric.Int) (x 1 65 0) [] [] ∷ []);
  },
  Some (fault_at 1 32 kind.NotTimed),
)

-- process body p(x) { within 1 ? x.t().u : 0; } process spec p(void a); main() { }
abbrev text9 : Row
text9 = (
  record {
    names = 5;
    formats = [];
    items = (item.Body (x 1 14 1) ((x 1 16 2) ∷ []) ((statement.Evaluate (phrase.Within (at 1 21) (phrase.Number
        (at 1 28) (pos 1) numeric.Int) (phrase.Chain (phrase.Name (x 1 32 2)) (step.Call (x 1 34 3) [] ∷ step.Field (x 1 38 4) ∷ [])) (phrase.Number (at 1
        42) (pos 0) numeric.Int))) ∷ []) ∷ item.Specification (x 1 60 1) ((type_name.Void (at 1 62)) ∷ []) [] ∷ item.Function (type_name.Number
        numeric.Int) (x 1 71 0) [] [] ∷ []);
  },
  Some (fault_at 1 32 kind.NotTimed),
)

-- process body p(x) { within 1 ? x.t() : 0; } process spec p(void a); main() { }
abbrev text10 : Row
text10 = (
  record {
    names = 4;
    formats = [];
    items = (item.Body (x 1 14 1) ((x 1 16 2) ∷ []) ((statement.Evaluate (phrase.Within (at 1 21) (phrase.Number
        (at 1 28) (pos 1) numeric.Int) (phrase.Chain (phrase.Name (x 1 32 2)) (step.Call (x 1 34 3) [] ∷ [])) (phrase.Number (at 1 40) (pos 0)
        numeric.Int))) ∷ []) ∷ item.Specification (x 1 58 1) ((type_name.Void (at 1 60)) ∷ []) [] ∷ item.Function (type_name.Number numeric.Int) (x 1 69
        0) [] [] ∷ []);
  },
  Some (fault_at 1 60 kind.VoidHere),
)

-- main() { process p x; within 1 ? x.t(1) : 0; } process spec p() { trans async t(void a); }; process body p() { }
abbrev text11 : Row
text11 = (
  record {
    names = 4;
    formats = [];
    items = (item.Function (type_name.Number numeric.Int) (x 1 1 0) [] ((statement.Declare (record {
      of =
          (type_name.Process (x 1 18 1));
      name = (x 1 20 2);
      form = form.Plain;
    })) ∷ (statement.Evaluate (phrase.Within (at 1 23) (phrase.Number (at 1 30)
        (pos 1) numeric.Int) (phrase.Chain (phrase.Name (x 1 34 2)) (step.Call (x 1 36 3) ((phrase.Number (at 1 38) (pos 1) numeric.Int) ∷ []) ∷ []))
        (phrase.Number (at 1 43) (pos 0) numeric.Int))) ∷ []) ∷ item.Specification (x 1 61 1) [] (record {
          result = None;
          name = (x 1 79 3);
          parameters =
              ((type_name.Void (at 1 81)) ∷ []);
        } ∷ []) ∷ item.Body (x 1 106 1) [] [] ∷ []);
  },
  Some (fault_at 1 34 kind.NotTimed),
)

abbrev pub rows : List Row
rows = text0 ∷ text1 ∷ text2 ∷ text3 ∷ text4 ∷ text5 ∷ text6 ∷ text7 ∷ text8 ∷ text9 ∷ text10 ∷ text11 ∷ []
