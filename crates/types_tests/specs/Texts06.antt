-- 3 UnknownName
use Rattle.std.specs.Prelude.{pos, false, List, [], ◌∷◌, Some, None}
use Rattle.cc_base.specs.declared.numbers.NumberType.TheVariants as numeric
use Rattle.cc_base.specs.declared.numbers.Operator.TheVariants as operator
use Rattle.cc_faults.specs.declared.fault.TypeKind.TheVariants as kind
use Rattle.cc_faults.specs.declared.plain.Item.TheVariants as item
use Rattle.cc_faults.specs.declared.plain.Length.TheVariants as some_length
use Rattle.cc_faults.specs.declared.plain.LocalForm.TheVariants as form
use Rattle.cc_faults.specs.declared.plain.Phrase.TheVariants as phrase
use Rattle.cc_faults.specs.declared.plain.Statement.TheVariants as statement
use Rattle.cc_faults.specs.declared.plain.Step.TheVariants as step
use Rattle.cc_faults.specs.declared.plain.TypeName.TheVariants as type_name
use Rattle.types_tests.specs.Seen.{Row, at, fault_at, x}

-- main() { for (i = 0; ; ) ; }
abbrev text0 : Row
text0 = (
  record {
    names = 2;
    formats = [];
    items = (item.Function (type_name.Number numeric.Int) (x 1 1 0) [] ((statement.For (Some (phrase.Assign
        (phrase.Name (x 1 15 1)) (phrase.Number (at 1 19) (pos 0) numeric.Int))) None None statement.Empty) ∷ []) ∷ []);
  },
  Some (fault_at 1 15
      kind.UnknownName),
)

-- main() { int a = 1, b = a + c, d; }
abbrev text1 : Row
text1 = (
  record {
    names = 5;
    formats = [];
    items = (item.Function (type_name.Number numeric.Int) (x 1 1 0) [] ((statement.Declare (record {
      of =
          (type_name.Number numeric.Int);
      name = (x 1 14 1);
      form = form.Value (phrase.Number (at 1 18) (pos 1) numeric.Int);
    })) ∷ (statement.Declare
        (record {
          of = (type_name.Number numeric.Int);
          name = (x 1 21 2);
          form = form.Value (phrase.Arithmetic (phrase.Name (x 1 25 1)) (record {
            operator
                = operator.Add;
            operand = (phrase.Name (x 1 29 3));
          } ∷ []));
        })) ∷ (statement.Declare (record {
          of = (type_name.Number numeric.Int);
          name = (x 1 32
              4);
          form = form.Plain;
        })) ∷ []) ∷ []);
  },
  Some (fault_at 1 29 kind.UnknownName),
)

-- main() { f(); } f() { }
abbrev text2 : Row
text2 = (
  record {
    names = 2;
    formats = [];
    items = (item.Function (type_name.Number numeric.Int) (x 1 1 0) [] ((statement.Evaluate (phrase.Call (x 1 10 1)
        [])) ∷ []) ∷ item.Function (type_name.Number numeric.Int) (x 1 17 1) [] [] ∷ []);
  },
  None,
)

-- enum { A = 1, B = A }; main() { int x[B]; x[A - 1]; }
abbrev text3 : Row
text3 = (
  record {
    names = 4;
    formats = [];
    items = (item.Enumeration None (record {
      name = (x 1 8 1);
      value = (Some (record {
        negative = false;
        length =
            (some_length.Number (at 1 12) (pos 1));
      }));
    } ∷ record {
      name = (x 1 15 2);
      value = (Some (record {
        negative = false;
        length = (some_length.Name (x
            1 19 1));
      }));
    } ∷ []) ∷ item.Function (type_name.Number numeric.Int) (x 1 24 0) [] ((statement.Declare (record {
      of = (type_name.Number
          numeric.Int);
      name = (x 1 37 3);
      form = form.Array (some_length.Name (x 1 39 2));
    })) ∷ (statement.Evaluate (phrase.Chain (phrase.Name (x 1 43 3))
        (step.Index (phrase.Arithmetic (phrase.Name (x 1 45 1)) (record {
          operator = operator.Subtract;
          operand = (phrase.Number (at 1 49) (pos 1)
              numeric.Int);
        } ∷ [])) ∷ []))) ∷ []) ∷ []);
  },
  None,
)

abbrev pub rows : List Row
rows = text0 ∷ text1 ∷ text2 ∷ text3 ∷ []
