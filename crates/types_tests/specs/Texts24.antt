-- 17 NotAValue
use Rattle.std.specs.Prelude.{pos, List, [], ◌∷◌, Some}
use Rattle.cc_base.specs.declared.numbers.NumberType.TheVariants as numeric
use Rattle.cc_base.specs.declared.numbers.Operator.TheVariants as operator
use Rattle.cc_faults.specs.declared.fault.TypeKind.TheVariants as kind
use Rattle.cc_faults.specs.declared.plain.Item.TheVariants as item
use Rattle.cc_faults.specs.declared.plain.Length.TheVariants as some_length
use Rattle.cc_faults.specs.declared.plain.LocalForm.TheVariants as form
use Rattle.cc_faults.specs.declared.plain.Phrase.TheVariants as phrase
use Rattle.cc_faults.specs.declared.plain.Statement.TheVariants as statement
use Rattle.cc_faults.specs.declared.plain.Step.TheVariants as step
use Rattle.cc_faults.specs.declared.plain.TypeName.TheVariants as type_name
use Rattle.types_tests.specs.Seen.{Row, at, fault_at, x}

-- f() { } main() { f; }
abbrev text0 : Row
text0 = (
  record {
    names = 2;
    formats = [];
    items = (item.Function (type_name.Number numeric.Int) (x 1 1 1) [] [] ∷ item.Function (type_name.Number
        numeric.Int) (x 1 9 0) [] ((statement.Evaluate (phrase.Name (x 1 18 1))) ∷ []) ∷ []);
  },
  Some (fault_at 1 18 kind.NotAValue),
)

-- main() { main + 1; }
abbrev text1 : Row
text1 = (
  record {
    names = 1;
    formats = [];
    items = (item.Function (type_name.Number numeric.Int) (x 1 1 0) [] ((statement.Evaluate (phrase.Arithmetic
        (phrase.Name (x 1 10 0)) (record { operator = operator.Add; operand = (phrase.Number (at 1 17) (pos 1) numeric.Int) } ∷ []))) ∷ []) ∷ []);
  },
  Some
      (fault_at 1 10 kind.NotAValue),
)

-- f() { } main() { f = 1; }
abbrev text2 : Row
text2 = (
  record {
    names = 2;
    formats = [];
    items = (item.Function (type_name.Number numeric.Int) (x 1 1 1) [] [] ∷ item.Function (type_name.Number
        numeric.Int) (x 1 9 0) [] ((statement.Evaluate (phrase.Assign (phrase.Name (x 1 18 1)) (phrase.Number (at 1 22) (pos 1) numeric.Int))) ∷ []) ∷ []);
  },
  Some (fault_at 1 18 kind.NotAValue),
)

-- f() { } main() { int x[2]; x[f]; }
abbrev text3 : Row
text3 = (
  record {
    names = 3;
    formats = [];
    items = (item.Function (type_name.Number numeric.Int) (x 1 1 1) [] [] ∷ item.Function (type_name.Number
        numeric.Int) (x 1 9 0) [] ((statement.Declare (record {
          of = (type_name.Number numeric.Int);
          name = (x 1 22 2);
          form = form.Array
              (some_length.Number (at 1 24) (pos 2));
        })) ∷ (statement.Evaluate (phrase.Chain (phrase.Name (x 1 28 2)) (step.Index (phrase.Name (x 1 30 1)) ∷
        []))) ∷ []) ∷ []);
  },
  Some (fault_at 1 30 kind.NotAValue),
)

abbrev pub rows : List Row
rows = text0 ∷ text1 ∷ text2 ∷ text3 ∷ []
