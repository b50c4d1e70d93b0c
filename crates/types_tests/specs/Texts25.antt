-- 18 UnknownField
use Rattle.std.specs.Prelude.{pos, List, [], ◌∷◌, Some, None}
use Rattle.cc_base.specs.declared.numbers.NumberType.TheVariants as numeric
use Rattle.cc_faults.specs.declared.fault.TypeKind.TheVariants as kind
use Rattle.cc_faults.specs.declared.plain.Item.TheVariants as item
use Rattle.cc_faults.specs.declared.plain.LocalForm.TheVariants as form
use Rattle.cc_faults.specs.declared.plain.Phrase.TheVariants as phrase
use Rattle.cc_faults.specs.declared.plain.Statement.TheVariants as statement
use Rattle.cc_faults.specs.declared.plain.Step.TheVariants as step
use Rattle.cc_faults.specs.declared.plain.TypeName.TheVariants as type_name
use Rattle.types_tests.specs.Seen.{Row, at, fault_at, x}

-- struct s { int a; }; main() { struct s x; x.b; }
abbrev text0 : Row
text0 = (
  record {
    names = 5;
    formats = [];
    items = (item.Structure (x 1 8 1) (record {
      of = (type_name.Number numeric.Int);
      name = (x 1 16 2);
      length =
          None;
    } ∷ []) ∷ item.Function (type_name.Number numeric.Int) (x 1 22 0) [] ((statement.Declare (record {
      of = (type_name.Structure (x 1 38 1));
      name = (x 1 40 3);
      form = form.Plain;
    })) ∷ (statement.Evaluate (phrase.Chain (phrase.Name (x 1 43 3)) (step.Field (x 1 45 4) ∷ []))) ∷ []) ∷ []);
  },
  Some (fault_at 1 45 kind.UnknownField),
)

-- struct s { int a; }; struct t { struct s s; }; main() { struct t x; x.s.s = 1; }
abbrev text1 : Row
text1 = (
  record {
    names = 5;
    formats = [];
    items = (item.Structure (x 1 8 1) (record {
      of = (type_name.Number numeric.Int);
      name = (x 1 16 2);
      length =
          None;
    } ∷ []) ∷ item.Structure (x 1 29 3) (record { of = (type_name.Structure (x 1 40 1)); name = (x 1 42 1); length = None } ∷ []) ∷ item.Function
        (type_name.Number numeric.Int) (x 1 48 0) [] ((statement.Declare (record {
          of = (type_name.Structure (x 1 64 3));
          name = (x 1 66 4);
          form =
              form.Plain;
        })) ∷ (statement.Evaluate (phrase.Assign (phrase.Chain (phrase.Name (x 1 69 4)) (step.Field (x 1 71 1) ∷ step.Field (x 1 73 1) ∷ []))
        (phrase.Number (at 1 77) (pos 1) numeric.Int))) ∷ []) ∷ []);
  },
  Some (fault_at 1 73 kind.UnknownField),
)

-- struct s { int a; }; struct s f() { } main() { f().f; }
abbrev text2 : Row
text2 = (
  record {
    names = 4;
    formats = [];
    items = (item.Structure (x 1 8 1) (record {
      of = (type_name.Number numeric.Int);
      name = (x 1 16 2);
      length =
          None;
    } ∷ []) ∷ item.Function (type_name.Structure (x 1 29 1)) (x 1 31 3) [] [] ∷ item.Function (type_name.Number numeric.Int) (x 1 39 0) []
        ((statement.Evaluate (phrase.Chain (phrase.Call (x 1 48 3) []) (step.Field (x 1 52 3) ∷ []))) ∷ []) ∷ []);
  },
  Some (fault_at 1 52
      kind.UnknownField),
)

abbrev pub rows : List Row
rows = text0 ∷ text1 ∷ text2 ∷ []
