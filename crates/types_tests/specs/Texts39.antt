-- a declaration with a fault, and names of the whole text
use Rattle.std.specs.Prelude.{pos, false, List, [], ◌∷◌, Some, None}
use Rattle.cc_base.specs.declared.numbers.NumberType.TheVariants as numeric
use Rattle.cc_faults.specs.declared.fault.TypeKind.TheVariants as kind
use Rattle.cc_faults.specs.declared.plain.Item.TheVariants as item
use Rattle.cc_faults.specs.declared.plain.Length.TheVariants as some_length
use Rattle.cc_faults.specs.declared.plain.LocalForm.TheVariants as form
use Rattle.cc_faults.specs.declared.plain.Phrase.TheVariants as phrase
use Rattle.cc_faults.specs.declared.plain.Statement.TheVariants as statement
use Rattle.cc_faults.specs.declared.plain.Step.TheVariants as step
use Rattle.cc_faults.specs.declared.plain.TypeName.TheVariants as type_name
use Rattle.types_tests.specs.Seen.{Row, at, fault_at, x}

-- enum { A = 2147483647, B, C, D = C }; main() { int x[C]; }
abbrev text0 : Row
text0 = (
  record {
    names = 6;
    formats = [];
    items = (item.Enumeration None (record {
      name = (x 1 8 1);
      value = (Some (record {
        negative = false;
        length =
            (some_length.Number (at 1 12) (pos 2147483647));
      }));
    } ∷ record { name = (x 1 24 2); value = None } ∷ record { name = (x 1 27 3); value = None } ∷
        record { name = (x 1 30 4); value = (Some (record { negative = false; length = (some_length.Name (x 1 34 3)) })) } ∷ []) ∷ item.Function
        (type_name.Number numeric.Int) (x 1 39 0) [] ((statement.Declare (record {
          of = (type_name.Number numeric.Int);
          name = (x 1 52 5);
          form =
              form.Array (some_length.Name (x 1 54 3));
        })) ∷ []) ∷ []);
  },
  Some (fault_at 1 24 kind.EnumRange),
)

-- struct s { struct t a; }; main() { struct s x; x.b; }
abbrev text1 : Row
text1 = (
  record {
    names = 6;
    formats = [];
    items = (item.Structure (x 1 8 1) (record {
      of = (type_name.Structure (x 1 19 2));
      name = (x 1 21 3);
      length =
          None;
    } ∷ []) ∷ item.Function (type_name.Number numeric.Int) (x 1 27 0) [] ((statement.Declare (record {
      of = (type_name.Structure (x 1 43 1));
      name = (x 1 45 4);
      form = form.Plain;
    })) ∷ (statement.Evaluate (phrase.Chain (phrase.Name (x 1 48 4)) (step.Field (x 1 50 5) ∷ []))) ∷ []) ∷ []);
  },
  Some (fault_at 1 19 kind.UnknownType),
)

abbrev pub rows : List Row
rows = text0 ∷ text1 ∷ []
