-- 10 NoBody
use Rattle.std.specs.Prelude.{List, [], ◌∷◌, Some}
use Rattle.cc_base.specs.declared.numbers.NumberType.TheVariants as numeric
use Rattle.cc_faults.specs.declared.fault.TypeKind.TheVariants as kind
use Rattle.cc_faults.specs.declared.plain.Item.TheVariants as item
use Rattle.cc_faults.specs.declared.plain.Phrase.TheVariants as phrase
use Rattle.cc_faults.specs.declared.plain.Statement.TheVariants as statement
use Rattle.cc_faults.specs.declared.plain.TypeName.TheVariants as type_name
use Rattle.types_tests.specs.Seen.{Row, at, fault_at, x}

-- process spec p() { trans void t(); }; main() { create p(); }
abbrev text0 : Row
text0 = (
  record {
    names = 3;
    formats = [];
    items = (item.Specification (x 1 14 1) [] (record {
      result = (Some (type_name.Void (at 1 26)));
      name = (x 1 31
          2);
      parameters = [];
    } ∷ []) ∷ item.Function (type_name.Number numeric.Int) (x 1 39 0) [] ((statement.Evaluate (phrase.Create (at 1 48) (x 1 55 1)
        [])) ∷ []) ∷ []);
  },
  Some (fault_at 1 14 kind.NoBody),
)

-- main() { } process spec p(); process body p() { } process spec q();
abbrev text1 : Row
text1 = (
  record {
    names = 3;
    formats = [];
    items = (item.Function (type_name.Number numeric.Int) (x 1 1 0) [] [] ∷ item.Specification (x 1 25 1) [] [] ∷
        item.Body (x 1 43 1) [] [] ∷ item.Specification (x 1 64 2) [] [] ∷ []);
  },
  Some (fault_at 1 64 kind.NoBody),
)

-- process spec p(); process spec p(); main() { }
abbrev text2 : Row
text2 = (
  record {
    names = 2;
    formats = [];
    items = (item.Specification (x 1 14 1) [] [] ∷ item.Specification (x 1 32 1) [] [] ∷ item.Function
        (type_name.Number numeric.Int) (x 1 37 0) [] [] ∷ []);
  },
  Some (fault_at 1 14 kind.NoBody),
)

abbrev pub rows : List Row
rows = text0 ∷ text1 ∷ text2 ∷ []
