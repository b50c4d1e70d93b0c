-- 28 BadFormat
use Rattle.std.specs.Prelude.{pos, List, [], ◌∷◌, Some, None}
use Rattle.cc_base.specs.declared.numbers.NumberType.TheVariants as numeric
use Rattle.cc_faults.specs.declared.fault.TypeKind.TheVariants as kind
use Rattle.cc_faults.specs.declared.plain.Item.TheVariants as item
use Rattle.cc_faults.specs.declared.plain.LocalForm.TheVariants as form
use Rattle.cc_faults.specs.declared.plain.Phrase.TheVariants as phrase
use Rattle.cc_faults.specs.declared.plain.Statement.TheVariants as statement
use Rattle.cc_faults.specs.declared.plain.TypeName.TheVariants as type_name
use Rattle.types_tests.specs.Seen.{Row, at, fault_at, x}

-- main() { printf("%5d", 1); }
abbrev text0 : Row
text0 = (
  record {
    names = 1;
    formats = ((37 ∷ 53 ∷ 100 ∷ []) ∷ []);
    items = (item.Function (type_name.Number numeric.Int) (x 1 1 0) []
        ((statement.Evaluate (phrase.PrintFormat (at 1 10) (record { place = (at 1 17); number = 0 }) ((phrase.Number (at 1 24) (pos 1) numeric.Int) ∷
        []))) ∷ []) ∷ []);
  },
  Some (fault_at 1 17 kind.BadFormat),
)

-- main() { printf("%l"); }
abbrev text1 : Row
text1 = (
  record {
    names = 1;
    formats = ((37 ∷ 108 ∷ []) ∷ []);
    items = (item.Function (type_name.Number numeric.Int) (x 1 1 0) [] ((statement.Evaluate
        (phrase.PrintFormat (at 1 10) (record { place = (at 1 17); number = 0 }) [])) ∷ []) ∷ []);
  },
  Some (fault_at 1 17 kind.BadFormat),
)

-- main() { printf("100%", 1, 2); }
abbrev text2 : Row
text2 = (
  record {
    names = 1;
    formats = ((49 ∷ 48 ∷ 48 ∷ 37 ∷ []) ∷ []);
    items = (item.Function (type_name.Number numeric.Int) (x 1 1 0) []
        ((statement.Evaluate (phrase.PrintFormat (at 1 10) (record { place = (at 1 17); number = 0 }) ((phrase.Number (at 1 25) (pos 1) numeric.Int) ∷
        (phrase.Number (at 1 28) (pos 2) numeric.Int) ∷ []))) ∷ []) ∷ []);
  },
  Some (fault_at 1 17 kind.BadFormat),
)

-- struct s { int a; }; main() { struct s x; printf("%", x); }
abbrev text3 : Row
text3 = (
  record {
    names = 4;
    formats = ((37 ∷ []) ∷ []);
    items = (item.Structure (x 1 8 1) (record {
      of = (type_name.Number numeric.Int);
      name = (x 1 16
          2);
      length = None;
    } ∷ []) ∷ item.Function (type_name.Number numeric.Int) (x 1 22 0) [] ((statement.Declare (record {
      of = (type_name.Structure (x
          1 38 1));
      name = (x 1 40 3);
      form = form.Plain;
    })) ∷ (statement.Evaluate (phrase.PrintFormat (at 1 43) (record { place = (at 1 50); number = 0 })
        ((phrase.Name (x 1 55 3)) ∷ []))) ∷ []) ∷ []);
  },
  Some (fault_at 1 50 kind.BadFormat),
)

abbrev pub rows : List Row
rows = text0 ∷ text1 ∷ text2 ∷ text3 ∷ []
