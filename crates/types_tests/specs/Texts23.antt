-- 16 NotAFunction
use Rattle.std.specs.Prelude.{pos, List, [], ◌∷◌, Some, None}
use Rattle.cc_base.specs.declared.numbers.NumberType.TheVariants as numeric
use Rattle.cc_faults.specs.declared.fault.TypeKind.TheVariants as kind
use Rattle.cc_faults.specs.declared.plain.Item.TheVariants as item
use Rattle.cc_faults.specs.declared.plain.LocalForm.TheVariants as form
use Rattle.cc_faults.specs.declared.plain.Phrase.TheVariants as phrase
use Rattle.cc_faults.specs.declared.plain.Statement.TheVariants as statement
use Rattle.cc_faults.specs.declared.plain.TypeName.TheVariants as type_name
use Rattle.types_tests.specs.Seen.{Row, at, fault_at, x}

-- main() { int x; x(); }
abbrev text0 : Row
text0 = (
  record {
    names = 2;
    formats = [];
    items = (item.Function (type_name.Number numeric.Int) (x 1 1 0) [] ((statement.Declare (record {
      of =
          (type_name.Number numeric.Int);
      name = (x 1 14 1);
      form = form.Plain;
    })) ∷ (statement.Evaluate (phrase.Call (x 1 17 1) [])) ∷ []) ∷ []);
  },
  Some
      (fault_at 1 17 kind.NotAFunction),
)

-- main() { main(); }
abbrev text1 : Row
text1 = (
  record {
    names = 1;
    formats = [];
    items = (item.Function (type_name.Number numeric.Int) (x 1 1 0) [] ((statement.Evaluate (phrase.Call (x 1 10 0)
        [])) ∷ []) ∷ []);
  },
  Some (fault_at 1 10 kind.NotAFunction),
)

-- enum { A }; main() { A(1); }
abbrev text2 : Row
text2 = (
  record {
    names = 2;
    formats = [];
    items = (item.Enumeration None (record { name = (x 1 8 1); value = None } ∷ []) ∷ item.Function
        (type_name.Number numeric.Int) (x 1 13 0) [] ((statement.Evaluate (phrase.Call (x 1 22 1) ((phrase.Number (at 1 24) (pos 1) numeric.Int) ∷ []))) ∷
        []) ∷ []);
  },
  Some (fault_at 1 22 kind.NotAFunction),
)

-- f() { } main() { int f; f(); }
abbrev text3 : Row
text3 = (
  record {
    names = 2;
    formats = [];
    items = (item.Function (type_name.Number numeric.Int) (x 1 1 1) [] [] ∷ item.Function (type_name.Number
        numeric.Int) (x 1 9 0) [] ((statement.Declare (record { of = (type_name.Number numeric.Int); name = (x 1 22 1); form = form.Plain })) ∷
        (statement.Evaluate (phrase.Call (x 1 25 1) [])) ∷ []) ∷ []);
  },
  Some (fault_at 1 25 kind.NotAFunction),
)

-- f(int g) { g(u); } g() { } main() { }
abbrev text4 : Row
text4 = (
  record {
    names = 4;
    formats = [];
    items = (item.Function (type_name.Number numeric.Int) (x 1 1 1) (record {
      of = (type_name.Number numeric.Int);
      name = (x 1 7 2);
    } ∷ []) ((statement.Evaluate (phrase.Call (x 1 12 2) ((phrase.Name (x 1 14 3)) ∷ []))) ∷ []) ∷ item.Function (type_name.Number
        numeric.Int) (x 1 20 2) [] [] ∷ item.Function (type_name.Number numeric.Int) (x 1 28 0) [] [] ∷ []);
  },
  Some (fault_at 1 12 kind.NotAFunction),
)

abbrev pub rows : List Row
rows = text0 ∷ text1 ∷ text2 ∷ text3 ∷ text4 ∷ []
