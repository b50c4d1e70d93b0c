-- 12 BodyNames
use Rattle.std.specs.Prelude.{List, [], ◌∷◌, Some}
use Rattle.cc_base.specs.declared.numbers.NumberType.TheVariants as numeric
use Rattle.cc_faults.specs.declared.fault.TypeKind.TheVariants as kind
use Rattle.cc_faults.specs.declared.plain.Item.TheVariants as item
use Rattle.cc_faults.specs.declared.plain.Phrase.TheVariants as phrase
use Rattle.cc_faults.specs.declared.plain.Statement.TheVariants as statement
use Rattle.cc_faults.specs.declared.plain.Step.TheVariants as step
use Rattle.cc_faults.specs.declared.plain.TypeName.TheVariants as type_name
use Rattle.types_tests.specs.Seen.{Row, at, fault_at, x}

-- process spec p(int a); process body p() { } main() { }
abbrev text0 : Row
text0 = (
  record {
    names = 2;
    formats = [];
    items = (item.Specification (x 1 14 1) ((type_name.Number numeric.Int) ∷ []) [] ∷ item.Body (x 1 37 1) [] [] ∷
        item.Function (type_name.Number numeric.Int) (x 1 45 0) [] [] ∷ []);
  },
  Some (fault_at 1 37 kind.BodyNames),
)

-- process spec p(); process body p(x) { x.y; } main() { }
abbrev text1 : Row
text1 = (
  record {
    names = 4;
    formats = [];
    items = (item.Specification (x 1 14 1) [] [] ∷ item.Body (x 1 32 1) ((x 1 34 2) ∷ []) ((statement.Evaluate
        (phrase.Chain (phrase.Name (x 1 39 2)) (step.Field (x 1 41 3) ∷ []))) ∷ []) ∷ item.Function (type_name.Number numeric.Int) (x 1 46 0) [] [] ∷ []);
  },
  Some (fault_at 1 32 kind.BodyNames),
)

-- process body p(a, b, c) { } process spec p(int a, int b); main() { }
abbrev text2 : Row
text2 = (
  record {
    names = 5;
    formats = [];
    items = (item.Body (x 1 14 1) ((x 1 16 2) ∷ (x 1 19 3) ∷ (x 1 22 4) ∷ []) [] ∷ item.Specification (x 1 42 1)
        ((type_name.Number numeric.Int) ∷ (type_name.Number numeric.Int) ∷ []) [] ∷ item.Function (type_name.Number numeric.Int) (x 1 59 0) [] [] ∷ []);
  },
  Some (fault_at 1 14 kind.BodyNames),
)

-- process body p(a) { } process spec p(void x, int y); main() { }
abbrev text3 : Row
text3 = (
  record {
    names = 3;
    formats = [];
    items = (item.Body (x 1 14 1) ((x 1 16 2) ∷ []) [] ∷ item.Specification (x 1 36 1) ((type_name.Void (at 1 38))
        ∷ (type_name.Number numeric.Int) ∷ []) [] ∷ item.Function (type_name.Number numeric.Int) (x 1 54 0) [] [] ∷ []);
  },
  Some (fault_at 1 14
      kind.BodyNames),
)

-- process body p(a, b) { } process spec p(void x, int y); main() { }
abbrev text4 : Row
text4 = (
  record {
    names = 4;
    formats = [];
    items = (item.Body (x 1 14 1) ((x 1 16 2) ∷ (x 1 19 3) ∷ []) [] ∷ item.Specification (x 1 39 1)
        ((type_name.Void (at 1 41)) ∷ (type_name.Number numeric.Int) ∷ []) [] ∷ item.Function (type_name.Number numeric.Int) (x 1 57 0) [] [] ∷ []);
  },
  Some (fault_at 1 41 kind.VoidHere),
)

abbrev pub rows : List Row
rows = text0 ∷ text1 ∷ text2 ∷ text3 ∷ text4 ∷ []
