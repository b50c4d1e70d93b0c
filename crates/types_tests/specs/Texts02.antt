-- 1 NoMain
use Rattle.std.specs.Prelude.{List, [], ◌∷◌, Some, None}
use Rattle.cc_base.specs.declared.numbers.NumberType.TheVariants as numeric
use Rattle.cc_faults.specs.declared.fault.TypeKind.TheVariants as kind
use Rattle.cc_faults.specs.declared.plain.Item.TheVariants as item
use Rattle.cc_faults.specs.declared.plain.Phrase.TheVariants as phrase
use Rattle.cc_faults.specs.declared.plain.Statement.TheVariants as statement
use Rattle.cc_faults.specs.declared.plain.TypeName.TheVariants as type_name
use Rattle.types_tests.specs.Seen.{Row, at, fault_at, x}

-- f() { }
abbrev text0 : Row
text0 =
    (record { names = 2; formats = []; items = (item.Function (type_name.Number numeric.Int) (x 1 1 1) [] [] ∷ []) }, Some (fault_at 1 1 kind.NoMain))

-- int x() { return y; }
abbrev text1 : Row
text1 = (
  record {
    names = 3;
    formats = [];
    items = (item.Function (type_name.Number numeric.Int) (x 1 5 1) [] ((statement.Return (at 1 11) (Some
        (phrase.Name (x 1 18 2)))) ∷ []) ∷ []);
  },
  Some (fault_at 1 1 kind.NoMain),
)

-- enum { main };
abbrev text2 : Row
text2 = (
  record { names = 1; formats = []; items = (item.Enumeration None (record { name = (x 1 8 0); value = None } ∷ []) ∷ []) },
  Some (fault_at 1 1
      kind.NoMain),
)

-- struct main { int a; };
abbrev text3 : Row
text3 = (
  record {
    names = 2;
    formats = [];
    items = (item.Structure (x 1 8 0) (record {
      of = (type_name.Number numeric.Int);
      name = (x 1 19 1);
      length =
          None;
    } ∷ []) ∷ []);
  },
  Some (fault_at 1 1 kind.NoMain),
)

-- void main() { }
abbrev text4 : Row
text4 =
    (record { names = 1; formats = []; items = (item.Function (type_name.Void (at 1 1)) (x 1 6 0) [] [] ∷ []) }, None)

abbrev pub rows : List Row
rows = text0 ∷ text1 ∷ text2 ∷ text3 ∷ text4 ∷ []
