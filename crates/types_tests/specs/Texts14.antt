-- 11 NoSpec
use Rattle.std.specs.Prelude.{List, [], ◌∷◌, Some, None}
use Rattle.cc_base.specs.declared.numbers.NumberType.TheVariants as numeric
use Rattle.cc_faults.specs.declared.fault.TypeKind.TheVariants as kind
use Rattle.cc_faults.specs.declared.plain.Item.TheVariants as item
use Rattle.cc_faults.specs.declared.plain.Phrase.TheVariants as phrase
use Rattle.cc_faults.specs.declared.plain.Statement.TheVariants as statement
use Rattle.cc_faults.specs.declared.plain.Step.TheVariants as step
use Rattle.cc_faults.specs.declared.plain.TypeName.TheVariants as type_name
use Rattle.types_tests.specs.Seen.{Row, at, fault_at, x}

-- process body p() { } main() { }
abbrev text0 : Row
text0 = (
  record { names = 2; formats = []; items = (item.Body (x 1 14 1) [] [] ∷ item.Function (type_name.Number numeric.Int) (x 1 22 0) [] [] ∷ []) },
  Some (fault_at 1 14 kind.NoSpec),
)

-- main() { } process body p(x) { x.u(); accept t(); }
abbrev text1 : Row
text1 = (
  record {
    names = 5;
    formats = [];
    items = (item.Function (type_name.Number numeric.Int) (x 1 1 0) [] [] ∷ item.Body (x 1 25 1) ((x 1 27 2) ∷ [])
        ((statement.Evaluate (phrase.Chain (phrase.Name (x 1 32 2)) (step.Call (x 1 34 3) [] ∷ []))) ∷ (statement.Accept (record {
          head = record {
            place =
                (at 1 39);
            name = (x 1 46 4);
            names = [];
            clauses = [];
          };
          block = [];
        })) ∷ []) ∷ []);
  },
  Some (fault_at 1 25 kind.NoSpec),
)

-- process spec p(); process body p() { } process body q(a) { return; } main() { }
abbrev text2 : Row
text2 = (
  record {
    names = 4;
    formats = [];
    items = (item.Specification (x 1 14 1) [] [] ∷ item.Body (x 1 32 1) [] [] ∷ item.Body (x 1 53 2) ((x 1 55 3) ∷
        []) ((statement.Return (at 1 60) None) ∷ []) ∷ item.Function (type_name.Number numeric.Int) (x 1 70 0) [] [] ∷ []);
  },
  Some (fault_at 1 53
      kind.NoSpec),
)

-- process body p(x) { putchar(x); } main() { } process spec p(int a);
abbrev text3 : Row
text3 = (
  record {
    names = 3;
    formats = [];
    items = (item.Body (x 1 14 1) ((x 1 16 2) ∷ []) ((statement.Evaluate (phrase.PutChar (at 1 21) (phrase.Name (x
        1 29 2)))) ∷ []) ∷ item.Function (type_name.Number numeric.Int) (x 1 35 0) [] [] ∷ item.Specification (x 1 59 1) ((type_name.Number numeric.Int) ∷
        []) [] ∷ []);
  },
  None,
)

abbrev pub rows : List Row
rows = text0 ∷ text1 ∷ text2 ∷ text3 ∷ []
