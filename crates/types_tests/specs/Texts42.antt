-- an array stands as the target of `=`
use Rattle.std.specs.Prelude.{pos, List, [], ◌∷◌, Some}
use Rattle.cc_base.specs.declared.numbers.NumberType.TheVariants as numeric
use Rattle.cc_faults.specs.declared.fault.TypeKind.TheVariants as kind
use Rattle.cc_faults.specs.declared.plain.ClauseWord.TheVariants as clause_word
use Rattle.cc_faults.specs.declared.plain.Item.TheVariants as item
use Rattle.cc_faults.specs.declared.plain.Length.TheVariants as some_length
use Rattle.cc_faults.specs.declared.plain.LocalForm.TheVariants as form
use Rattle.cc_faults.specs.declared.plain.Phrase.TheVariants as phrase
use Rattle.cc_faults.specs.declared.plain.Statement.TheVariants as statement
use Rattle.cc_faults.specs.declared.plain.Step.TheVariants as step
use Rattle.cc_faults.specs.declared.plain.TypeName.TheVariants as type_name
use Rattle.types_tests.specs.Seen.{Row, at, fault_at, x}

-- process spec p() { trans void t(int a); }; process body p() { int b[2]; accept t(a) suchthat (b = 1); } main() { }
abbrev text0 : Row
text0 = (
  record {
    names = 5;
    formats = [];
    items = (item.Specification (x 1 14 1) [] (record {
      result = (Some (type_name.Void (at 1 26)));
      name = (x 1 31
          2);
      parameters = ((type_name.Number numeric.Int) ∷ []);
    } ∷ []) ∷ item.Body (x 1 57 1) [] ((statement.Declare (record {
      of = (type_name.Number
          numeric.Int);
      name = (x 1 67 3);
      form = form.Array (some_length.Number (at 1 69) (pos 2));
    })) ∷ (statement.Accept (record {
      head = record {
        place
            = (at 1 73);
        name = (x 1 80 2);
        names = ((x 1 82 4) ∷ []);
        clauses = (record {
          word = clause_word.SuchThat;
          expression = (phrase.Assign
              (phrase.Name (x 1 95 3)) (phrase.Number (at 1 99) (pos 1) numeric.Int));
        } ∷ []);
      };
      block = [];
    })) ∷ []) ∷ item.Function (type_name.Number
        numeric.Int) (x 1 105 0) [] [] ∷ []);
  },
  Some (fault_at 1 95 kind.Mismatch),
)

-- struct s { int a[2]; }; struct s f() { } main() { f().a = 1; }
abbrev text1 : Row
text1 = (
  record {
    names = 4;
    formats = [];
    items = (item.Structure (x 1 8 1) (record {
      of = (type_name.Number numeric.Int);
      name = (x 1 16 2);
      length =
          (Some (some_length.Number (at 1 18) (pos 2)));
    } ∷ []) ∷ item.Function (type_name.Structure (x 1 32 1)) (x 1 34 3) [] [] ∷ item.Function
        (type_name.Number numeric.Int) (x 1 42 0) [] ((statement.Evaluate (phrase.Assign (phrase.Chain (phrase.Call (x 1 51 3) []) (step.Field (x 1 55 2)
        ∷ [])) (phrase.Number (at 1 59) (pos 1) numeric.Int))) ∷ []) ∷ []);
  },
  Some (fault_at 1 51 kind.Mismatch),
)

-- struct s { int a[2]; }; main() { struct s x; x.a = x.a; }
abbrev text2 : Row
text2 = (
  record {
    names = 4;
    formats = [];
    items = (item.Structure (x 1 8 1) (record {
      of = (type_name.Number numeric.Int);
      name = (x 1 16 2);
      length =
          (Some (some_length.Number (at 1 18) (pos 2)));
    } ∷ []) ∷ item.Function (type_name.Number numeric.Int) (x 1 25 0) [] ((statement.Declare (record {
      of = (type_name.Structure (x 1 41 1));
      name = (x 1 43 3);
      form = form.Plain;
    })) ∷ (statement.Evaluate (phrase.Assign (phrase.Chain (phrase.Name (x
        1 46 3)) (step.Field (x 1 48 2) ∷ [])) (phrase.Chain (phrase.Name (x 1 52 3)) (step.Field (x 1 54 2) ∷ [])))) ∷ []) ∷ []);
  },
  Some (fault_at 1 46
      kind.Mismatch),
)

abbrev pub rows : List Row
rows = text0 ∷ text1 ∷ text2 ∷ []
