-- 19 UnknownTransaction
use Rattle.std.specs.Prelude.{List, [], ◌∷◌, Some, None}
use Rattle.cc_base.specs.declared.numbers.NumberType.TheVariants as numeric
use Rattle.cc_faults.specs.declared.fault.TypeKind.TheVariants as kind
use Rattle.cc_faults.specs.declared.plain.Choice.TheVariants as choice
use Rattle.cc_faults.specs.declared.plain.Item.TheVariants as item
use Rattle.cc_faults.specs.declared.plain.LocalForm.TheVariants as form
use Rattle.cc_faults.specs.declared.plain.Phrase.TheVariants as phrase
use Rattle.cc_faults.specs.declared.plain.Statement.TheVariants as statement
use Rattle.cc_faults.specs.declared.plain.Step.TheVariants as step
use Rattle.cc_faults.specs.declared.plain.TypeName.TheVariants as type_name
use Rattle.types_tests.specs.Seen.{Row, at, fault_at, x}

-- process spec p(); process body p() { } main() { process p x; x.t(u); }
abbrev text0 : Row
text0 = (
  record {
    names = 5;
    formats = [];
    items = (item.Specification (x 1 14 1) [] [] ∷ item.Body (x 1 32 1) [] [] ∷ item.Function (type_name.Number
        numeric.Int) (x 1 40 0) [] ((statement.Declare (record { of = (type_name.Process (x 1 57 1)); name = (x 1 59 2); form = form.Plain })) ∷
        (statement.Evaluate (phrase.Chain (phrase.Name (x 1 62 2)) (step.Call (x 1 64 3) ((phrase.Name (x 1 66 4)) ∷ []) ∷ []))) ∷ []) ∷ []);
  },
  Some
      (fault_at 1 64 kind.UnknownTransaction),
)

-- process spec p() { trans void t(); }; process body p() { accept u(x) { x.a; } } main() { }
abbrev text1 : Row
text1 = (
  record {
    names = 6;
    formats = [];
    items = (item.Specification (x 1 14 1) [] (record {
      result = (Some (type_name.Void (at 1 26)));
      name = (x 1 31
          2);
      parameters = [];
    } ∷ []) ∷ item.Body (x 1 52 1) [] ((statement.Accept (record {
      head = record {
        place = (at 1 58);
        name = (x 1 65 3);
        names =
            ((x 1 67 4) ∷ []);
        clauses = [];
      };
      block = ((statement.Evaluate (phrase.Chain (phrase.Name (x 1 72 4)) (step.Field (x 1 74 5) ∷ []))) ∷ []);
    })) ∷
        []) ∷ item.Function (type_name.Number numeric.Int) (x 1 81 0) [] [] ∷ []);
  },
  Some (fault_at 1 65 kind.UnknownTransaction),
)

-- process spec p() { trans process p t(); }; process body p() { } main() { process p x; x.t().s(); }
abbrev text2 : Row
text2 = (
  record {
    names = 5;
    formats = [];
    items = (item.Specification (x 1 14 1) [] (record {
      result = (Some (type_name.Process (x 1 34 1)));
      name = (x 1
          36 2);
      parameters = [];
    } ∷ []) ∷ item.Body (x 1 57 1) [] [] ∷ item.Function (type_name.Number numeric.Int) (x 1 65 0) [] ((statement.Declare
        (record { of = (type_name.Process (x 1 82 1)); name = (x 1 84 3); form = form.Plain })) ∷ (statement.Evaluate (phrase.Chain (phrase.Name (x 1 87
        3)) (step.Call (x 1 89 2) [] ∷ step.Call (x 1 93 4) [] ∷ []))) ∷ []) ∷ []);
  },
  Some (fault_at 1 93 kind.UnknownTransaction),
)

-- process spec p() { trans void t(); }; process spec q(); process body p() { } process body q() { select { accept t(); } } main() { }
abbrev text3 : Row
text3 = (
  record {
    names = 4;
    formats = [];
    items = (item.Specification (x 1 14 1) [] (record {
      result = (Some (type_name.Void (at 1 26)));
      name = (x 1 31
          2);
      parameters = [];
    } ∷ []) ∷ item.Specification (x 1 52 3) [] [] ∷ item.Body (x 1 70 1) [] [] ∷ item.Body (x 1 91 3) [] ((statement.Select (at 1
        97) (record {
          guard = None;
          choice = (choice.Accept (record {
            head = record { place = (at 1 106); name = (x 1 113 2); names = []; clauses = [] };
            block = [];
          }));
          entries = [];
        } ∷ [])) ∷ []) ∷ item.Function (type_name.Number numeric.Int) (x 1 122 0) [] [] ∷ []);
  },
  Some (fault_at 1 113
      kind.UnknownTransaction),
)

abbrev pub rows : List Row
rows = text0 ∷ text1 ∷ text2 ∷ text3 ∷ []
