-- the worked texts
use Rattle.std.specs.Prelude.{pos, List, [], ◌∷◌, Some, None}
use Rattle.cc_base.specs.declared.numbers.Comparison.TheVariants as comparison
use Rattle.cc_base.specs.declared.numbers.NumberType.TheVariants as numeric
use Rattle.cc_base.specs.declared.numbers.Operator.TheVariants as operator
use Rattle.cc_faults.specs.declared.plain.Choice.TheVariants as choice
use Rattle.cc_faults.specs.declared.plain.Item.TheVariants as item
use Rattle.cc_faults.specs.declared.plain.LocalForm.TheVariants as form
use Rattle.cc_faults.specs.declared.plain.Phrase.TheVariants as phrase
use Rattle.cc_faults.specs.declared.plain.Statement.TheVariants as statement
use Rattle.cc_faults.specs.declared.plain.Step.TheVariants as step
use Rattle.cc_faults.specs.declared.plain.StepWord.TheVariants as step_word
use Rattle.cc_faults.specs.declared.plain.TypeName.TheVariants as type_name
use Rattle.types_tests.specs.Seen.{Row, at, x}

-- (a longer text)
abbrev text0 : Row
text0 = (
  record {
    names = 6;
    formats = ((116 ∷ 37 ∷ 100 ∷ []) ∷ (117 ∷ 37 ∷ 100 ∷ []) ∷ []);
    items = (item.Specification (x 1 14 1) [] (record {
      result =
          (Some (type_name.Number numeric.Int));
      name = (x 1 30 2);
      parameters = [];
    } ∷ record {
      result = (Some (type_name.Number numeric.Int));
      name = (x 1
          45 3);
      parameters = [];
    } ∷ []) ∷ item.Body (x 1 66 1) [] ((statement.Accept (record {
      head = record {
        place = (at 1 72);
        name = (x 1 79 3);
        names
            = [];
        clauses = [];
      };
      block = ((statement.Accept (record {
        head = record { place = (at 1 85); name = (x 1 92 2); names = []; clauses = [] };
        block
            = ((statement.TransactionReturn (at 1 98) (Some (phrase.Number (at 1 106) (pos 1) numeric.Int))) ∷ []);
      })) ∷ (statement.TransactionReturn (at 1
          111) (Some (phrase.Number (at 1 119) (pos 2) numeric.Int))) ∷ []);
    })) ∷ []) ∷ item.Specification (x 1 139 4) ((type_name.Process (x 1 149 1)) ∷
        []) [] ∷ item.Body (x 1 168 4) ((x 1 170 5) ∷ []) ((statement.Evaluate (phrase.PrintFormat (at 1 175) (record { place = (at 1 182); number = 0 })
        ((phrase.Chain (phrase.Name (x 1 189 5)) (step.Call (x 1 191 2) [] ∷ [])) ∷ []))) ∷ []) ∷ item.Function (type_name.Number numeric.Int) (x 1 199 0)
        [] ((statement.Declare (record { of = (type_name.Process (x 1 216 1)); name = (x 1 218 5); form = form.Plain })) ∷ (statement.Evaluate
        (phrase.Assign (phrase.Name (x 1 221 5)) (phrase.Create (at 1 225) (x 1 232 1) []))) ∷ (statement.Evaluate (phrase.Create (at 1 237) (x 1 244 4)
        ((phrase.Name (x 1 246 5)) ∷ []))) ∷ (statement.Evaluate (phrase.PrintFormat (at 1 250) (record { place = (at 1 257); number = 1 }) ((phrase.Chain
        (phrase.Name (x 1 264 5)) (step.Call (x 1 266 3) [] ∷ [])) ∷ []))) ∷ []) ∷ []);
  },
  None,
)

-- f(int n) { if (n) return f(n - 1); return 0; } main() { f(999); }
abbrev text1 : Row
text1 = (
  record {
    names = 3;
    formats = [];
    items = (item.Function (type_name.Number numeric.Int) (x 1 1 1) (record {
      of = (type_name.Number numeric.Int);
      name = (x 1 7 2);
    } ∷ []) ((statement.If (phrase.Name (x 1 16 2)) (statement.Return (at 1 19) (Some (phrase.Call (x 1 26 1) ((phrase.Arithmetic
        (phrase.Name (x 1 28 2)) (record { operator = operator.Subtract; operand = (phrase.Number (at 1 32) (pos 1) numeric.Int) } ∷ [])) ∷ []))))) ∷
        (statement.Return (at 1 36) (Some (phrase.Number (at 1 43) (pos 0) numeric.Int))) ∷ []) ∷ item.Function (type_name.Number numeric.Int) (x 1 48 0)
        [] ((statement.Evaluate (phrase.Call (x 1 57 1) ((phrase.Number (at 1 59) (pos 999) numeric.Int) ∷ []))) ∷ []) ∷ []);
  },
  None,
)

-- (a longer text)
abbrev text2 : Row
text2 = (
  record {
    names = 10;
    formats = [];
    items = (item.Specification (x 1 14 1) ((type_name.Process (x 1 28 1)) ∷ (type_name.Number numeric.Int) ∷ [])
        (record { result = (Some (type_name.Void (at 1 58))); name = (x 1 63 2); parameters = ((type_name.Number numeric.Int) ∷ []) } ∷ []) ∷ item.Body (x
        2 14 1) ((x 2 20 3) ∷ (x 2 26 4) ∷ []) ((statement.Declare (record { of = (type_name.Number numeric.Int); name = (x 3 7 5); form = form.Plain }))
        ∷ (statement.While (phrase.Number (at 4 10) (pos 1) numeric.Int) (statement.Select (at 4 13) (record {
          guard = None;
          choice = (choice.Accept
              (record {
                head = record { place = (at 5 5); name = (x 5 12 2); names = ((x 5 16 6) ∷ []); clauses = [] };
                block = ((statement.Evaluate
                    (phrase.Assign (phrase.Name (x 5 21 5)) (phrase.Name (x 5 25 6)))) ∷ (statement.TransactionReturn (at 5 28) None) ∷ []);
              }));
          entries =
              ((statement.IfElse (phrase.Name (x 6 9 4)) (statement.Evaluate (phrase.PutChar (at 6 15) (phrase.Name (x 6 23 5)))) (statement.Evaluate
              (phrase.Chain (phrase.Name (x 6 32 3)) (step.Call (x 6 37 2) ((phrase.Name (x 6 41 5)) ∷ []) ∷ [])))) ∷ []);
        } ∷ record {
          guard = None;
          choice =
              choice.Terminate;
          entries = [];
        } ∷ []))) ∷ []) ∷ item.Function (type_name.Number numeric.Int) (x 10 1 0) [] ((statement.Declare (record {
          of =
              (type_name.Process (x 11 11 1));
          name = (x 11 17 7);
          form = form.Plain;
        })) ∷ (statement.Declare (record {
          of = (type_name.Process (x 11 28 1));
          name = (x 11 34 8);
          form = form.Plain;
        })) ∷ (statement.Declare (record {
          of = (type_name.Number numeric.Int);
          name = (x 11 44 9);
          form =
              form.Plain;
        })) ∷ (statement.Declare (record { of = (type_name.Number numeric.Int); name = (x 11 51 5); form = form.Plain })) ∷ (statement.Evaluate
        (phrase.Assign (phrase.Name (x 12 3 7)) (phrase.Create (at 12 7) (x 12 14 1) ((phrase.Name (x 12 20 8)) ∷ (phrase.Number (at 12 26) (pos 1)
        numeric.Int) ∷ [])))) ∷ (statement.For (Some (phrase.Assign (phrase.Name (x 13 8 9)) (phrase.Number (at 13 12) (pos 1) numeric.Int))) (Some
        (phrase.Compare (phrase.Name (x 13 15 9)) (record { comparison = comparison.Less; operand = (phrase.Number (at 13 19) (pos 4) numeric.Int) } ∷
        []))) (Some (phrase.StepAfter (phrase.Name (x 13 22 9)) step_word.Up)) (statement.Evaluate (phrase.Assign (phrase.Name (x 13 27 7)) (phrase.Create
        (at 13 31) (x 13 38 1) ((phrase.Name (x 13 44 7)) ∷ (phrase.Number (at 13 47) (pos 0) numeric.Int) ∷ []))))) ∷ (statement.While (phrase.Compare
        (phrase.Parenthesized (at 14 10) (phrase.Assign (phrase.Name (x 14 11 5)) (phrase.GetChar (at 14 15)))) (record {
          comparison =
              comparison.Different;
          operand = (phrase.Negate (at 14 29) (phrase.Number (at 14 30) (pos 1) numeric.Int));
        } ∷ [])) (statement.Evaluate
        (phrase.Chain (phrase.Name (x 14 33 7)) (step.Call (x 14 35 2) ((phrase.Name (x 14 39 5)) ∷ []) ∷ [])))) ∷ []) ∷ []);
  },
  None,
)

abbrev pub rows : List Row
rows = text0 ∷ text1 ∷ text2 ∷ []
