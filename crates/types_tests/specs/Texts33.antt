-- 27 NotTimed
use Rattle.std.specs.Prelude.{pos, List, [], ◌∷◌, Some, None}
use Rattle.cc_base.specs.declared.numbers.NumberType.TheVariants as numeric
use Rattle.cc_faults.specs.declared.fault.TypeKind.TheVariants as kind
use Rattle.cc_faults.specs.declared.plain.Item.TheVariants as item
use Rattle.cc_faults.specs.declared.plain.Length.TheVariants as some_length
use Rattle.cc_faults.specs.declared.plain.LocalForm.TheVariants as form
use Rattle.cc_faults.specs.declared.plain.Phrase.TheVariants as phrase
use Rattle.cc_faults.specs.declared.plain.Statement.TheVariants as statement
use Rattle.cc_faults.specs.declared.plain.Step.TheVariants as step
use Rattle.cc_faults.specs.declared.plain.StepWord.TheVariants as step_word
use Rattle.cc_faults.specs.declared.plain.TypeName.TheVariants as type_name
use Rattle.types_tests.specs.Seen.{Row, at, fault_at, x}

-- process spec p() { trans async t(); }; process body p() { } main() { process p x; within 1 ? x.t() : 0; }
abbrev text0 : Row
text0 = (
  record {
    names = 4;
    formats = [];
    items = (item.Specification (x 1 14 1) [] (record { result = None; name = (x 1 32 2); parameters = [] } ∷ []) ∷
        item.Body (x 1 53 1) [] [] ∷ item.Function (type_name.Number numeric.Int) (x 1 61 0) [] ((statement.Declare (record {
          of = (type_name.Process (x 1
              78 1));
          name = (x 1 80 3);
          form = form.Plain;
        })) ∷ (statement.Evaluate (phrase.Within (at 1 83) (phrase.Number (at 1 90) (pos 1) numeric.Int)
        (phrase.Chain (phrase.Name (x 1 94 3)) (step.Call (x 1 96 2) [] ∷ [])) (phrase.Number (at 1 102) (pos 0) numeric.Int))) ∷ []) ∷ []);
  },
  Some
      (fault_at 1 94 kind.NotTimed),
)

-- main() { int x; within 1 ? x : 0; }
abbrev text1 : Row
text1 = (
  record {
    names = 2;
    formats = [];
    items = (item.Function (type_name.Number numeric.Int) (x 1 1 0) [] ((statement.Declare (record {
      of =
          (type_name.Number numeric.Int);
      name = (x 1 14 1);
      form = form.Plain;
    })) ∷ (statement.Evaluate (phrase.Within (at 1 17) (phrase.Number (at 1 24)
        (pos 1) numeric.Int) (phrase.Name (x 1 28 1)) (phrase.Number (at 1 32) (pos 0) numeric.Int))) ∷ []) ∷ []);
  },
  Some (fault_at 1 28 kind.NotTimed),
)

-- process spec p() { trans int t(); }; process body p() { } main() { process p x; within 1 ? (x.t()) : 0; }
abbrev text2 : Row
text2 = (
  record {
    names = 4;
    formats = [];
    items = (item.Specification (x 1 14 1) [] (record {
      result = (Some (type_name.Number numeric.Int));
      name = (x 1
          30 2);
      parameters = [];
    } ∷ []) ∷ item.Body (x 1 51 1) [] [] ∷ item.Function (type_name.Number numeric.Int) (x 1 59 0) [] ((statement.Declare
        (record { of = (type_name.Process (x 1 76 1)); name = (x 1 78 3); form = form.Plain })) ∷ (statement.Evaluate (phrase.Within (at 1 81)
        (phrase.Number (at 1 88) (pos 1) numeric.Int) (phrase.Parenthesized (at 1 92) (phrase.Chain (phrase.Name (x 1 93 3)) (step.Call (x 1 95 2) [] ∷
        []))) (phrase.Number (at 1 102) (pos 0) numeric.Int))) ∷ []) ∷ []);
  },
  Some (fault_at 1 92 kind.NotTimed),
)

-- f() { } main() { within 1 ? f() : u; }
abbrev text3 : Row
text3 = (
  record {
    names = 3;
    formats = [];
    items = (item.Function (type_name.Number numeric.Int) (x 1 1 1) [] [] ∷ item.Function (type_name.Number
        numeric.Int) (x 1 9 0) [] ((statement.Evaluate (phrase.Within (at 1 18) (phrase.Number (at 1 25) (pos 1) numeric.Int) (phrase.Call (x 1 29 1) [])
        (phrase.Name (x 1 35 2)))) ∷ []) ∷ []);
  },
  Some (fault_at 1 29 kind.NotTimed),
)

-- process spec p() { trans int t(); }; process body p() { } main() { process p x; within 1 ? x.u() : x; }
abbrev text4 : Row
text4 = (
  record {
    names = 5;
    formats = [];
    items = (item.Specification (x 1 14 1) [] (record {
      result = (Some (type_name.Number numeric.Int));
      name = (x 1
          30 2);
      parameters = [];
    } ∷ []) ∷ item.Body (x 1 51 1) [] [] ∷ item.Function (type_name.Number numeric.Int) (x 1 59 0) [] ((statement.Declare
        (record { of = (type_name.Process (x 1 76 1)); name = (x 1 78 3); form = form.Plain })) ∷ (statement.Evaluate (phrase.Within (at 1 81)
        (phrase.Number (at 1 88) (pos 1) numeric.Int) (phrase.Chain (phrase.Name (x 1 92 3)) (step.Call (x 1 94 4) [] ∷ [])) (phrase.Name (x 1 100 3)))) ∷
        []) ∷ []);
  },
  Some (fault_at 1 94 kind.UnknownTransaction),
)

-- process spec p() { trans int t(); }; process body p() { } main() { process p x; within 1 ? x.t()++ : 0; }
abbrev text5 : Row
text5 = (
  record {
    names = 4;
    formats = [];
    items = (item.Specification (x 1 14 1) [] (record {
      result = (Some (type_name.Number numeric.Int));
      name = (x 1
          30 2);
      parameters = [];
    } ∷ []) ∷ item.Body (x 1 51 1) [] [] ∷ item.Function (type_name.Number numeric.Int) (x 1 59 0) [] ((statement.Declare
        (record { of = (type_name.Process (x 1 76 1)); name = (x 1 78 3); form = form.Plain })) ∷ (statement.Evaluate (phrase.Within (at 1 81)
        (phrase.Number (at 1 88) (pos 1) numeric.Int) (phrase.StepAfter (phrase.Chain (phrase.Name (x 1 92 3)) (step.Call (x 1 94 2) [] ∷ []))
        step_word.Up) (phrase.Number (at 1 102) (pos 0) numeric.Int))) ∷ []) ∷ []);
  },
  Some (fault_at 1 92 kind.NotAPlace),
)

-- (a longer text)
abbrev text6 : Row
text6 = (
  record {
    names = 6;
    formats = [];
    items = (item.Specification (x 1 14 1) [] (record {
      result = (Some (type_name.Number numeric.Int));
      name = (x 1
          30 2);
      parameters = [];
    } ∷ record { result = (Some (type_name.Process (x 1 49 1))); name = (x 1 51 3); parameters = [] } ∷ []) ∷ item.Body (x 1 72
        1) [] [] ∷ item.Function (type_name.Number numeric.Int) (x 1 80 0) [] ((statement.Declare (record {
          of = (type_name.Process (x 1 97 1));
          name = (x
              1 99 4);
          form = form.Array (some_length.Number (at 1 101) (pos 2));
        })) ∷ (statement.Declare (record {
          of = (type_name.Number numeric.Long);
          name =
              (x 1 110 5);
          form = form.Plain;
        })) ∷ (statement.Evaluate (phrase.Assign (phrase.Name (x 1 113 5)) (phrase.Within (at 1 117) (phrase.Number (at 1
        124) (pos 1) numeric.Long) (phrase.Chain (phrase.Name (x 1 129 4)) (step.Index (phrase.Number (at 1 131) (pos 1) numeric.Int) ∷ step.Call (x 1 134
        3) [] ∷ step.Call (x 1 138 3) [] ∷ step.Call (x 1 142 2) [] ∷ [])) (phrase.Number (at 1 148) (pos 97) numeric.Int)))) ∷ []) ∷ []);
  },
  None,
)

abbrev pub rows : List Row
rows = text0 ∷ text1 ∷ text2 ∷ text3 ∷ text4 ∷ text5 ∷ text6 ∷ []
