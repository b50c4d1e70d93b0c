-- 14 Mismatch
use Rattle.std.specs.Prelude.{pos, List, [], ◌∷◌, Some, None}
use Rattle.cc_base.specs.declared.numbers.NumberType.TheVariants as numeric
use Rattle.cc_faults.specs.declared.fault.TypeKind.TheVariants as kind
use Rattle.cc_faults.specs.declared.plain.Item.TheVariants as item
use Rattle.cc_faults.specs.declared.plain.Length.TheVariants as some_length
use Rattle.cc_faults.specs.declared.plain.LocalForm.TheVariants as form
use Rattle.cc_faults.specs.declared.plain.Phrase.TheVariants as phrase
use Rattle.cc_faults.specs.declared.plain.Statement.TheVariants as statement
use Rattle.cc_faults.specs.declared.plain.Step.TheVariants as step
use Rattle.cc_faults.specs.declared.plain.TypeName.TheVariants as type_name
use Rattle.types_tests.specs.Seen.{Row, at, fault_at, x}

-- void g() { } main() { 1 ? g() : g(); }
abbrev text0 : Row
text0 = (
  record {
    names = 2;
    formats = [];
    items = (item.Function (type_name.Void (at 1 1)) (x 1 6 1) [] [] ∷ item.Function (type_name.Number numeric.Int)
        (x 1 14 0) [] ((statement.Evaluate (phrase.Choose (phrase.Number (at 1 23) (pos 1) numeric.Int) (phrase.Call (x 1 27 1) []) (phrase.Call (x 1 33
        1) []))) ∷ []) ∷ []);
  },
  None,
)

-- struct s { int a; }; main() { struct s x; x ? 1 : 2; }
abbrev text1 : Row
text1 = (
  record {
    names = 4;
    formats = [];
    items = (item.Structure (x 1 8 1) (record {
      of = (type_name.Number numeric.Int);
      name = (x 1 16 2);
      length =
          None;
    } ∷ []) ∷ item.Function (type_name.Number numeric.Int) (x 1 22 0) [] ((statement.Declare (record {
      of = (type_name.Structure (x 1 38 1));
      name = (x 1 40 3);
      form = form.Plain;
    })) ∷ (statement.Evaluate (phrase.Choose (phrase.Name (x 1 43 3)) (phrase.Number (at 1 47) (pos 1)
        numeric.Int) (phrase.Number (at 1 51) (pos 2) numeric.Int))) ∷ []) ∷ []);
  },
  Some (fault_at 1 43 kind.Mismatch),
)

-- process spec p() { trans int t(); }; process body p() { } main() { process p x; within x ? x.t() : 0; }
abbrev text2 : Row
text2 = (
  record {
    names = 4;
    formats = [];
    items = (item.Specification (x 1 14 1) [] (record {
      result = (Some (type_name.Number numeric.Int));
      name = (x 1
          30 2);
      parameters = [];
    } ∷ []) ∷ item.Body (x 1 51 1) [] [] ∷ item.Function (type_name.Number numeric.Int) (x 1 59 0) [] ((statement.Declare
        (record { of = (type_name.Process (x 1 76 1)); name = (x 1 78 3); form = form.Plain })) ∷ (statement.Evaluate (phrase.Within (at 1 81)
        (phrase.Name (x 1 88 3)) (phrase.Chain (phrase.Name (x 1 92 3)) (step.Call (x 1 94 2) [] ∷ [])) (phrase.Number (at 1 100) (pos 0) numeric.Int))) ∷
        []) ∷ []);
  },
  Some (fault_at 1 88 kind.Mismatch),
)

-- process spec p() { trans int t(); }; process body p() { } main() { process p x; within 1 ? x.t() : x; }
abbrev text3 : Row
text3 = (
  record {
    names = 4;
    formats = [];
    items = (item.Specification (x 1 14 1) [] (record {
      result = (Some (type_name.Number numeric.Int));
      name = (x 1
          30 2);
      parameters = [];
    } ∷ []) ∷ item.Body (x 1 51 1) [] [] ∷ item.Function (type_name.Number numeric.Int) (x 1 59 0) [] ((statement.Declare
        (record { of = (type_name.Process (x 1 76 1)); name = (x 1 78 3); form = form.Plain })) ∷ (statement.Evaluate (phrase.Within (at 1 81)
        (phrase.Number (at 1 88) (pos 1) numeric.Int) (phrase.Chain (phrase.Name (x 1 92 3)) (step.Call (x 1 94 2) [] ∷ [])) (phrase.Name (x 1 100 3)))) ∷
        []) ∷ []);
  },
  Some (fault_at 1 100 kind.Mismatch),
)

-- process spec p() { trans void t(); }; process body p() { } void g() { } main() { process p x; within 1 ? x.t() : g(); }
abbrev text4 : Row
text4 = (
  record {
    names = 5;
    formats = [];
    items = (item.Specification (x 1 14 1) [] (record {
      result = (Some (type_name.Void (at 1 26)));
      name = (x 1 31
          2);
      parameters = [];
    } ∷ []) ∷ item.Body (x 1 52 1) [] [] ∷ item.Function (type_name.Void (at 1 60)) (x 1 65 3) [] [] ∷ item.Function
        (type_name.Number numeric.Int) (x 1 73 0) [] ((statement.Declare (record {
          of = (type_name.Process (x 1 90 1));
          name = (x 1 92 4);
          form =
              form.Plain;
        })) ∷ (statement.Evaluate (phrase.Within (at 1 95) (phrase.Number (at 1 102) (pos 1) numeric.Int) (phrase.Chain (phrase.Name (x 1 106
        4)) (step.Call (x 1 108 2) [] ∷ [])) (phrase.Call (x 1 114 3) []))) ∷ []) ∷ []);
  },
  Some (fault_at 1 114 kind.Mismatch),
)

-- void g() { } f(int x) { } main() { int b[2]; h(b); } h(void x) { }
abbrev text5 : Row
text5 = (
  record {
    names = 6;
    formats = [];
    items = (item.Function (type_name.Void (at 1 1)) (x 1 6 1) [] [] ∷ item.Function (type_name.Number numeric.Int)
        (x 1 14 2) (record { of = (type_name.Number numeric.Int); name = (x 1 20 3) } ∷ []) [] ∷ item.Function (type_name.Number numeric.Int) (x 1 27 0)
        [] ((statement.Declare (record {
          of = (type_name.Number numeric.Int);
          name = (x 1 40 4);
          form = form.Array (some_length.Number (at 1 42) (pos 2));
        })) ∷ (statement.Evaluate (phrase.Call (x 1 46 5) ((phrase.Name (x 1 48 4)) ∷ []))) ∷ []) ∷ item.Function (type_name.Number numeric.Int) (x 1 54
        5) (record { of = (type_name.Void (at 1 56)); name = (x 1 61 3) } ∷ []) [] ∷ []);
  },
  Some (fault_at 1 48 kind.Mismatch),
)

-- main() { f(1, 2); } f(void x) { }
abbrev text6 : Row
text6 = (
  record {
    names = 3;
    formats = [];
    items = (item.Function (type_name.Number numeric.Int) (x 1 1 0) [] ((statement.Evaluate (phrase.Call (x 1 10 1)
        ((phrase.Number (at 1 12) (pos 1) numeric.Int) ∷ (phrase.Number (at 1 15) (pos 2) numeric.Int) ∷ []))) ∷ []) ∷ item.Function (type_name.Number
        numeric.Int) (x 1 21 1) (record { of = (type_name.Void (at 1 23)); name = (x 1 28 2) } ∷ []) [] ∷ []);
  },
  Some (fault_at 1 23 kind.VoidHere),
)

-- process spec p() { trans void t(); }; process body p() { } main() { process p x; within 1 ? x.t() : 1; }
abbrev text7 : Row
text7 = (
  record {
    names = 4;
    formats = [];
    items = (item.Specification (x 1 14 1) [] (record {
      result = (Some (type_name.Void (at 1 26)));
      name = (x 1 31
          2);
      parameters = [];
    } ∷ []) ∷ item.Body (x 1 52 1) [] [] ∷ item.Function (type_name.Number numeric.Int) (x 1 60 0) [] ((statement.Declare (record
        { of = (type_name.Process (x 1 77 1)); name = (x 1 79 3); form = form.Plain })) ∷ (statement.Evaluate (phrase.Within (at 1 82) (phrase.Number (at
        1 89) (pos 1) numeric.Int) (phrase.Chain (phrase.Name (x 1 93 3)) (step.Call (x 1 95 2) [] ∷ [])) (phrase.Number (at 1 101) (pos 1) numeric.Int)))
        ∷ []) ∷ []);
  },
  Some (fault_at 1 101 kind.Mismatch),
)

abbrev pub rows : List Row
rows = text0 ∷ text1 ∷ text2 ∷ text3 ∷ text4 ∷ text5 ∷ text6 ∷ text7 ∷ []
