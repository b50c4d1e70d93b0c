-- more of names, accepts and clauses
use Rattle.std.specs.Prelude.{pos, List, [], ◌∷◌, Some, None}
use Rattle.cc_base.specs.declared.numbers.Comparison.TheVariants as comparison
use Rattle.cc_base.specs.declared.numbers.NumberType.TheVariants as numeric
use Rattle.cc_faults.specs.declared.fault.TypeKind.TheVariants as kind
use Rattle.cc_faults.specs.declared.plain.Item.TheVariants as item
use Rattle.cc_faults.specs.declared.plain.Length.TheVariants as some_length
use Rattle.cc_faults.specs.declared.plain.LocalForm.TheVariants as form
use Rattle.cc_faults.specs.declared.plain.Phrase.TheVariants as phrase
use Rattle.cc_faults.specs.declared.plain.Statement.TheVariants as statement
use Rattle.cc_faults.specs.declared.plain.TypeName.TheVariants as type_name
use Rattle.types_tests.specs.Seen.{Row, at, fault_at, x}

-- process spec p() { trans int t(); trans void u(); }; process body p() { accept u() { accept t() { treturn 1; } treturn 2; } } main() { }
abbrev text0 : Row
text0 = (
  record {
    names = 4;
    formats = [];
    items = (item.Specification (x 1 14 1) [] (record {
      result = (Some (type_name.Number numeric.Int));
      name = (x 1
          30 2);
      parameters = [];
    } ∷ record { result = (Some (type_name.Void (at 1 41))); name = (x 1 46 3); parameters = [] } ∷ []) ∷ item.Body (x 1 67 1)
        [] ((statement.Accept (record {
          head = record { place = (at 1 73); name = (x 1 80 3); names = []; clauses = [] };
          block = ((statement.Accept
              (record {
                head = record { place = (at 1 86); name = (x 1 93 2); names = []; clauses = [] };
                block = ((statement.TransactionReturn (at 1 99) (Some
                    (phrase.Number (at 1 107) (pos 1) numeric.Int))) ∷ []);
              })) ∷ (statement.TransactionReturn (at 1 112) (Some (phrase.Number (at 1 120) (pos 2)
              numeric.Int))) ∷ []);
        })) ∷ []) ∷ item.Function (type_name.Number numeric.Int) (x 1 127 0) [] [] ∷ []);
  },
  Some (fault_at 1 112 kind.ValueHere),
)

-- struct s { void a; int b[65536]; int c; }; main() { }
abbrev text1 : Row
text1 = (
  record {
    names = 5;
    formats = [];
    items = (item.Structure (x 1 8 1) (record { of = (type_name.Void (at 1 12)); name = (x 1 17 2); length = None }
        ∷ record { of = (type_name.Number numeric.Int); name = (x 1 24 3); length = (Some (some_length.Number (at 1 26) (pos 65536))) } ∷ record {
          of =
              (type_name.Number numeric.Int);
          name = (x 1 38 4);
          length = None;
        } ∷ []) ∷ item.Function (type_name.Number numeric.Int) (x 1 44 0) [] [] ∷ []);
  },
  Some (fault_at 1 12 kind.VoidHere),
)

-- void f() { return g(); } void g() { } main() { }
abbrev text2 : Row
text2 = (
  record {
    names = 3;
    formats = [];
    items = (item.Function (type_name.Void (at 1 1)) (x 1 6 1) [] ((statement.Return (at 1 12) (Some (phrase.Call
        (x 1 19 2) []))) ∷ []) ∷ item.Function (type_name.Void (at 1 26)) (x 1 31 2) [] [] ∷ item.Function (type_name.Number numeric.Int) (x 1 39 0) [] []
        ∷ []);
  },
  Some (fault_at 1 12 kind.ValueHere),
)

-- main() { process p x; x == u == x; } process spec p(); process body p() { }
abbrev text3 : Row
text3 = (
  record {
    names = 4;
    formats = [];
    items = (item.Function (type_name.Number numeric.Int) (x 1 1 0) [] ((statement.Declare (record {
      of =
          (type_name.Process (x 1 18 1));
      name = (x 1 20 2);
      form = form.Plain;
    })) ∷ (statement.Evaluate (phrase.Compare (phrase.Name (x 1 23 2)) (record {
      comparison = comparison.Equal;
      operand = (phrase.Name (x 1 28 3));
    } ∷ record { comparison = comparison.Equal; operand = (phrase.Name (x 1 33 2)) }
        ∷ []))) ∷ []) ∷ item.Specification (x 1 51 1) [] [] ∷ item.Body (x 1 69 1) [] [] ∷ []);
  },
  Some (fault_at 1 28 kind.UnknownName),
)

abbrev pub rows : List Row
rows = text0 ∷ text1 ∷ text2 ∷ text3 ∷ []
