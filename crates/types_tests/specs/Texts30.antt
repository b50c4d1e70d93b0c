-- 23 LeavesAccept
use Rattle.std.specs.Prelude.{pos, List, [], ◌∷◌, Some, None}
use Rattle.cc_base.specs.declared.numbers.NumberType.TheVariants as numeric
use Rattle.cc_faults.specs.declared.fault.TypeKind.TheVariants as kind
use Rattle.cc_faults.specs.declared.plain.Choice.TheVariants as choice
use Rattle.cc_faults.specs.declared.plain.Item.TheVariants as item
use Rattle.cc_faults.specs.declared.plain.Phrase.TheVariants as phrase
use Rattle.cc_faults.specs.declared.plain.Statement.TheVariants as statement
use Rattle.cc_faults.specs.declared.plain.TypeName.TheVariants as type_name
use Rattle.types_tests.specs.Seen.{Row, at, fault_at, x}

-- process spec p() { trans void t(); }; process body p() { accept t() { return; } } main() { }
abbrev text0 : Row
text0 = (
  record {
    names = 3;
    formats = [];
    items = (item.Specification (x 1 14 1) [] (record {
      result = (Some (type_name.Void (at 1 26)));
      name = (x 1 31
          2);
      parameters = [];
    } ∷ []) ∷ item.Body (x 1 52 1) [] ((statement.Accept (record {
      head = record {
        place = (at 1 58);
        name = (x 1 65 2);
        names =
            [];
        clauses = [];
      };
      block = ((statement.Return (at 1 71) None) ∷ []);
    })) ∷ []) ∷ item.Function (type_name.Number numeric.Int) (x 1 83 0) [] [] ∷
        []);
  },
  Some (fault_at 1 71 kind.LeavesAccept),
)

-- process spec p() { trans void t(); }; process body p() { while (1) accept t() { break; } } main() { }
abbrev text1 : Row
text1 = (
  record {
    names = 3;
    formats = [];
    items = (item.Specification (x 1 14 1) [] (record {
      result = (Some (type_name.Void (at 1 26)));
      name = (x 1 31
          2);
      parameters = [];
    } ∷ []) ∷ item.Body (x 1 52 1) [] ((statement.While (phrase.Number (at 1 65) (pos 1) numeric.Int) (statement.Accept (record {
      head = record { place = (at 1 68); name = (x 1 75 2); names = []; clauses = [] };
      block = ((statement.Break (at 1 81)) ∷ []);
    }))) ∷ []) ∷
        item.Function (type_name.Number numeric.Int) (x 1 92 0) [] [] ∷ []);
  },
  Some (fault_at 1 81 kind.LeavesAccept),
)

-- process spec p() { trans void t(); }; process body p() { do { accept t() { if (1) continue; } } while (1); } main() { }
abbrev text2 : Row
text2 = (
  record {
    names = 3;
    formats = [];
    items = (item.Specification (x 1 14 1) [] (record {
      result = (Some (type_name.Void (at 1 26)));
      name = (x 1 31
          2);
      parameters = [];
    } ∷ []) ∷ item.Body (x 1 52 1) [] ((statement.DoWhile (statement.Block ((statement.Accept (record {
      head = record {
        place =
            (at 1 63);
        name = (x 1 70 2);
        names = [];
        clauses = [];
      };
      block = ((statement.If (phrase.Number (at 1 80) (pos 1) numeric.Int) (statement.Continue
          (at 1 83))) ∷ []);
    })) ∷ [])) (phrase.Number (at 1 104) (pos 1) numeric.Int)) ∷ []) ∷ item.Function (type_name.Number numeric.Int) (x 1 110 0) []
        [] ∷ []);
  },
  Some (fault_at 1 83 kind.LeavesAccept),
)

-- (a longer text)
abbrev text3 : Row
text3 = (
  record {
    names = 3;
    formats = [];
    items = (item.Specification (x 1 14 1) [] (record {
      result = (Some (type_name.Void (at 1 26)));
      name = (x 1 31
          2);
      parameters = [];
    } ∷ []) ∷ item.Body (x 1 52 1) [] ((statement.Accept (record {
      head = record {
        place = (at 1 58);
        name = (x 1 65 2);
        names =
            [];
        clauses = [];
      };
      block = ((statement.While (phrase.Number (at 1 78) (pos 1) numeric.Int) (statement.Block ((statement.Break (at 1 83)) ∷
          (statement.Continue (at 1 90)) ∷ []))) ∷ []);
    })) ∷ (statement.While (phrase.Number (at 1 111) (pos 1) numeric.Int) (statement.Select (at 1 114)
        (record {
          guard = None;
          choice = (choice.Accept (record {
            head = record { place = (at 1 123); name = (x 1 130 2); names = []; clauses = [] };
            block = [];
          }));
          entries = ((statement.Break (at 1 135)) ∷ []);
        } ∷ record { guard = None; choice = choice.Terminate; entries = [] } ∷ []))) ∷ []) ∷
        item.Function (type_name.Number numeric.Int) (x 1 160 0) [] [] ∷ []);
  },
  None,
)

-- process spec p() { trans void t(); trans void u(); }; process body p() { accept t() { while (1) accept u() { break; } } } main() { }
abbrev text4 : Row
text4 = (
  record {
    names = 4;
    formats = [];
    items = (item.Specification (x 1 14 1) [] (record {
      result = (Some (type_name.Void (at 1 26)));
      name = (x 1 31
          2);
      parameters = [];
    } ∷ record { result = (Some (type_name.Void (at 1 42))); name = (x 1 47 3); parameters = [] } ∷ []) ∷ item.Body (x 1 68 1) []
        ((statement.Accept (record {
          head = record { place = (at 1 74); name = (x 1 81 2); names = []; clauses = [] };
          block = ((statement.While
              (phrase.Number (at 1 94) (pos 1) numeric.Int) (statement.Accept (record {
                head = record {
                  place = (at 1 97);
                  name = (x 1 104 3);
                  names = [];
                  clauses = [];
                };
                block = ((statement.Break (at 1 110)) ∷ []);
              }))) ∷ []);
        })) ∷ []) ∷ item.Function (type_name.Number numeric.Int) (x 1 123 0) [] []
        ∷ []);
  },
  Some (fault_at 1 110 kind.LeavesAccept),
)

abbrev pub rows : List Row
rows = text0 ∷ text1 ∷ text2 ∷ text3 ∷ text4 ∷ []
