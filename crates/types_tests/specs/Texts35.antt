-- two rows at one token: the one of the lower number
use Rattle.std.specs.Prelude.{pos, false, List, [], ◌∷◌, Some, None}
use Rattle.cc_base.specs.declared.numbers.NumberType.TheVariants as numeric
use Rattle.cc_faults.specs.declared.fault.TypeKind.TheVariants as kind
use Rattle.cc_faults.specs.declared.plain.ClauseWord.TheVariants as clause_word
use Rattle.cc_faults.specs.declared.plain.Item.TheVariants as item
use Rattle.cc_faults.specs.declared.plain.Length.TheVariants as some_length
use Rattle.cc_faults.specs.declared.plain.LocalForm.TheVariants as form
use Rattle.cc_faults.specs.declared.plain.Phrase.TheVariants as phrase
use Rattle.cc_faults.specs.declared.plain.Statement.TheVariants as statement
use Rattle.cc_faults.specs.declared.plain.TypeName.TheVariants as type_name
use Rattle.types_tests.specs.Seen.{Row, at, fault_at, x}

-- enum { A, A = 3000000000 }; main() { }
abbrev text0 : Row
text0 = (
  record {
    names = 2;
    formats = [];
    items = (item.Enumeration None (record { name = (x 1 8 1); value = None } ∷ record {
      name = (x 1 11 1);
      value =
          (Some (record { negative = false; length = (some_length.Number (at 1 15) (pos 3000000000)) }));
    } ∷ []) ∷ item.Function (type_name.Number
        numeric.Int) (x 1 29 0) [] [] ∷ []);
  },
  Some (fault_at 1 11 kind.Duplicate),
)

-- struct s { int a; int b; }; main() { int x; struct s x[65536]; }
abbrev text1 : Row
text1 = (
  record {
    names = 5;
    formats = [];
    items = (item.Structure (x 1 8 1) (record {
      of = (type_name.Number numeric.Int);
      name = (x 1 16 2);
      length =
          None;
    } ∷ record { of = (type_name.Number numeric.Int); name = (x 1 23 3); length = None } ∷ []) ∷ item.Function (type_name.Number numeric.Int) (x
        1 29 0) [] ((statement.Declare (record { of = (type_name.Number numeric.Int); name = (x 1 42 4); form = form.Plain })) ∷ (statement.Declare
        (record { of = (type_name.Structure (x 1 52 1)); name = (x 1 54 4); form = form.Array (some_length.Number (at 1 56) (pos 65536)) })) ∷ []) ∷ []);
  },
  Some (fault_at 1 54 kind.Duplicate),
)

-- struct s { int a; }; struct s { int a[65536]; int b; }; main() { }
abbrev text2 : Row
text2 = (
  record {
    names = 4;
    formats = [];
    items = (item.Structure (x 1 8 1) (record {
      of = (type_name.Number numeric.Int);
      name = (x 1 16 2);
      length =
          None;
    } ∷ []) ∷ item.Structure (x 1 29 1) (record {
      of = (type_name.Number numeric.Int);
      name = (x 1 37 2);
      length = (Some (some_length.Number (at
          1 39) (pos 65536)));
    } ∷ record { of = (type_name.Number numeric.Int); name = (x 1 51 3); length = None } ∷ []) ∷ item.Function (type_name.Number
        numeric.Int) (x 1 57 0) [] [] ∷ []);
  },
  Some (fault_at 1 29 kind.Duplicate),
)

-- struct s { int a[257]; }; f() { } f(struct s x) { } main() { }
abbrev text3 : Row
text3 = (
  record {
    names = 5;
    formats = [];
    items = (item.Structure (x 1 8 1) (record {
      of = (type_name.Number numeric.Int);
      name = (x 1 16 2);
      length =
          (Some (some_length.Number (at 1 18) (pos 257)));
    } ∷ []) ∷ item.Function (type_name.Number numeric.Int) (x 1 27 3) [] [] ∷ item.Function
        (type_name.Number numeric.Int) (x 1 35 3) (record { of = (type_name.Structure (x 1 44 1)); name = (x 1 46 4) } ∷ []) [] ∷ item.Function
        (type_name.Number numeric.Int) (x 1 53 0) [] [] ∷ []);
  },
  Some (fault_at 1 35 kind.Duplicate),
)

-- process spec p(int a); process body p(a) { } process body p() { } main() { }
abbrev text4 : Row
text4 = (
  record {
    names = 3;
    formats = [];
    items = (item.Specification (x 1 14 1) ((type_name.Number numeric.Int) ∷ []) [] ∷ item.Body (x 1 37 1) ((x 1 39
        2) ∷ []) [] ∷ item.Body (x 1 59 1) [] [] ∷ item.Function (type_name.Number numeric.Int) (x 1 67 0) [] [] ∷ []);
  },
  Some (fault_at 1 59
      kind.Duplicate),
)

-- main() { } main(int x) { }
abbrev text5 : Row
text5 = (
  record {
    names = 2;
    formats = [];
    items = (item.Function (type_name.Number numeric.Int) (x 1 1 0) [] [] ∷ item.Function (type_name.Number
        numeric.Int) (x 1 12 0) (record { of = (type_name.Number numeric.Int); name = (x 1 21 1) } ∷ []) [] ∷ []);
  },
  Some (fault_at 1 12 kind.Duplicate),
)

-- struct s { int a[257]; }; process spec p(struct s x); main() { }
abbrev text6 : Row
text6 = (
  record {
    names = 4;
    formats = [];
    items = (item.Structure (x 1 8 1) (record {
      of = (type_name.Number numeric.Int);
      name = (x 1 16 2);
      length =
          (Some (some_length.Number (at 1 18) (pos 257)));
    } ∷ []) ∷ item.Specification (x 1 40 3) ((type_name.Structure (x 1 49 1)) ∷ []) [] ∷ item.Function
        (type_name.Number numeric.Int) (x 1 55 0) [] [] ∷ []);
  },
  Some (fault_at 1 40 kind.ManyCells),
)

-- struct s { int a[257]; }; main(struct s x) { }
abbrev text7 : Row
text7 = (
  record {
    names = 4;
    formats = [];
    items = (item.Structure (x 1 8 1) (record {
      of = (type_name.Number numeric.Int);
      name = (x 1 16 2);
      length =
          (Some (some_length.Number (at 1 18) (pos 257)));
    } ∷ []) ∷ item.Function (type_name.Number numeric.Int) (x 1 27 0) (record {
      of =
          (type_name.Structure (x 1 39 1));
      name = (x 1 41 3);
    } ∷ []) [] ∷ []);
  },
  Some (fault_at 1 27 kind.ManyCells),
)

-- process spec p() { trans void t(int a); }; process body p() { accept t(a) by (u()); } main() { }
abbrev text8 : Row
text8 = (
  record {
    names = 5;
    formats = [];
    items = (item.Specification (x 1 14 1) [] (record {
      result = (Some (type_name.Void (at 1 26)));
      name = (x 1 31
          2);
      parameters = ((type_name.Number numeric.Int) ∷ []);
    } ∷ []) ∷ item.Body (x 1 57 1) [] ((statement.Accept (record {
      head = record {
        place = (at
            1 63);
        name = (x 1 70 2);
        names = ((x 1 72 3) ∷ []);
        clauses = (record { word = clause_word.By; expression = (phrase.Call (x 1 79 4) []) } ∷ []);
      };
      block = [];
    })) ∷ []) ∷ item.Function (type_name.Number numeric.Int) (x 1 87 0) [] [] ∷ []);
  },
  Some (fault_at 1 79 kind.UnknownName),
)

-- process spec p() { trans void t(int a); }; process body p() { accept t(a) by (u = 1); } main() { }
abbrev text9 : Row
text9 = (
  record {
    names = 5;
    formats = [];
    items = (item.Specification (x 1 14 1) [] (record {
      result = (Some (type_name.Void (at 1 26)));
      name = (x 1 31
          2);
      parameters = ((type_name.Number numeric.Int) ∷ []);
    } ∷ []) ∷ item.Body (x 1 57 1) [] ((statement.Accept (record {
      head = record {
        place = (at
            1 63);
        name = (x 1 70 2);
        names = ((x 1 72 3) ∷ []);
        clauses = (record {
          word = clause_word.By;
          expression = (phrase.Assign (phrase.Name (x 1 79
              4)) (phrase.Number (at 1 83) (pos 1) numeric.Int));
        } ∷ []);
      };
      block = [];
    })) ∷ []) ∷ item.Function (type_name.Number numeric.Int) (x 1 89 0) [] []
        ∷ []);
  },
  Some (fault_at 1 79 kind.UnknownName),
)

-- f() { } process spec p() { trans void t(int a); }; process body p() { accept t(a) by (f(1)); } main() { }
abbrev text10 : Row
text10 = (
  record {
    names = 5;
    formats = [];
    items = (item.Function (type_name.Number numeric.Int) (x 1 1 1) [] [] ∷ item.Specification (x 1 22 2) []
        (record { result = (Some (type_name.Void (at 1 34))); name = (x 1 39 3); parameters = ((type_name.Number numeric.Int) ∷ []) } ∷ []) ∷ item.Body (x
        1 65 2) [] ((statement.Accept (record {
          head = record {
            place = (at 1 71);
            name = (x 1 78 3);
            names = ((x 1 80 4) ∷ []);
            clauses = (record {
              word
                  = clause_word.By;
              expression = (phrase.Call (x 1 87 1) ((phrase.Number (at 1 89) (pos 1) numeric.Int) ∷ []));
            } ∷ []);
          };
          block = [];
        })) ∷ []) ∷
        item.Function (type_name.Number numeric.Int) (x 1 96 0) [] [] ∷ []);
  },
  Some (fault_at 1 87 kind.Arity),
)

-- process spec p() { trans void t(int a); }; process body p() { accept t(a) by (printf("%d")); } main() { }
abbrev text11 : Row
text11 = (
  record {
    names = 4;
    formats = ((37 ∷ 100 ∷ []) ∷ []);
    items = (item.Specification (x 1 14 1) [] (record {
      result = (Some (type_name.Void (at 1
          26)));
      name = (x 1 31 2);
      parameters = ((type_name.Number numeric.Int) ∷ []);
    } ∷ []) ∷ item.Body (x 1 57 1) [] ((statement.Accept (record {
      head =
          record {
            place = (at 1 63);
            name = (x 1 70 2);
            names = ((x 1 72 3) ∷ []);
            clauses = (record {
              word = clause_word.By;
              expression =
                  (phrase.PrintFormat (at 1 79) (record { place = (at 1 86); number = 0 }) []);
            } ∷ []);
          };
      block = [];
    })) ∷ []) ∷ item.Function (type_name.Number
        numeric.Int) (x 1 96 0) [] [] ∷ []);
  },
  Some (fault_at 1 79 kind.Arity),
)

abbrev pub rows : List Row
rows = text0 ∷ text1 ∷ text2 ∷ text3 ∷ text4 ∷ text5 ∷ text6 ∷ text7 ∷ text8 ∷ text9 ∷ text10 ∷ text11 ∷ []
