-- two rows at one token: the one of the lower number
use Rattle.std.specs.Prelude.{pos, List, [], ◌∷◌, Some, None}
use Rattle.cc_base.specs.declared.numbers.NumberType.TheVariants as numeric
use Rattle.cc_base.specs.declared.numbers.Operator.TheVariants as operator
use Rattle.cc_faults.specs.declared.fault.TypeKind.TheVariants as kind
use Rattle.cc_faults.specs.declared.plain.ClauseWord.TheVariants as clause_word
use Rattle.cc_faults.specs.declared.plain.Item.TheVariants as item
use Rattle.cc_faults.specs.declared.plain.Length.TheVariants as some_length
use Rattle.cc_faults.specs.declared.plain.Phrase.TheVariants as phrase
use Rattle.cc_faults.specs.declared.plain.Statement.TheVariants as statement
use Rattle.cc_faults.specs.declared.plain.Step.TheVariants as step
use Rattle.cc_faults.specs.declared.plain.StepWord.TheVariants as step_word
use Rattle.cc_faults.specs.declared.plain.TypeName.TheVariants as type_name
use Rattle.types_tests.specs.Seen.{Row, at, fault_at, x}

-- process spec p() { trans void t(int a); }; process body p() { accept t(a) by (a()); } main() { }
abbrev text0 : Row
text0 = (
  record {
    names = 4;
    formats = [];
    items = (item.Specification (x 1 14 1) [] (record {
      result = (Some (type_name.Void (at 1 26)));
      name = (x 1 31
          2);
      parameters = ((type_name.Number numeric.Int) ∷ []);
    } ∷ []) ∷ item.Body (x 1 57 1) [] ((statement.Accept (record {
      head = record {
        place = (at
            1 63);
        name = (x 1 70 2);
        names = ((x 1 72 3) ∷ []);
        clauses = (record { word = clause_word.By; expression = (phrase.Call (x 1 79 3) []) } ∷ []);
      };
      block = [];
    })) ∷ []) ∷ item.Function (type_name.Number numeric.Int) (x 1 87 0) [] [] ∷ []);
  },
  Some (fault_at 1 79 kind.NotAFunction),
)

-- f() { } process spec p() { trans void t(int a); }; process body p() { accept t(a) by (f = 1); } main() { }
abbrev text1 : Row
text1 = (
  record {
    names = 5;
    formats = [];
    items = (item.Function (type_name.Number numeric.Int) (x 1 1 1) [] [] ∷ item.Specification (x 1 22 2) []
        (record { result = (Some (type_name.Void (at 1 34))); name = (x 1 39 3); parameters = ((type_name.Number numeric.Int) ∷ []) } ∷ []) ∷ item.Body (x
        1 65 2) [] ((statement.Accept (record {
          head = record {
            place = (at 1 71);
            name = (x 1 78 3);
            names = ((x 1 80 4) ∷ []);
            clauses = (record {
              word
                  = clause_word.By;
              expression = (phrase.Assign (phrase.Name (x 1 87 1)) (phrase.Number (at 1 91) (pos 1) numeric.Int));
            } ∷ []);
          };
          block = [];
        })) ∷
        []) ∷ item.Function (type_name.Number numeric.Int) (x 1 97 0) [] [] ∷ []);
  },
  Some (fault_at 1 87 kind.NotAValue),
)

-- struct s { int a; }; process spec p() { trans void t(struct s x); }; process body p() { accept t(x) suchthat (x++); } main() { }
abbrev text2 : Row
text2 = (
  record {
    names = 6;
    formats = [];
    items = (item.Structure (x 1 8 1) (record {
      of = (type_name.Number numeric.Int);
      name = (x 1 16 2);
      length =
          None;
    } ∷ []) ∷ item.Specification (x 1 35 3) [] (record {
      result = (Some (type_name.Void (at 1 47)));
      name = (x 1 52 4);
      parameters =
          ((type_name.Structure (x 1 61 1)) ∷ []);
    } ∷ []) ∷ item.Body (x 1 83 3) [] ((statement.Accept (record {
      head = record {
        place = (at 1 89);
        name =
            (x 1 96 4);
        names = ((x 1 98 5) ∷ []);
        clauses = (record {
          word = clause_word.SuchThat;
          expression = (phrase.StepAfter (phrase.Name (x 1 111 5))
              step_word.Up);
        } ∷ []);
      };
      block = [];
    })) ∷ []) ∷ item.Function (type_name.Number numeric.Int) (x 1 119 0) [] [] ∷ []);
  },
  Some (fault_at 1 111
      kind.Mismatch),
)

-- process spec p() { trans void t(int a); }; process body p() { accept t(a) suchthat (5++); } main() { }
abbrev text3 : Row
text3 = (
  record {
    names = 4;
    formats = [];
    items = (item.Specification (x 1 14 1) [] (record {
      result = (Some (type_name.Void (at 1 26)));
      name = (x 1 31
          2);
      parameters = ((type_name.Number numeric.Int) ∷ []);
    } ∷ []) ∷ item.Body (x 1 57 1) [] ((statement.Accept (record {
      head = record {
        place = (at
            1 63);
        name = (x 1 70 2);
        names = ((x 1 72 3) ∷ []);
        clauses = (record {
          word = clause_word.SuchThat;
          expression = (phrase.StepAfter
              (phrase.Number (at 1 85) (pos 5) numeric.Int) step_word.Up);
        } ∷ []);
      };
      block = [];
    })) ∷ []) ∷ item.Function (type_name.Number numeric.Int) (x 1 93
        0) [] [] ∷ []);
  },
  Some (fault_at 1 85 kind.NotAPlace),
)

-- process spec p() { trans void t(int a); }; process body p() { accept t(a) suchthat ((1 ? 1 : 2).a); } main() { }
abbrev text4 : Row
text4 = (
  record {
    names = 4;
    formats = [];
    items = (item.Specification (x 1 14 1) [] (record {
      result = (Some (type_name.Void (at 1 26)));
      name = (x 1 31
          2);
      parameters = ((type_name.Number numeric.Int) ∷ []);
    } ∷ []) ∷ item.Body (x 1 57 1) [] ((statement.Accept (record {
      head = record {
        place = (at
            1 63);
        name = (x 1 70 2);
        names = ((x 1 72 3) ∷ []);
        clauses = (record {
          word = clause_word.SuchThat;
          expression = (phrase.Chain
              (phrase.Parenthesized (at 1 85) (phrase.Choose (phrase.Number (at 1 86) (pos 1) numeric.Int) (phrase.Number (at 1 90) (pos 1) numeric.Int)
              (phrase.Number (at 1 94) (pos 2) numeric.Int))) (step.Field (x 1 97 3) ∷ []));
        } ∷ []);
      };
      block = [];
    })) ∷ []) ∷ item.Function (type_name.Number
        numeric.Int) (x 1 103 0) [] [] ∷ []);
  },
  Some (fault_at 1 85 kind.Mismatch),
)

-- process spec p(); process body p() { } process p f() { } main() { f() += 1; }
abbrev text5 : Row
text5 = (
  record {
    names = 3;
    formats = [];
    items = (item.Specification (x 1 14 1) [] [] ∷ item.Body (x 1 32 1) [] [] ∷ item.Function (type_name.Process (x
        1 48 1)) (x 1 50 2) [] [] ∷ item.Function (type_name.Number numeric.Int) (x 1 58 0) [] ((statement.Evaluate (phrase.Update (phrase.Call (x 1 67 2)
        []) operator.Add (phrase.Number (at 1 74) (pos 1) numeric.Int))) ∷ []) ∷ []);
  },
  Some (fault_at 1 67 kind.Mismatch),
)

-- void g() { } main() { g()++; }
abbrev text6 : Row
text6 = (
  record {
    names = 2;
    formats = [];
    items = (item.Function (type_name.Void (at 1 1)) (x 1 6 1) [] [] ∷ item.Function (type_name.Number numeric.Int)
        (x 1 14 0) [] ((statement.Evaluate (phrase.StepAfter (phrase.Call (x 1 23 1) []) step_word.Up)) ∷ []) ∷ []);
  },
  Some (fault_at 1 23 kind.Mismatch),
)

-- process spec p() { trans void t(); }; process body p() { accept t() { return 1; } } main() { }
abbrev text7 : Row
text7 = (
  record {
    names = 3;
    formats = [];
    items = (item.Specification (x 1 14 1) [] (record {
      result = (Some (type_name.Void (at 1 26)));
      name = (x 1 31
          2);
      parameters = [];
    } ∷ []) ∷ item.Body (x 1 52 1) [] ((statement.Accept (record {
      head = record {
        place = (at 1 58);
        name = (x 1 65 2);
        names =
            [];
        clauses = [];
      };
      block = ((statement.Return (at 1 71) (Some (phrase.Number (at 1 78) (pos 1) numeric.Int))) ∷ []);
    })) ∷ []) ∷ item.Function
        (type_name.Number numeric.Int) (x 1 85 0) [] [] ∷ []);
  },
  Some (fault_at 1 71 kind.LeavesAccept),
)

-- struct s { int a[257]; }; process spec p() { trans void t(); trans void t(struct s x); }; process body p() { } main() { }
abbrev text8 : Row
text8 = (
  record {
    names = 5;
    formats = [];
    items = (item.Structure (x 1 8 1) (record {
      of = (type_name.Number numeric.Int);
      name = (x 1 16 2);
      length =
          (Some (some_length.Number (at 1 18) (pos 257)));
    } ∷ []) ∷ item.Specification (x 1 40 3) [] (record {
      result = (Some (type_name.Void (at 1 52)));
      name = (x 1 57 4);
      parameters = [];
    } ∷ record {
      result = (Some (type_name.Void (at 1 68)));
      name = (x 1 73 4);
      parameters = ((type_name.Structure
          (x 1 82 1)) ∷ []);
    } ∷ []) ∷ item.Body (x 1 104 3) [] [] ∷ item.Function (type_name.Number numeric.Int) (x 1 112 0) [] [] ∷ []);
  },
  Some (fault_at 1
      73 kind.Duplicate),
)

-- struct s { int a[2]; }; struct t { int a; struct s a[65536]; }; main() { }
abbrev text9 : Row
text9 = (
  record {
    names = 4;
    formats = [];
    items = (item.Structure (x 1 8 1) (record {
      of = (type_name.Number numeric.Int);
      name = (x 1 16 2);
      length =
          (Some (some_length.Number (at 1 18) (pos 2)));
    } ∷ []) ∷ item.Structure (x 1 32 3) (record {
      of = (type_name.Number numeric.Int);
      name = (x 1 40
          2);
      length = None;
    } ∷ record {
      of = (type_name.Structure (x 1 50 1));
      name = (x 1 52 2);
      length = (Some (some_length.Number (at 1 54) (pos
          65536)));
    } ∷ []) ∷ item.Function (type_name.Number numeric.Int) (x 1 65 0) [] [] ∷ []);
  },
  Some (fault_at 1 52 kind.Duplicate),
)

abbrev pub rows : List Row
rows = text0 ∷ text1 ∷ text2 ∷ text3 ∷ text4 ∷ text5 ∷ text6 ∷ text7 ∷ text8 ∷ text9 ∷ []
