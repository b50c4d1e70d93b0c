-- more of names, accepts and clauses
use Rattle.std.specs.Prelude.{pos, true, false, List, [], ◌∷◌, Some, None}
use Rattle.cc_base.specs.declared.numbers.NumberType.TheVariants as numeric
use Rattle.cc_faults.specs.declared.fault.TypeKind.TheVariants as kind
use Rattle.cc_faults.specs.declared.plain.ClauseWord.TheVariants as clause_word
use Rattle.cc_faults.specs.declared.plain.Item.TheVariants as item
use Rattle.cc_faults.specs.declared.plain.Length.TheVariants as some_length
use Rattle.cc_faults.specs.declared.plain.LocalForm.TheVariants as form
use Rattle.cc_faults.specs.declared.plain.Phrase.TheVariants as phrase
use Rattle.cc_faults.specs.declared.plain.Statement.TheVariants as statement
use Rattle.cc_faults.specs.declared.plain.Step.TheVariants as step
use Rattle.cc_faults.specs.declared.plain.StepWord.TheVariants as step_word
use Rattle.cc_faults.specs.declared.plain.TypeName.TheVariants as type_name
use Rattle.types_tests.specs.Seen.{Row, at, fault_at, x}

-- process spec p() { trans void t(int a); }; process body p() { accept t(a) suchthat ((u).a); } main() { }
abbrev text0 : Row
text0 = (
  record {
    names = 5;
    formats = [];
    items = (item.Specification (x 1 14 1) [] (record {
      result = (Some (type_name.Void (at 1 26)));
      name = (x 1 31
          2);
      parameters = ((type_name.Number numeric.Int) ∷ []);
    } ∷ []) ∷ item.Body (x 1 57 1) [] ((statement.Accept (record {
      head = record {
        place = (at
            1 63);
        name = (x 1 70 2);
        names = ((x 1 72 3) ∷ []);
        clauses = (record {
          word = clause_word.SuchThat;
          expression = (phrase.Chain
              (phrase.Parenthesized (at 1 85) (phrase.Name (x 1 86 4))) (step.Field (x 1 89 3) ∷ []));
        } ∷ []);
      };
      block = [];
    })) ∷ []) ∷ item.Function
        (type_name.Number numeric.Int) (x 1 95 0) [] [] ∷ []);
  },
  Some (fault_at 1 85 kind.NotPure),
)

-- process spec p() { trans void t(int a); }; process body p() { accept t(a) suchthat (u.a); } main() { }
abbrev text1 : Row
text1 = (
  record {
    names = 5;
    formats = [];
    items = (item.Specification (x 1 14 1) [] (record {
      result = (Some (type_name.Void (at 1 26)));
      name = (x 1 31
          2);
      parameters = ((type_name.Number numeric.Int) ∷ []);
    } ∷ []) ∷ item.Body (x 1 57 1) [] ((statement.Accept (record {
      head = record {
        place = (at
            1 63);
        name = (x 1 70 2);
        names = ((x 1 72 3) ∷ []);
        clauses = (record {
          word = clause_word.SuchThat;
          expression = (phrase.Chain (phrase.Name (x 1
              85 4)) (step.Field (x 1 87 3) ∷ []));
        } ∷ []);
      };
      block = [];
    })) ∷ []) ∷ item.Function (type_name.Number numeric.Int) (x 1 93 0) [] [] ∷ []);
  },
  Some
      (fault_at 1 85 kind.UnknownName),
)

-- process spec p() { trans void t(int a); }; process body p() { accept t(a) suchthat (a++ = 1); } main() { }
abbrev text2 : Row
text2 = (
  record {
    names = 4;
    formats = [];
    items = (item.Specification (x 1 14 1) [] (record {
      result = (Some (type_name.Void (at 1 26)));
      name = (x 1 31
          2);
      parameters = ((type_name.Number numeric.Int) ∷ []);
    } ∷ []) ∷ item.Body (x 1 57 1) [] ((statement.Accept (record {
      head = record {
        place = (at
            1 63);
        name = (x 1 70 2);
        names = ((x 1 72 3) ∷ []);
        clauses = (record {
          word = clause_word.SuchThat;
          expression = (phrase.Assign
              (phrase.StepAfter (phrase.Name (x 1 85 3)) step_word.Up) (phrase.Number (at 1 91) (pos 1) numeric.Int));
        } ∷ []);
      };
      block = [];
    })) ∷ []) ∷
        item.Function (type_name.Number numeric.Int) (x 1 97 0) [] [] ∷ []);
  },
  Some (fault_at 1 85 kind.NotPure),
)

-- process spec p() { trans void t(int a); }; process body p() { accept t(a) suchthat (1 = a); } main() { }
abbrev text3 : Row
text3 = (
  record {
    names = 4;
    formats = [];
    items = (item.Specification (x 1 14 1) [] (record {
      result = (Some (type_name.Void (at 1 26)));
      name = (x 1 31
          2);
      parameters = ((type_name.Number numeric.Int) ∷ []);
    } ∷ []) ∷ item.Body (x 1 57 1) [] ((statement.Accept (record {
      head = record {
        place = (at
            1 63);
        name = (x 1 70 2);
        names = ((x 1 72 3) ∷ []);
        clauses = (record {
          word = clause_word.SuchThat;
          expression = (phrase.Assign (phrase.Number
              (at 1 85) (pos 1) numeric.Int) (phrase.Name (x 1 89 3)));
        } ∷ []);
      };
      block = [];
    })) ∷ []) ∷ item.Function (type_name.Number numeric.Int) (x 1 95 0)
        [] [] ∷ []);
  },
  Some (fault_at 1 85 kind.NotAPlace),
)

-- f() { } process spec p() { trans void t(int a); }; process body p() { accept t(a) suchthat (f() = a); } main() { }
abbrev text4 : Row
text4 = (
  record {
    names = 5;
    formats = [];
    items = (item.Function (type_name.Number numeric.Int) (x 1 1 1) [] [] ∷ item.Specification (x 1 22 2) []
        (record { result = (Some (type_name.Void (at 1 34))); name = (x 1 39 3); parameters = ((type_name.Number numeric.Int) ∷ []) } ∷ []) ∷ item.Body (x
        1 65 2) [] ((statement.Accept (record {
          head = record {
            place = (at 1 71);
            name = (x 1 78 3);
            names = ((x 1 80 4) ∷ []);
            clauses = (record {
              word
                  = clause_word.SuchThat;
              expression = (phrase.Assign (phrase.Call (x 1 93 1) []) (phrase.Name (x 1 99 4)));
            } ∷ []);
          };
          block = [];
        })) ∷ []) ∷
        item.Function (type_name.Number numeric.Int) (x 1 105 0) [] [] ∷ []);
  },
  Some (fault_at 1 93 kind.NotPure),
)

-- enum { A = -2147483648, B = -A }; main() { }
abbrev text5 : Row
text5 = (
  record {
    names = 3;
    formats = [];
    items = (item.Enumeration None (record {
      name = (x 1 8 1);
      value = (Some (record {
        negative = true;
        length =
            (some_length.Number (at 1 13) (pos 2147483648));
      }));
    } ∷ record {
      name = (x 1 25 2);
      value = (Some (record {
        negative = true;
        length =
            (some_length.Name (x 1 30 1));
      }));
    } ∷ []) ∷ item.Function (type_name.Number numeric.Int) (x 1 35 0) [] [] ∷ []);
  },
  Some (fault_at 1 25
      kind.EnumRange),
)

-- enum { f = f }; f() { } main() { }
abbrev text6 : Row
text6 = (
  record {
    names = 2;
    formats = [];
    items = (item.Enumeration None (record {
      name = (x 1 8 1);
      value = (Some (record {
        negative = false;
        length =
            (some_length.Name (x 1 12 1));
      }));
    } ∷ []) ∷ item.Function (type_name.Number numeric.Int) (x 1 17 1) [] [] ∷ item.Function (type_name.Number
        numeric.Int) (x 1 25 0) [] [] ∷ []);
  },
  Some (fault_at 1 8 kind.EnumRange),
)

-- main() { main = main(); }
abbrev text7 : Row
text7 = (
  record {
    names = 1;
    formats = [];
    items = (item.Function (type_name.Number numeric.Int) (x 1 1 0) [] ((statement.Evaluate (phrase.Assign
        (phrase.Name (x 1 10 0)) (phrase.Call (x 1 17 0) []))) ∷ []) ∷ []);
  },
  Some (fault_at 1 10 kind.NotAValue),
)

-- main() { int main; main = 1; { int a[main]; } }
abbrev text8 : Row
text8 = (
  record {
    names = 2;
    formats = [];
    items = (item.Function (type_name.Number numeric.Int) (x 1 1 0) [] ((statement.Declare (record {
      of =
          (type_name.Number numeric.Int);
      name = (x 1 14 0);
      form = form.Plain;
    })) ∷ (statement.Evaluate (phrase.Assign (phrase.Name (x 1 20 0))
        (phrase.Number (at 1 27) (pos 1) numeric.Int))) ∷ (statement.Block ((statement.Declare (record {
          of = (type_name.Number numeric.Int);
          name = (x 1
              36 1);
          form = form.Array (some_length.Name (x 1 38 0));
        })) ∷ [])) ∷ []) ∷ []);
  },
  Some (fault_at 1 38 kind.BadLength),
)

-- main() { int main; main = 1; }
abbrev text9 : Row
text9 = (
  record {
    names = 1;
    formats = [];
    items = (item.Function (type_name.Number numeric.Int) (x 1 1 0) [] ((statement.Declare (record {
      of =
          (type_name.Number numeric.Int);
      name = (x 1 14 0);
      form = form.Plain;
    })) ∷ (statement.Evaluate (phrase.Assign (phrase.Name (x 1 20 0))
        (phrase.Number (at 1 27) (pos 1) numeric.Int))) ∷ []) ∷ []);
  },
  None,
)

-- process spec main(); process body main() { } main() { create main(); }
abbrev text10 : Row
text10 = (
  record {
    names = 1;
    formats = [];
    items = (item.Specification (x 1 14 0) [] [] ∷ item.Body (x 1 35 0) [] [] ∷ item.Function (type_name.Number
        numeric.Int) (x 1 46 0) [] ((statement.Evaluate (phrase.Create (at 1 55) (x 1 62 0) [])) ∷ []) ∷ []);
  },
  None,
)

-- process spec p() { trans int t(); trans void u(); }; process body p() { accept t() { accept u() { treturn; } treturn 1; } } main() { }
abbrev text11 : Row
text11 = (
  record {
    names = 4;
    formats = [];
    items = (item.Specification (x 1 14 1) [] (record {
      result = (Some (type_name.Number numeric.Int));
      name = (x 1
          30 2);
      parameters = [];
    } ∷ record { result = (Some (type_name.Void (at 1 41))); name = (x 1 46 3); parameters = [] } ∷ []) ∷ item.Body (x 1 67 1)
        [] ((statement.Accept (record {
          head = record { place = (at 1 73); name = (x 1 80 2); names = []; clauses = [] };
          block = ((statement.Accept
              (record {
                head = record { place = (at 1 86); name = (x 1 93 3); names = []; clauses = [] };
                block = ((statement.TransactionReturn (at 1 99) None)
                    ∷ []);
              })) ∷ (statement.TransactionReturn (at 1 110) (Some (phrase.Number (at 1 118) (pos 1) numeric.Int))) ∷ []);
        })) ∷ []) ∷ item.Function
        (type_name.Number numeric.Int) (x 1 125 0) [] [] ∷ []);
  },
  None,
)

abbrev pub rows : List Row
rows = text0 ∷ text1 ∷ text2 ∷ text3 ∷ text4 ∷ text5 ∷ text6 ∷ text7 ∷ text8 ∷ text9 ∷ text10 ∷ text11 ∷ []
