-- 25 NotPure
use Rattle.std.specs.Prelude.{pos, List, [], ◌∷◌, Some, None}
use Rattle.cc_base.specs.declared.numbers.Comparison.TheVariants as comparison
use Rattle.cc_base.specs.declared.numbers.NumberType.TheVariants as numeric
use Rattle.cc_base.specs.declared.numbers.Operator.TheVariants as operator
use Rattle.cc_faults.specs.declared.fault.TypeKind.TheVariants as kind
use Rattle.cc_faults.specs.declared.plain.ClauseWord.TheVariants as clause_word
use Rattle.cc_faults.specs.declared.plain.Item.TheVariants as item
use Rattle.cc_faults.specs.declared.plain.Length.TheVariants as some_length
use Rattle.cc_faults.specs.declared.plain.LocalForm.TheVariants as form
use Rattle.cc_faults.specs.declared.plain.Phrase.TheVariants as phrase
use Rattle.cc_faults.specs.declared.plain.Statement.TheVariants as statement
use Rattle.cc_faults.specs.declared.plain.Step.TheVariants as step
use Rattle.cc_faults.specs.declared.plain.StepWord.TheVariants as step_word
use Rattle.cc_faults.specs.declared.plain.TypeName.TheVariants as type_name
use Rattle.types_tests.specs.Seen.{Row, at, fault_at, x}

-- f() { } process spec p() { trans void t(int a); }; process body p() { accept t(a) suchthat (f()); } main() { }
abbrev text0 : Row
text0 = (
  record {
    names = 5;
    formats = [];
    items = (item.Function (type_name.Number numeric.Int) (x 1 1 1) [] [] ∷ item.Specification (x 1 22 2) []
        (record { result = (Some (type_name.Void (at 1 34))); name = (x 1 39 3); parameters = ((type_name.Number numeric.Int) ∷ []) } ∷ []) ∷ item.Body (x
        1 65 2) [] ((statement.Accept (record {
          head = record {
            place = (at 1 71);
            name = (x 1 78 3);
            names = ((x 1 80 4) ∷ []);
            clauses = (record {
              word
                  = clause_word.SuchThat;
              expression = (phrase.Call (x 1 93 1) []);
            } ∷ []);
          };
          block = [];
        })) ∷ []) ∷ item.Function (type_name.Number numeric.Int) (x
        1 101 0) [] [] ∷ []);
  },
  Some (fault_at 1 93 kind.NotPure),
)

-- process spec p() { trans void t(int a); }; process body p() { accept t(a) by (a = 1); } main() { }
abbrev text1 : Row
text1 = (
  record {
    names = 4;
    formats = [];
    items = (item.Specification (x 1 14 1) [] (record {
      result = (Some (type_name.Void (at 1 26)));
      name = (x 1 31
          2);
      parameters = ((type_name.Number numeric.Int) ∷ []);
    } ∷ []) ∷ item.Body (x 1 57 1) [] ((statement.Accept (record {
      head = record {
        place = (at
            1 63);
        name = (x 1 70 2);
        names = ((x 1 72 3) ∷ []);
        clauses = (record {
          word = clause_word.By;
          expression = (phrase.Assign (phrase.Name (x 1 79
              3)) (phrase.Number (at 1 83) (pos 1) numeric.Int));
        } ∷ []);
      };
      block = [];
    })) ∷ []) ∷ item.Function (type_name.Number numeric.Int) (x 1 89 0) [] []
        ∷ []);
  },
  Some (fault_at 1 79 kind.NotPure),
)

-- process spec p() { trans void t(int a); }; process body p() { accept t(a) suchthat (a + getchar()); } main() { }
abbrev text2 : Row
text2 = (
  record {
    names = 4;
    formats = [];
    items = (item.Specification (x 1 14 1) [] (record {
      result = (Some (type_name.Void (at 1 26)));
      name = (x 1 31
          2);
      parameters = ((type_name.Number numeric.Int) ∷ []);
    } ∷ []) ∷ item.Body (x 1 57 1) [] ((statement.Accept (record {
      head = record {
        place = (at
            1 63);
        name = (x 1 70 2);
        names = ((x 1 72 3) ∷ []);
        clauses = (record {
          word = clause_word.SuchThat;
          expression = (phrase.Arithmetic (phrase.Name
              (x 1 85 3)) (record { operator = operator.Add; operand = (phrase.GetChar (at 1 89)) } ∷ []));
        } ∷ []);
      };
      block = [];
    })) ∷ []) ∷ item.Function
        (type_name.Number numeric.Int) (x 1 103 0) [] [] ∷ []);
  },
  Some (fault_at 1 89 kind.NotPure),
)

-- process spec p() { trans void t(int a); }; process body p() { accept t(a) suchthat (++a); } main() { }
abbrev text3 : Row
text3 = (
  record {
    names = 4;
    formats = [];
    items = (item.Specification (x 1 14 1) [] (record {
      result = (Some (type_name.Void (at 1 26)));
      name = (x 1 31
          2);
      parameters = ((type_name.Number numeric.Int) ∷ []);
    } ∷ []) ∷ item.Body (x 1 57 1) [] ((statement.Accept (record {
      head = record {
        place = (at
            1 63);
        name = (x 1 70 2);
        names = ((x 1 72 3) ∷ []);
        clauses = (record {
          word = clause_word.SuchThat;
          expression = (phrase.StepBefore (at 1 85)
              step_word.Up (phrase.Name (x 1 87 3)));
        } ∷ []);
      };
      block = [];
    })) ∷ []) ∷ item.Function (type_name.Number numeric.Int) (x 1 93 0) [] [] ∷ []);
  },
  Some (fault_at 1 85 kind.NotPure),
)

-- process spec p() { trans void t(process p q); }; process body p() { accept t(q) suchthat (q == f()); } f() { } main() { }
abbrev text4 : Row
text4 = (
  record {
    names = 5;
    formats = [];
    items = (item.Specification (x 1 14 1) [] (record {
      result = (Some (type_name.Void (at 1 26)));
      name = (x 1 31
          2);
      parameters = ((type_name.Process (x 1 41 1)) ∷ []);
    } ∷ []) ∷ item.Body (x 1 63 1) [] ((statement.Accept (record {
      head = record {
        place = (at
            1 69);
        name = (x 1 76 2);
        names = ((x 1 78 3) ∷ []);
        clauses = (record {
          word = clause_word.SuchThat;
          expression = (phrase.Compare (phrase.Name (x
              1 91 3)) (record { comparison = comparison.Equal; operand = (phrase.Call (x 1 96 4) []) } ∷ []));
        } ∷ []);
      };
      block = [];
    })) ∷ []) ∷ item.Function
        (type_name.Number numeric.Int) (x 1 104 4) [] [] ∷ item.Function (type_name.Number numeric.Int) (x 1 112 0) [] [] ∷ []);
  },
  Some (fault_at 1 96
      kind.NotPure),
)

-- process spec p() { trans void t(int a); }; process body p() { accept t(a) suchthat (create p()); } main() { }
abbrev text5 : Row
text5 = (
  record {
    names = 4;
    formats = [];
    items = (item.Specification (x 1 14 1) [] (record {
      result = (Some (type_name.Void (at 1 26)));
      name = (x 1 31
          2);
      parameters = ((type_name.Number numeric.Int) ∷ []);
    } ∷ []) ∷ item.Body (x 1 57 1) [] ((statement.Accept (record {
      head = record {
        place = (at
            1 63);
        name = (x 1 70 2);
        names = ((x 1 72 3) ∷ []);
        clauses = (record {
          word = clause_word.SuchThat;
          expression = (phrase.Create (at 1 85) (x 1
              92 1) []);
        } ∷ []);
      };
      block = [];
    })) ∷ []) ∷ item.Function (type_name.Number numeric.Int) (x 1 100 0) [] [] ∷ []);
  },
  Some (fault_at 1 85
      kind.NotPure),
)

-- process spec p() { trans int t(process p q); }; process body p() { accept t(q) suchthat (q.t(q)); } main() { }
abbrev text6 : Row
text6 = (
  record {
    names = 4;
    formats = [];
    items = (item.Specification (x 1 14 1) [] (record {
      result = (Some (type_name.Number numeric.Int));
      name = (x 1
          30 2);
      parameters = ((type_name.Process (x 1 40 1)) ∷ []);
    } ∷ []) ∷ item.Body (x 1 62 1) [] ((statement.Accept (record {
      head = record {
        place =
            (at 1 68);
        name = (x 1 75 2);
        names = ((x 1 77 3) ∷ []);
        clauses = (record {
          word = clause_word.SuchThat;
          expression = (phrase.Chain (phrase.Name
              (x 1 90 3)) (step.Call (x 1 92 2) ((phrase.Name (x 1 94 3)) ∷ []) ∷ []));
        } ∷ []);
      };
      block = [];
    })) ∷ []) ∷ item.Function (type_name.Number
        numeric.Int) (x 1 101 0) [] [] ∷ []);
  },
  Some (fault_at 1 90 kind.NotPure),
)

-- process spec p() { trans int t(process p q); }; process body p() { accept t(q) suchthat (q.t(q).a); } main() { }
abbrev text7 : Row
text7 = (
  record {
    names = 5;
    formats = [];
    items = (item.Specification (x 1 14 1) [] (record {
      result = (Some (type_name.Number numeric.Int));
      name = (x 1
          30 2);
      parameters = ((type_name.Process (x 1 40 1)) ∷ []);
    } ∷ []) ∷ item.Body (x 1 62 1) [] ((statement.Accept (record {
      head = record {
        place =
            (at 1 68);
        name = (x 1 75 2);
        names = ((x 1 77 3) ∷ []);
        clauses = (record {
          word = clause_word.SuchThat;
          expression = (phrase.Chain (phrase.Name
              (x 1 90 3)) (step.Call (x 1 92 2) ((phrase.Name (x 1 94 3)) ∷ []) ∷ step.Field (x 1 97 4) ∷ []));
        } ∷ []);
      };
      block = [];
    })) ∷ []) ∷ item.Function
        (type_name.Number numeric.Int) (x 1 103 0) [] [] ∷ []);
  },
  Some (fault_at 1 90 kind.NotPure),
)

-- struct s { int a; }; process spec p() { trans void t(struct s x); }; process body p() { accept t(x) by ((1 ? x : x).a); } main() { }
abbrev text8 : Row
text8 = (
  record {
    names = 6;
    formats = [];
    items = (item.Structure (x 1 8 1) (record {
      of = (type_name.Number numeric.Int);
      name = (x 1 16 2);
      length =
          None;
    } ∷ []) ∷ item.Specification (x 1 35 3) [] (record {
      result = (Some (type_name.Void (at 1 47)));
      name = (x 1 52 4);
      parameters =
          ((type_name.Structure (x 1 61 1)) ∷ []);
    } ∷ []) ∷ item.Body (x 1 83 3) [] ((statement.Accept (record {
      head = record {
        place = (at 1 89);
        name =
            (x 1 96 4);
        names = ((x 1 98 5) ∷ []);
        clauses = (record {
          word = clause_word.By;
          expression = (phrase.Chain (phrase.Parenthesized (at 1 105)
              (phrase.Choose (phrase.Number (at 1 106) (pos 1) numeric.Int) (phrase.Name (x 1 110 5)) (phrase.Name (x 1 114 5)))) (step.Field (x 1 117 2) ∷ []));
        } ∷ []);
      };
      block = [];
    })) ∷ []) ∷ item.Function (type_name.Number numeric.Int) (x 1 123 0) [] [] ∷ []);
  },
  Some (fault_at 1 105 kind.NotPure),
)

-- (a longer text)
abbrev text9 : Row
text9 = (
  record {
    names = 7;
    formats = [];
    items = (item.Structure (x 1 8 1) (record {
      of = (type_name.Number numeric.Int);
      name = (x 1 16 2);
      length =
          (Some (some_length.Number (at 1 18) (pos 3)));
    } ∷ []) ∷ item.Specification (x 1 38 3) [] (record {
      result = (Some (type_name.Void (at 1 50)));
      name = (x 1 55 4);
      parameters = ((type_name.Structure (x 1 64 1)) ∷ []);
    } ∷ []) ∷ item.Body (x 1 86 3) [] ((statement.Declare (record {
      of =
          (type_name.Structure (x 1 99 1));
      name = (x 1 101 5);
      form = form.Plain;
    })) ∷ (statement.Accept (record {
      head = record {
        place = (at 1 104);
        name
            = (x 1 111 4);
        names = ((x 1 113 6) ∷ []);
        clauses = (record {
          word = clause_word.SuchThat;
          expression = (phrase.Either (phrase.Both
              (phrase.Compare (phrase.Chain (phrase.Parenthesized (at 1 126) (phrase.Parenthesized (at 1 127) (phrase.Name (x 1 128 6)))) (step.Field (x 1 132
              2) ∷ step.Index (phrase.Chain (phrase.Name (x 1 134 5)) (step.Field (x 1 136 2) ∷ step.Index (phrase.Number (at 1 138) (pos 0) numeric.Int) ∷ []))
              ∷ [])) (record { comparison = comparison.Greater; operand = (phrase.Negate (at 1 144) (phrase.Number (at 1 145) (pos 1) numeric.Int)) } ∷ []))
              ((phrase.Not (at 1 150) (phrase.Chain (phrase.Name (x 1 151 5)) (step.Field (x 1 153 2) ∷ step.Index (phrase.Number (at 1 155) (pos 1)
              numeric.Int) ∷ []))) ∷ [])) ((phrase.Arithmetic (phrase.Plus (at 1 161) (phrase.Chain (phrase.Name (x 1 162 6)) (step.Field (x 1 164 2) ∷
              step.Index (phrase.Number (at 1 166) (pos 2) numeric.Int) ∷ []))) (record {
                operator = operator.Remainder;
                operand = (phrase.Number (at 1 171)
                    (pos 2) numeric.Int);
              } ∷ [])) ∷ []));
        } ∷ record {
          word = clause_word.By;
          expression = (phrase.Choose (phrase.Number (at 1 178) (pos 1)
              numeric.Int) (phrase.Chain (phrase.Name (x 1 182 6)) (step.Field (x 1 184 2) ∷ step.Index (phrase.Number (at 1 186) (pos 0) numeric.Int) ∷ []))
              (phrase.Arithmetic (phrase.Number (at 1 191) (pos 97) numeric.Int) (record {
                operator = operator.Multiply;
                operand = (phrase.Number (at 1 197)
                    (pos 2) numeric.Int);
              } ∷ [])));
        } ∷ []);
      };
      block = [];
    })) ∷ []) ∷ item.Function (type_name.Number numeric.Int) (x 1 203 0) [] [] ∷ []);
  },
  None,
)

-- process spec p() { trans void t(int a); }; process body p() { accept t(a) suchthat (1) by (printf("")); } main() { }
abbrev text10 : Row
text10 = (
  record {
    names = 4;
    formats = ([] ∷ []);
    items = (item.Specification (x 1 14 1) [] (record {
      result = (Some (type_name.Void (at 1 26)));
      name =
          (x 1 31 2);
      parameters = ((type_name.Number numeric.Int) ∷ []);
    } ∷ []) ∷ item.Body (x 1 57 1) [] ((statement.Accept (record {
      head = record {
        place = (at 1 63);
        name = (x 1 70 2);
        names = ((x 1 72 3) ∷ []);
        clauses = (record {
          word = clause_word.SuchThat;
          expression = (phrase.Number (at
              1 85) (pos 1) numeric.Int);
        } ∷ record {
          word = clause_word.By;
          expression = (phrase.PrintFormat (at 1 92) (record {
            place = (at 1 99);
            number = 0;
          }) []);
        } ∷ []);
      };
      block = [];
    })) ∷ []) ∷ item.Function (type_name.Number numeric.Int) (x 1 107 0) [] [] ∷ []);
  },
  Some (fault_at 1 92
      kind.NotPure),
)

-- struct s { int a; }; process spec p() { trans void t(struct s x); }; process body p() { accept t(x) by ((1 ? x : u).a); } main() { }
abbrev text11 : Row
text11 = (
  record {
    names = 7;
    formats = [];
    items = (item.Structure (x 1 8 1) (record {
      of = (type_name.Number numeric.Int);
      name = (x 1 16 2);
      length =
          None;
    } ∷ []) ∷ item.Specification (x 1 35 3) [] (record {
      result = (Some (type_name.Void (at 1 47)));
      name = (x 1 52 4);
      parameters =
          ((type_name.Structure (x 1 61 1)) ∷ []);
    } ∷ []) ∷ item.Body (x 1 83 3) [] ((statement.Accept (record {
      head = record {
        place = (at 1 89);
        name =
            (x 1 96 4);
        names = ((x 1 98 5) ∷ []);
        clauses = (record {
          word = clause_word.By;
          expression = (phrase.Chain (phrase.Parenthesized (at 1 105)
              (phrase.Choose (phrase.Number (at 1 106) (pos 1) numeric.Int) (phrase.Name (x 1 110 5)) (phrase.Name (x 1 114 6)))) (step.Field (x 1 117 2) ∷ []));
        } ∷ []);
      };
      block = [];
    })) ∷ []) ∷ item.Function (type_name.Number numeric.Int) (x 1 123 0) [] [] ∷ []);
  },
  Some (fault_at 1 105 kind.NotPure),
)

abbrev pub rows : List Row
rows = text0 ∷ text1 ∷ text2 ∷ text3 ∷ text4 ∷ text5 ∷ text6 ∷ text7 ∷ text8 ∷ text9 ∷ text10 ∷ text11 ∷ []
