-- the worked texts
use Rattle.std.specs.Prelude.{pos, List, [], ◌∷◌, Some, None}
use Rattle.cc_base.specs.declared.numbers.Comparison.TheVariants as comparison
use Rattle.cc_base.specs.declared.numbers.NumberType.TheVariants as numeric
use Rattle.cc_base.specs.declared.numbers.Operator.TheVariants as operator
use Rattle.cc_faults.specs.declared.fault.TypeKind.TheVariants as kind
use Rattle.cc_faults.specs.declared.plain.Choice.TheVariants as choice
use Rattle.cc_faults.specs.declared.plain.ClauseWord.TheVariants as clause_word
use Rattle.cc_faults.specs.declared.plain.Item.TheVariants as item
use Rattle.cc_faults.specs.declared.plain.Length.TheVariants as some_length
use Rattle.cc_faults.specs.declared.plain.LocalForm.TheVariants as form
use Rattle.cc_faults.specs.declared.plain.Phrase.TheVariants as phrase
use Rattle.cc_faults.specs.declared.plain.Statement.TheVariants as statement
use Rattle.cc_faults.specs.declared.plain.Step.TheVariants as step
use Rattle.cc_faults.specs.declared.plain.StepWord.TheVariants as step_word
use Rattle.cc_faults.specs.declared.plain.TypeName.TheVariants as type_name
use Rattle.types_tests.specs.Seen.{Row, at, fault_at, x}

-- main() { putchar(72); putchar(105); }
abbrev text0 : Row
text0 = (
  record {
    names = 1;
    formats = [];
    items = (item.Function (type_name.Number numeric.Int) (x 1 1 0) [] ((statement.Evaluate (phrase.PutChar (at 1
        10) (phrase.Number (at 1 18) (pos 72) numeric.Int))) ∷ (statement.Evaluate (phrase.PutChar (at 1 23) (phrase.Number (at 1 31) (pos 105)
        numeric.Int))) ∷ []) ∷ []);
  },
  None,
)

--
abbrev text1 : Row
text1 =
    (record { names = 1; formats = []; items = [] }, Some (fault_at 1 1 kind.NoMain))

-- main() { x = 1; y = 2; }
abbrev text2 : Row
text2 = (
  record {
    names = 3;
    formats = [];
    items = (item.Function (type_name.Number numeric.Int) (x 1 1 0) [] ((statement.Evaluate (phrase.Assign
        (phrase.Name (x 1 10 1)) (phrase.Number (at 1 14) (pos 1) numeric.Int))) ∷ (statement.Evaluate (phrase.Assign (phrase.Name (x 1 17 2))
        (phrase.Number (at 1 21) (pos 2) numeric.Int))) ∷ []) ∷ []);
  },
  Some (fault_at 1 10 kind.UnknownName),
)

-- main() { return 1; } int main() { }
abbrev text3 : Row
text3 = (
  record {
    names = 1;
    formats = [];
    items = (item.Function (type_name.Number numeric.Int) (x 1 1 0) [] ((statement.Return (at 1 10) (Some
        (phrase.Number (at 1 17) (pos 1) numeric.Int))) ∷ []) ∷ item.Function (type_name.Number numeric.Int) (x 1 26 0) [] [] ∷ []);
  },
  Some (fault_at 1 26
      kind.Duplicate),
)

-- main() { printf("%q", 1); }
abbrev text4 : Row
text4 = (
  record {
    names = 1;
    formats = ((37 ∷ 113 ∷ []) ∷ []);
    items = (item.Function (type_name.Number numeric.Int) (x 1 1 0) [] ((statement.Evaluate
        (phrase.PrintFormat (at 1 10) (record { place = (at 1 17); number = 0 }) ((phrase.Number (at 1 23) (pos 1) numeric.Int) ∷ []))) ∷ []) ∷ []);
  },
  Some (fault_at 1 17 kind.BadFormat),
)

-- process spec s(); main() { }
abbrev text5 : Row
text5 = (
  record {
    names = 2;
    formats = [];
    items = (item.Specification (x 1 14 1) [] [] ∷ item.Function (type_name.Number numeric.Int) (x 1 19 0) [] [] ∷
        []);
  },
  Some (fault_at 1 14 kind.NoBody),
)

-- (a longer text)
abbrev text6 : Row
text6 = (
  record {
    names = 5;
    formats = [];
    items = (item.Specification (x 1 14 1) [] (record {
      result = (Some (type_name.Number numeric.Int));
      name = (x 1
          30 2);
      parameters = ((type_name.Number numeric.Int) ∷ []);
    } ∷ []) ∷ item.Body (x 1 56 1) [] ((statement.Accept (record {
      head = record {
        place =
            (at 1 62);
        name = (x 1 69 2);
        names = ((x 1 71 3) ∷ []);
        clauses = [];
      };
      block = ((statement.Evaluate (phrase.PutChar (at 1 76) (phrase.Name (x 1
          84 3)))) ∷ (statement.TransactionReturn (at 1 88) (Some (phrase.Number (at 1 96) (pos 66) numeric.Int))) ∷ []);
    })) ∷ []) ∷ item.Function
        (type_name.Number numeric.Int) (x 1 104 0) [] ((statement.Declare (record {
          of = (type_name.Process (x 1 121 1));
          name = (x 1 123 4);
          form =
              form.Plain;
        })) ∷ (statement.Evaluate (phrase.Assign (phrase.Name (x 1 126 4)) (phrase.Create (at 1 130) (x 1 137 1) []))) ∷ (statement.Evaluate
        (phrase.PutChar (at 1 142) (phrase.Chain (phrase.Name (x 1 150 4)) (step.Call (x 1 152 2) ((phrase.Number (at 1 154) (pos 65) numeric.Int) ∷ []) ∷
        [])))) ∷ []) ∷ []);
  },
  None,
)

-- (a longer text)
abbrev text7 : Row
text7 = (
  record {
    names = 13;
    formats = [];
    items = (item.Specification (x 1 14 1) ((type_name.Number numeric.Int) ∷ []) (record {
      result = (Some
          (type_name.Void (at 1 38)));
      name = (x 1 43 2);
      parameters = ((type_name.Number numeric.Int) ∷ []);
    } ∷ record {
      result = (Some (type_name.Number
          numeric.Int));
      name = (x 1 65 3);
      parameters = [];
    } ∷ []) ∷ item.Body (x 2 14 1) ((x 2 21 4) ∷ []) ((statement.Declare (record {
      of =
          (type_name.Number numeric.Int);
      name = (x 3 7 5);
      form = form.Array (some_length.Number (at 3 11) (pos 8));
    })) ∷ (statement.Declare (record {
      of =
          (type_name.Number numeric.Int);
      name = (x 3 19 6);
      form = form.Plain;
    })) ∷ (statement.Declare (record {
      of = (type_name.Number numeric.Int);
      name
          = (x 3 26 7);
      form = form.Plain;
    })) ∷ (statement.Declare (record { of = (type_name.Number numeric.Int); name = (x 3 36 8); form = form.Plain })) ∷
        (statement.While (phrase.Number (at 4 10) (pos 1) numeric.Int) (statement.Select (at 4 13) (record {
          guard = (Some (phrase.Compare (phrase.Name (x
              5 6 6)) (record { comparison = comparison.Less; operand = (phrase.Name (x 5 10 4)) } ∷ [])));
          choice = (choice.Accept (record {
            head = record {
              place = (at 5 16);
              name = (x 5 23 2);
              names = ((x 5 27 9) ∷ []);
              clauses = [];
            };
            block = ((statement.Evaluate (phrase.Assign (phrase.Chain
                (phrase.Name (x 5 32 5)) (step.Index (phrase.Name (x 5 36 8)) ∷ [])) (phrase.Name (x 5 44 9)))) ∷ []);
          }));
          entries = ((statement.Evaluate
              (phrase.Assign (phrase.Name (x 6 7 8)) (phrase.Arithmetic (phrase.Parenthesized (at 6 14) (phrase.Arithmetic (phrase.Name (x 6 15 8)) (record {
                operator = operator.Add;
                operand = (phrase.Number (at 6 22) (pos 1) numeric.Int);
              } ∷ []))) (record {
                operator = operator.Remainder;
                operand =
                    (phrase.Name (x 6 27 4));
              } ∷ [])))) ∷ (statement.Evaluate (phrase.StepAfter (phrase.Name (x 6 32 6)) step_word.Up)) ∷ []);
        } ∷ record {
          guard =
              (Some (phrase.Compare (phrase.Name (x 7 7 6)) (record { comparison = comparison.Greater; operand = (phrase.Number (at 7 11) (pos 0) numeric.Int) }
              ∷ [])));
          choice = (choice.Accept (record {
            head = record { place = (at 7 15); name = (x 7 22 3); names = []; clauses = [] };
            block =
                ((statement.TransactionReturn (at 7 30) (Some (phrase.Chain (phrase.Name (x 7 38 5)) (step.Index (phrase.Name (x 7 42 7)) ∷ [])))) ∷ []);
          }));
          entries = ((statement.Evaluate (phrase.Assign (phrase.Name (x 8 7 7)) (phrase.Arithmetic (phrase.Parenthesized (at 8 14) (phrase.Arithmetic
              (phrase.Name (x 8 15 7)) (record { operator = operator.Add; operand = (phrase.Number (at 8 22) (pos 1) numeric.Int) } ∷ []))) (record {
                operator =
                    operator.Remainder;
                operand = (phrase.Name (x 8 27 4));
              } ∷ [])))) ∷ (statement.Evaluate (phrase.StepAfter (phrase.Name (x 8 32 6))
              step_word.Down)) ∷ []);
        } ∷ record { guard = None; choice = choice.Terminate; entries = [] } ∷ []))) ∷ []) ∷ item.Specification (x 12 14 10)
        ((type_name.Process (x 12 31 1)) ∷ []) [] ∷ item.Body (x 13 14 10) ((x 13 23 11) ∷ []) ((statement.Declare (record {
          of = (type_name.Number
              numeric.Int);
          name = (x 13 32 9);
          form = form.Plain;
        })) ∷ (statement.DoWhile (statement.Block ((statement.Evaluate (phrase.Assign (phrase.Name (x
        13 40 9)) (phrase.GetChar (at 13 44)))) ∷ (statement.Evaluate (phrase.Chain (phrase.Name (x 13 55 11)) (step.Call (x 13 57 2) ((phrase.Name (x 13
        61 9)) ∷ []) ∷ []))) ∷ [])) (phrase.Compare (phrase.Name (x 13 74 9)) (record {
          comparison = comparison.Different;
          operand = (phrase.Negate (at 13
              79) (phrase.Number (at 13 80) (pos 1) numeric.Int));
        } ∷ []))) ∷ []) ∷ item.Specification (x 14 14 12) ((type_name.Process (x 14 31 1)) ∷ []) [] ∷
        item.Body (x 15 14 12) ((x 15 23 11) ∷ []) ((statement.Declare (record {
          of = (type_name.Number numeric.Int);
          name = (x 15 32 9);
          form =
              form.Plain;
        })) ∷ (statement.While (phrase.Compare (phrase.Parenthesized (at 15 42) (phrase.Assign (phrase.Name (x 15 43 9)) (phrase.Chain
        (phrase.Name (x 15 47 11)) (step.Call (x 15 49 3) [] ∷ [])))) (record {
          comparison = comparison.Different;
          operand = (phrase.Negate (at 15 59)
              (phrase.Number (at 15 60) (pos 1) numeric.Int));
        } ∷ [])) (statement.Evaluate (phrase.PutChar (at 15 63) (phrase.Name (x 15 71 9))))) ∷ []) ∷
        item.Function (type_name.Number numeric.Int) (x 16 1 0) [] ((statement.Declare (record {
          of = (type_name.Process (x 16 18 1));
          name = (x 16 25
              11);
          form = form.Plain;
        })) ∷ (statement.Evaluate (phrase.Assign (phrase.Name (x 16 28 11)) (phrase.Create (at 16 32) (x 16 39 1) ((phrase.Number
        (at 16 46) (pos 4) numeric.Int) ∷ [])))) ∷ (statement.Evaluate (phrase.Create (at 16 50) (x 16 57 10) ((phrase.Name (x 16 66 11)) ∷ []))) ∷
        (statement.Evaluate (phrase.Create (at 16 70) (x 16 77 12) ((phrase.Name (x 16 86 11)) ∷ []))) ∷ []) ∷ []);
  },
  None,
)

-- (a longer text)
abbrev text8 : Row
text8 = (
  record {
    names = 8;
    formats = [];
    items = (item.Specification (x 1 14 1) [] (record {
      result = (Some (type_name.Void (at 1 31)));
      name = (x 1 36
          2);
      parameters = [];
    } ∷ record {
      result = None;
      name = (x 1 54 3);
      parameters = ((type_name.Number numeric.Int) ∷ (type_name.Number numeric.Char)
          ∷ []);
    } ∷ []) ∷ item.Body (x 2 14 1) [] ((statement.Declare (record {
      of = (type_name.Number numeric.Int);
      name = (x 2 29 4);
      form = form.Plain;
    })) ∷ (statement.Accept (record { head = record { place = (at 2 32); name = (x 2 39 2); names = []; clauses = [] }; block = [] })) ∷
        (statement.For (Some (phrase.Assign (phrase.Name (x 3 8 4)) (phrase.Number (at 3 12) (pos 0) numeric.Int))) (Some (phrase.Compare (phrase.Name (x
        3 15 4)) (record { comparison = comparison.Less; operand = (phrase.Number (at 3 19) (pos 3) numeric.Int) } ∷ []))) (Some (phrase.StepAfter
        (phrase.Name (x 3 22 4)) step_word.Up)) (statement.Accept (record {
          head = record {
            place = (at 3 27);
            name = (x 3 34 3);
            names = ((x 3 38 5) ∷ (x
                3 41 6) ∷ []);
            clauses = (record { word = clause_word.By; expression = (phrase.Name (x 3 48 5)) } ∷ []);
          };
          block = ((statement.Evaluate
              (phrase.PutChar (at 3 53) (phrase.Name (x 3 61 6)))) ∷ []);
        }))) ∷ []) ∷ item.Function (type_name.Number numeric.Int) (x 4 1 0) []
        ((statement.Declare (record { of = (type_name.Process (x 4 18 1)); name = (x 4 25 7); form = form.Plain })) ∷ (statement.Evaluate (phrase.Assign
        (phrase.Name (x 4 28 7)) (phrase.Create (at 4 32) (x 4 39 1) []))) ∷ (statement.Evaluate (phrase.Chain (phrase.Name (x 5 3 7)) (step.Call (x 5 5
        3) ((phrase.Number (at 5 9) (pos 5) numeric.Int) ∷ (phrase.Number (at 5 12) (pos 97) numeric.Int) ∷ []) ∷ []))) ∷ (statement.Evaluate
        (phrase.Chain (phrase.Name (x 5 18 7)) (step.Call (x 5 20 3) ((phrase.Number (at 5 24) (pos 3) numeric.Int) ∷ (phrase.Number (at 5 27) (pos 98)
        numeric.Int) ∷ []) ∷ []))) ∷ (statement.Evaluate (phrase.Chain (phrase.Name (x 5 33 7)) (step.Call (x 5 35 3) ((phrase.Number (at 5 39) (pos 3)
        numeric.Int) ∷ (phrase.Number (at 5 42) (pos 99) numeric.Int) ∷ []) ∷ []))) ∷ (statement.Evaluate (phrase.Chain (phrase.Name (x 5 48 7))
        (step.Call (x 5 50 2) [] ∷ []))) ∷ []) ∷ []);
  },
  None,
)

-- (a longer text)
abbrev text9 : Row
text9 = (
  record {
    names = 5;
    formats = [];
    items = (item.Specification (x 1 14 1) [] (record {
      result = None;
      name = (x 1 32 2);
      parameters =
          ((type_name.Number numeric.Int) ∷ []);
    } ∷ []) ∷ item.Body (x 1 58 1) [] ((statement.Select (at 1 64) (record {
      guard = None;
      choice =
          (choice.Accept (record {
            head = record {
              place = (at 1 73);
              name = (x 1 80 2);
              names = ((x 1 82 3) ∷ []);
              clauses = (record {
                word =
                    clause_word.SuchThat;
                expression = (phrase.Arithmetic (phrase.Number (at 1 95) (pos 10) numeric.Int) (record {
                  operator = operator.Divide;
                  operand
                      = (phrase.Name (x 1 100 3));
                } ∷ []));
              } ∷ []);
            };
            block = ((statement.Evaluate (phrase.PutChar (at 1 105) (phrase.Number (at 1 113) (pos 33)
                numeric.Int))) ∷ []);
          }));
      entries = [];
    } ∷ record { guard = None; choice = choice.Terminate; entries = [] } ∷ [])) ∷ []) ∷ item.Function
        (type_name.Number numeric.Int) (x 1 139 0) [] ((statement.Declare (record {
          of = (type_name.Process (x 1 156 1));
          name = (x 1 158 4);
          form =
              form.Plain;
        })) ∷ (statement.Evaluate (phrase.Assign (phrase.Name (x 1 161 4)) (phrase.Create (at 1 165) (x 1 172 1) []))) ∷ (statement.Evaluate
        (phrase.Chain (phrase.Name (x 1 177 4)) (step.Call (x 1 179 2) ((phrase.Number (at 1 181) (pos 0) numeric.Int) ∷ []) ∷ []))) ∷ []) ∷ []);
  },
  None,
)

-- (a longer text)
abbrev text10 : Row
text10 = (
  record {
    names = 6;
    formats = ((37 ∷ 100 ∷ []) ∷ []);
    items = (item.Specification (x 1 14 1) [] (record {
      result = (Some (type_name.Void (at 1
          26)));
      name = (x 1 31 2);
      parameters = [];
    } ∷ record { result = (Some (type_name.Number numeric.Int)); name = (x 1 47 3); parameters = [] } ∷ [])
        ∷ item.Body (x 1 68 1) [] ((statement.Accept (record {
          head = record { place = (at 1 74); name = (x 1 81 2); names = []; clauses = [] };
          block =
              [];
        })) ∷ (statement.Accept (record {
          head = record { place = (at 1 87); name = (x 1 94 3); names = []; clauses = [] };
          block =
              ((statement.TransactionReturn (at 1 100) (Some (phrase.Number (at 1 108) (pos 1) numeric.Int))) ∷ []);
        })) ∷ []) ∷ item.Function (type_name.Number
        numeric.Int) (x 1 115 0) [] ((statement.Declare (record { of = (type_name.Process (x 1 132 1)); name = (x 1 134 4); form = form.Plain })) ∷
        (statement.Declare (record { of = (type_name.Number numeric.Int); name = (x 1 141 5); form = form.Plain })) ∷ (statement.Evaluate (phrase.Assign
        (phrase.Name (x 1 144 4)) (phrase.Create (at 1 148) (x 1 155 1) []))) ∷ (statement.Evaluate (phrase.Assign (phrase.Name (x 1 160 5))
        (phrase.Within (at 1 164) (phrase.Number (at 1 171) (pos 0) numeric.Int) (phrase.Chain (phrase.Name (x 1 175 4)) (step.Call (x 1 177 3) [] ∷ []))
        (phrase.Number (at 1 183) (pos 7) numeric.Int)))) ∷ (statement.Evaluate (phrase.PrintFormat (at 1 186) (record { place = (at 1 193); number = 0 })
        ((phrase.Name (x 1 199 5)) ∷ []))) ∷ (statement.Evaluate (phrase.Chain (phrase.Name (x 1 203 4)) (step.Call (x 1 205 2) [] ∷ []))) ∷
        (statement.Evaluate (phrase.PrintFormat (at 1 211) (record { place = (at 1 218); number = 0 }) ((phrase.Chain (phrase.Name (x 1 224 4)) (step.Call
        (x 1 226 3) [] ∷ [])) ∷ []))) ∷ []) ∷ []);
  },
  None,
)

-- (a longer text)
abbrev text11 : Row
text11 = (
  record {
    names = 7;
    formats = [];
    items = (item.Specification (x 1 14 1) [] (record {
      result = (Some (type_name.Void (at 1 26)));
      name = (x 1 31
          2);
      parameters = ((type_name.Process (x 1 42 1)) ∷ []);
    } ∷ record {
      result = (Some (type_name.Void (at 1 54)));
      name = (x 1 59 3);
      parameters = [];
    } ∷ []) ∷ item.Body (x 1 80 1) [] ((statement.Declare (record { of = (type_name.Process (x 1 94 1)); name = (x 1 96 4); form = form.Plain })) ∷
        (statement.Accept (record {
          head = record { place = (at 1 99); name = (x 1 106 2); names = ((x 1 109 5) ∷ []); clauses = [] };
          block =
              ((statement.Evaluate (phrase.Assign (phrase.Name (x 1 114 4)) (phrase.Name (x 1 118 5)))) ∷ []);
        })) ∷ (statement.Evaluate (phrase.Chain
        (phrase.Name (x 1 123 4)) (step.Call (x 1 125 3) [] ∷ []))) ∷ []) ∷ item.Function (type_name.Number numeric.Int) (x 1 132 0) []
        ((statement.Declare (record { of = (type_name.Process (x 1 149 1)); name = (x 1 151 6); form = form.Plain })) ∷ (statement.Evaluate (phrase.Assign
        (phrase.Name (x 1 154 6)) (phrase.Create (at 1 158) (x 1 165 1) []))) ∷ (statement.Evaluate (phrase.Chain (phrase.Name (x 1 170 6)) (step.Call (x
        1 172 2) ((phrase.Name (x 1 175 6)) ∷ []) ∷ []))) ∷ []) ∷ []);
  },
  None,
)

abbrev pub rows : List Row
rows = text0 ∷ text1 ∷ text2 ∷ text3 ∷ text4 ∷ text5 ∷ text6 ∷ text7 ∷ text8 ∷ text9 ∷ text10 ∷ text11 ∷ []
