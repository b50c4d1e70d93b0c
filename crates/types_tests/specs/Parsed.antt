-- Texts as tokens, and the plain tree of each.
use Rattle.std.specs.Prelude.{pos, true, false, List, [], ◌∷◌, Some, None}
use Rattle.cc_base.specs.declared.numbers.Comparison.TheVariants as comparison
use Rattle.cc_base.specs.declared.numbers.NumberType.TheVariants as numeric
use Rattle.cc_base.specs.declared.numbers.Operator.TheVariants as operator
use Rattle.cc_lex.specs.declared.token.Mark.TheVariants as mark
use Rattle.cc_lex.specs.declared.token.Size.TheVariants as size
use Rattle.cc_lex.specs.declared.token.What.TheVariants as what
use Rattle.cc_lex.specs.declared.token.Word.TheVariants as word
use Rattle.cc_faults.specs.declared.plain.Choice.TheVariants as choice
use Rattle.cc_faults.specs.declared.plain.ClauseWord.TheVariants as clause_word
use Rattle.cc_faults.specs.declared.plain.Item.TheVariants as item
use Rattle.cc_faults.specs.declared.plain.Length.TheVariants as some_length
use Rattle.cc_faults.specs.declared.plain.LocalForm.TheVariants as form
use Rattle.cc_faults.specs.declared.plain.Phrase.TheVariants as phrase
use Rattle.cc_faults.specs.declared.plain.Statement.TheVariants as statement
use Rattle.cc_faults.specs.declared.plain.Step.TheVariants as step
use Rattle.cc_faults.specs.declared.plain.StepWord.TheVariants as step_word
use Rattle.cc_faults.specs.declared.plain.TypeName.TheVariants as type_name
use Rattle.types_tests.specs.Seen.{at, x}
use Rattle.types_tests.specs.Trees.{Row}

-- main() { putchar(72); putchar(105); }
abbrev text0 : Row
text0 = (
  record {
    tokens = (record { place = at 1 1; what = what.Name (109 ∷ 97 ∷ 105 ∷ 110 ∷ []) } ∷ record {
      place = at 1 5;
      what = what.Mark
          mark.OpenParenthesis;
    } ∷ record { place = at 1 6; what = what.Mark mark.CloseParenthesis } ∷ record {
      place = at 1 8;
      what = what.Mark
          mark.OpenBrace;
    } ∷ record { place = at 1 10; what = what.Word word.Putchar } ∷ record { place = at 1 17; what = what.Mark mark.OpenParenthesis } ∷
        record { place = at 1 18; what = what.Number (pos 72) size.Int } ∷ record { place = at 1 20; what = what.Mark mark.CloseParenthesis } ∷ record {
          place = at 1 21;
          what = what.Mark mark.Semicolon;
        } ∷ record { place = at 1 23; what = what.Word word.Putchar } ∷ record {
          place = at 1 30;
          what =
              what.Mark mark.OpenParenthesis;
        } ∷ record { place = at 1 31; what = what.Number (pos 105) size.Int } ∷ record {
          place = at 1 34;
          what = what.Mark
              mark.CloseParenthesis;
        } ∷ record { place = at 1 35; what = what.Mark mark.Semicolon } ∷ record {
          place = at 1 37;
          what = what.Mark mark.CloseBrace;
        } ∷ []);
    end = at 1 38;
  },
  Some (record {
    names = 1;
    formats = [];
    items = (item.Function (type_name.Number numeric.Int) (x 1 1 0) []
        ((statement.Evaluate (phrase.PutChar (at 1 10) (phrase.Number (at 1 18) (pos 72) numeric.Int))) ∷ (statement.Evaluate (phrase.PutChar (at 1 23)
        (phrase.Number (at 1 31) (pos 105) numeric.Int))) ∷ []) ∷ []);
  }),
)

-- struct x { int x, y[2]; }; enum x { A, B = -'a', C = 3L }; process spec x(int a, char); f(struct x a, long b) { }
abbrev text1 : Row
text1 = (
  record {
    tokens = (record { place = at 1 1; what = what.Word word.Struct } ∷ record { place = at 1 8; what = what.Name (120 ∷ []) } ∷ record {
      place = at 1 10;
      what = what.Mark mark.OpenBrace;
    } ∷ record { place = at 1 12; what = what.Word word.Int } ∷ record {
      place = at 1 16;
      what =
          what.Name (120 ∷ []);
    } ∷ record { place = at 1 17; what = what.Mark mark.Comma } ∷ record { place = at 1 19; what = what.Name (121 ∷ []) } ∷
        record { place = at 1 20; what = what.Mark mark.OpenBracket } ∷ record { place = at 1 21; what = what.Number (pos 2) size.Int } ∷ record {
          place =
              at 1 22;
          what = what.Mark mark.CloseBracket;
        } ∷ record { place = at 1 23; what = what.Mark mark.Semicolon } ∷ record {
          place = at 1 25;
          what =
              what.Mark mark.CloseBrace;
        } ∷ record { place = at 1 26; what = what.Mark mark.Semicolon } ∷ record { place = at 1 28; what = what.Word word.Enum }
        ∷ record { place = at 1 33; what = what.Name (120 ∷ []) } ∷ record { place = at 1 35; what = what.Mark mark.OpenBrace } ∷ record {
          place = at 1
              37;
          what = what.Name (65 ∷ []);
        } ∷ record { place = at 1 38; what = what.Mark mark.Comma } ∷ record {
          place = at 1 40;
          what = what.Name (66 ∷ []);
        } ∷ record { place = at 1 42; what = what.Mark mark.Assign } ∷ record { place = at 1 44; what = what.Mark mark.Minus } ∷ record {
          place = at 1 45;
          what = what.Character 97;
        } ∷ record { place = at 1 48; what = what.Mark mark.Comma } ∷ record { place = at 1 50; what = what.Name (67 ∷ []) } ∷
        record { place = at 1 52; what = what.Mark mark.Assign } ∷ record { place = at 1 54; what = what.Number (pos 3) size.Long } ∷ record {
          place = at
              1 57;
          what = what.Mark mark.CloseBrace;
        } ∷ record { place = at 1 58; what = what.Mark mark.Semicolon } ∷ record {
          place = at 1 60;
          what =
              what.Word word.Process;
        } ∷ record { place = at 1 68; what = what.Word word.Spec } ∷ record { place = at 1 73; what = what.Name (120 ∷ []) } ∷
        record { place = at 1 74; what = what.Mark mark.OpenParenthesis } ∷ record { place = at 1 75; what = what.Word word.Int } ∷ record {
          place = at 1
              79;
          what = what.Name (97 ∷ []);
        } ∷ record { place = at 1 80; what = what.Mark mark.Comma } ∷ record {
          place = at 1 82;
          what = what.Word word.Char;
        } ∷ record { place = at 1 86; what = what.Mark mark.CloseParenthesis } ∷ record { place = at 1 87; what = what.Mark mark.Semicolon } ∷ record {
          place = at 1 89;
          what = what.Name (102 ∷ []);
        } ∷ record { place = at 1 90; what = what.Mark mark.OpenParenthesis } ∷ record {
          place = at 1 91;
          what = what.Word word.Struct;
        } ∷ record { place = at 1 98; what = what.Name (120 ∷ []) } ∷ record { place = at 1 100; what = what.Name (97 ∷ []) }
        ∷ record { place = at 1 101; what = what.Mark mark.Comma } ∷ record { place = at 1 103; what = what.Word word.Long } ∷ record {
          place = at 1 108;
          what = what.Name (98 ∷ []);
        } ∷ record { place = at 1 109; what = what.Mark mark.CloseParenthesis } ∷ record {
          place = at 1 111;
          what = what.Mark
              mark.OpenBrace;
        } ∷ record { place = at 1 113; what = what.Mark mark.CloseBrace } ∷ []);
    end = at 1 114;
  },
  Some (record {
    names = 9;
    formats = [];
    items = (item.Structure (x 1 8 1) (record { of = (type_name.Number numeric.Int); name = (x 1 16 1); length = None } ∷ record {
      of =
          (type_name.Number numeric.Int);
      name = (x 1 19 2);
      length = (Some (some_length.Number (at 1 21) (pos 2)));
    } ∷ []) ∷ item.Enumeration (Some (x 1 33
        1)) (record { name = (x 1 37 3); value = None } ∷ record {
          name = (x 1 40 4);
          value = (Some (record {
            negative = true;
            length =
                (some_length.Number (at 1 45) (pos 97));
          }));
        } ∷ record {
          name = (x 1 50 5);
          value = (Some (record {
            negative = false;
            length = (some_length.Number
                (at 1 54) (pos 3));
          }));
        } ∷ []) ∷ item.Specification (x 1 73 1) ((type_name.Number numeric.Int) ∷ (type_name.Number numeric.Char) ∷ []) [] ∷
        item.Function (type_name.Number numeric.Int) (x 1 89 6) (record { of = (type_name.Structure (x 1 98 1)); name = (x 1 100 7) } ∷ record {
          of =
              (type_name.Number numeric.Long);
          name = (x 1 108 8);
        } ∷ []) [] ∷ []);
  }),
)

-- process spec p() { trans async t(void); trans int u(process p x, enum e); }; process body p(a, b) { accept t(); accept u(x, y) suchthat (x == y != 1) by (-x + !y * +2 / 3 % 4 - 5) { treturn x; } }
abbrev text2 : Row
text2 = (
  record {
    tokens = (record { place = at 1 1; what = what.Word word.Process } ∷ record { place = at 1 9; what = what.Word word.Spec } ∷ record {
      place = at 1 14;
      what = what.Name (112 ∷ []);
    } ∷ record { place = at 1 15; what = what.Mark mark.OpenParenthesis } ∷ record {
      place = at 1 16;
      what = what.Mark mark.CloseParenthesis;
    } ∷ record { place = at 1 18; what = what.Mark mark.OpenBrace } ∷ record {
      place = at 1 20;
      what =
          what.Word word.Trans;
    } ∷ record { place = at 1 26; what = what.Word word.Async } ∷ record { place = at 1 32; what = what.Name (116 ∷ []) } ∷
        record { place = at 1 33; what = what.Mark mark.OpenParenthesis } ∷ record { place = at 1 34; what = what.Word word.Void } ∷ record {
          place = at 1
              38;
          what = what.Mark mark.CloseParenthesis;
        } ∷ record { place = at 1 39; what = what.Mark mark.Semicolon } ∷ record {
          place = at 1 41;
          what =
              what.Word word.Trans;
        } ∷ record { place = at 1 47; what = what.Word word.Int } ∷ record { place = at 1 51; what = what.Name (117 ∷ []) } ∷ record
        { place = at 1 52; what = what.Mark mark.OpenParenthesis } ∷ record { place = at 1 53; what = what.Word word.Process } ∷ record {
          place = at 1 61;
          what = what.Name (112 ∷ []);
        } ∷ record { place = at 1 63; what = what.Name (120 ∷ []) } ∷ record { place = at 1 64; what = what.Mark mark.Comma }
        ∷ record { place = at 1 66; what = what.Word word.Enum } ∷ record { place = at 1 71; what = what.Name (101 ∷ []) } ∷ record {
          place = at 1 72;
          what = what.Mark mark.CloseParenthesis;
        } ∷ record { place = at 1 73; what = what.Mark mark.Semicolon } ∷ record {
          place = at 1 75;
          what =
              what.Mark mark.CloseBrace;
        } ∷ record { place = at 1 76; what = what.Mark mark.Semicolon } ∷ record {
          place = at 1 78;
          what = what.Word
              word.Process;
        } ∷ record { place = at 1 86; what = what.Word word.Body } ∷ record { place = at 1 91; what = what.Name (112 ∷ []) } ∷ record {
          place
              = at 1 92;
          what = what.Mark mark.OpenParenthesis;
        } ∷ record { place = at 1 93; what = what.Name (97 ∷ []) } ∷ record {
          place = at 1 94;
          what =
              what.Mark mark.Comma;
        } ∷ record { place = at 1 96; what = what.Name (98 ∷ []) } ∷ record {
          place = at 1 97;
          what = what.Mark mark.CloseParenthesis;
        } ∷ record { place = at 1 99; what = what.Mark mark.OpenBrace } ∷ record { place = at 1 101; what = what.Word word.Accept } ∷ record {
          place = at
              1 108;
          what = what.Name (116 ∷ []);
        } ∷ record { place = at 1 109; what = what.Mark mark.OpenParenthesis } ∷ record {
          place = at 1 110;
          what =
              what.Mark mark.CloseParenthesis;
        } ∷ record { place = at 1 111; what = what.Mark mark.Semicolon } ∷ record {
          place = at 1 113;
          what = what.Word
              word.Accept;
        } ∷ record { place = at 1 120; what = what.Name (117 ∷ []) } ∷ record { place = at 1 121; what = what.Mark mark.OpenParenthesis } ∷
        record { place = at 1 122; what = what.Name (120 ∷ []) } ∷ record { place = at 1 123; what = what.Mark mark.Comma } ∷ record {
          place = at 1 125;
          what = what.Name (121 ∷ []);
        } ∷ record { place = at 1 126; what = what.Mark mark.CloseParenthesis } ∷ record {
          place = at 1 128;
          what = what.Word
              word.Suchthat;
        } ∷ record { place = at 1 137; what = what.Mark mark.OpenParenthesis } ∷ record { place = at 1 138; what = what.Name (120 ∷ []) } ∷
        record { place = at 1 140; what = what.Mark mark.Equal } ∷ record { place = at 1 143; what = what.Name (121 ∷ []) } ∷ record {
          place = at 1 145;
          what = what.Mark mark.NotEqual;
        } ∷ record { place = at 1 148; what = what.Number (pos 1) size.Int } ∷ record {
          place = at 1 149;
          what = what.Mark
              mark.CloseParenthesis;
        } ∷ record { place = at 1 151; what = what.Word word.By } ∷ record {
          place = at 1 154;
          what = what.Mark mark.OpenParenthesis;
        } ∷ record { place = at 1 155; what = what.Mark mark.Minus } ∷ record { place = at 1 156; what = what.Name (120 ∷ []) } ∷ record {
          place = at 1
              158;
          what = what.Mark mark.Plus;
        } ∷ record { place = at 1 160; what = what.Mark mark.Not } ∷ record {
          place = at 1 161;
          what = what.Name (121 ∷
              []);
        } ∷ record { place = at 1 163; what = what.Mark mark.Star } ∷ record { place = at 1 165; what = what.Mark mark.Plus } ∷ record {
          place = at 1
              166;
          what = what.Number (pos 2) size.Int;
        } ∷ record { place = at 1 168; what = what.Mark mark.Slash } ∷ record {
          place = at 1 170;
          what =
              what.Number (pos 3) size.Int;
        } ∷ record { place = at 1 172; what = what.Mark mark.Percent } ∷ record {
          place = at 1 174;
          what = what.Number (pos
              4) size.Int;
        } ∷ record { place = at 1 176; what = what.Mark mark.Minus } ∷ record { place = at 1 178; what = what.Number (pos 5) size.Int } ∷
        record { place = at 1 179; what = what.Mark mark.CloseParenthesis } ∷ record { place = at 1 181; what = what.Mark mark.OpenBrace } ∷ record {
          place = at 1 183;
          what = what.Word word.Treturn;
        } ∷ record { place = at 1 191; what = what.Name (120 ∷ []) } ∷ record {
          place = at 1 192;
          what =
              what.Mark mark.Semicolon;
        } ∷ record { place = at 1 194; what = what.Mark mark.CloseBrace } ∷ record {
          place = at 1 196;
          what = what.Mark
              mark.CloseBrace;
        } ∷ []);
    end = at 1 197;
  },
  Some (record {
    names = 9;
    formats = [];
    items = (item.Specification (x 1 14 1) [] (record {
      result =
          None;
      name = (x 1 32 2);
      parameters = [];
    } ∷ record {
      result = (Some (type_name.Number numeric.Int));
      name = (x 1 51 3);
      parameters =
          ((type_name.Process (x 1 61 1)) ∷ (type_name.Enumeration (x 1 71 4)) ∷ []);
    } ∷ []) ∷ item.Body (x 1 91 1) ((x 1 93 5) ∷ (x 1 96 6) ∷ [])
        ((statement.Accept (record { head = record { place = (at 1 101); name = (x 1 108 2); names = []; clauses = [] }; block = [] })) ∷
        (statement.Accept (record {
          head = record {
            place = (at 1 113);
            name = (x 1 120 3);
            names = ((x 1 122 7) ∷ (x 1 125 8) ∷ []);
            clauses = (record {
              word = clause_word.SuchThat;
              expression = (phrase.Compare (phrase.Name (x 1 138 7)) (record {
                comparison = comparison.Equal;
                operand =
                    (phrase.Name (x 1 143 8));
              } ∷ record { comparison = comparison.Different; operand = (phrase.Number (at 1 148) (pos 1) numeric.Int) } ∷ []));
            } ∷
                record {
                  word = clause_word.By;
                  expression = (phrase.Arithmetic (phrase.Negate (at 1 155) (phrase.Name (x 1 156 7))) (record {
                    operator =
                        operator.Add;
                    operand = (phrase.Arithmetic (phrase.Not (at 1 160) (phrase.Name (x 1 161 8))) (record {
                      operator = operator.Multiply;
                      operand =
                          (phrase.Plus (at 1 165) (phrase.Number (at 1 166) (pos 2) numeric.Int));
                    } ∷ record {
                      operator = operator.Divide;
                      operand = (phrase.Number (at 1
                          170) (pos 3) numeric.Int);
                    } ∷ record { operator = operator.Remainder; operand = (phrase.Number (at 1 174) (pos 4) numeric.Int) } ∷ []));
                  } ∷ record
                      { operator = operator.Subtract; operand = (phrase.Number (at 1 178) (pos 5) numeric.Int) } ∷ []));
                } ∷ []);
          };
          block = ((statement.TransactionReturn
              (at 1 183) (Some (phrase.Name (x 1 191 7)))) ∷ []);
        })) ∷ []) ∷ []);
  }),
)

-- main() { int a = 1, b[3], c; a = b[c = 2]; a += 1; a -= 2; a *= 3; a /= 4; a %= 5; ++a; --b[1]; c++; c--; }
abbrev text3 : Row
text3 = (
  record {
    tokens = (record { place = at 1 1; what = what.Name (109 ∷ 97 ∷ 105 ∷ 110 ∷ []) } ∷ record {
      place = at 1 5;
      what = what.Mark
          mark.OpenParenthesis;
    } ∷ record { place = at 1 6; what = what.Mark mark.CloseParenthesis } ∷ record {
      place = at 1 8;
      what = what.Mark
          mark.OpenBrace;
    } ∷ record { place = at 1 10; what = what.Word word.Int } ∷ record { place = at 1 14; what = what.Name (97 ∷ []) } ∷ record {
      place
          = at 1 16;
      what = what.Mark mark.Assign;
    } ∷ record { place = at 1 18; what = what.Number (pos 1) size.Int } ∷ record {
      place = at 1 19;
      what =
          what.Mark mark.Comma;
    } ∷ record { place = at 1 21; what = what.Name (98 ∷ []) } ∷ record { place = at 1 22; what = what.Mark mark.OpenBracket } ∷
        record { place = at 1 23; what = what.Number (pos 3) size.Int } ∷ record { place = at 1 24; what = what.Mark mark.CloseBracket } ∷ record {
          place
              = at 1 25;
          what = what.Mark mark.Comma;
        } ∷ record { place = at 1 27; what = what.Name (99 ∷ []) } ∷ record {
          place = at 1 28;
          what = what.Mark
              mark.Semicolon;
        } ∷ record { place = at 1 30; what = what.Name (97 ∷ []) } ∷ record { place = at 1 32; what = what.Mark mark.Assign } ∷ record {
          place = at 1 34;
          what = what.Name (98 ∷ []);
        } ∷ record { place = at 1 35; what = what.Mark mark.OpenBracket } ∷ record {
          place = at 1 36;
          what =
              what.Name (99 ∷ []);
        } ∷ record { place = at 1 38; what = what.Mark mark.Assign } ∷ record { place = at 1 40; what = what.Number (pos 2) size.Int }
        ∷ record { place = at 1 41; what = what.Mark mark.CloseBracket } ∷ record { place = at 1 42; what = what.Mark mark.Semicolon } ∷ record {
          place =
              at 1 44;
          what = what.Name (97 ∷ []);
        } ∷ record { place = at 1 46; what = what.Mark mark.PlusAssign } ∷ record {
          place = at 1 49;
          what =
              what.Number (pos 1) size.Int;
        } ∷ record { place = at 1 50; what = what.Mark mark.Semicolon } ∷ record {
          place = at 1 52;
          what = what.Name (97 ∷
              []);
        } ∷ record { place = at 1 54; what = what.Mark mark.MinusAssign } ∷ record { place = at 1 57; what = what.Number (pos 2) size.Int } ∷ record {
          place = at 1 58;
          what = what.Mark mark.Semicolon;
        } ∷ record { place = at 1 60; what = what.Name (97 ∷ []) } ∷ record {
          place = at 1 62;
          what =
              what.Mark mark.StarAssign;
        } ∷ record { place = at 1 65; what = what.Number (pos 3) size.Int } ∷ record {
          place = at 1 66;
          what = what.Mark
              mark.Semicolon;
        } ∷ record { place = at 1 68; what = what.Name (97 ∷ []) } ∷ record { place = at 1 70; what = what.Mark mark.SlashAssign } ∷ record
        { place = at 1 73; what = what.Number (pos 4) size.Int } ∷ record { place = at 1 74; what = what.Mark mark.Semicolon } ∷ record {
          place = at 1 76;
          what = what.Name (97 ∷ []);
        } ∷ record { place = at 1 78; what = what.Mark mark.PercentAssign } ∷ record {
          place = at 1 81;
          what = what.Number (pos
              5) size.Int;
        } ∷ record { place = at 1 82; what = what.Mark mark.Semicolon } ∷ record { place = at 1 84; what = what.Mark mark.Increment } ∷ record
        { place = at 1 86; what = what.Name (97 ∷ []) } ∷ record { place = at 1 87; what = what.Mark mark.Semicolon } ∷ record {
          place = at 1 89;
          what =
              what.Mark mark.Decrement;
        } ∷ record { place = at 1 91; what = what.Name (98 ∷ []) } ∷ record {
          place = at 1 92;
          what = what.Mark mark.OpenBracket;
        } ∷ record { place = at 1 93; what = what.Number (pos 1) size.Int } ∷ record { place = at 1 94; what = what.Mark mark.CloseBracket } ∷ record {
          place = at 1 95;
          what = what.Mark mark.Semicolon;
        } ∷ record { place = at 1 97; what = what.Name (99 ∷ []) } ∷ record {
          place = at 1 98;
          what =
              what.Mark mark.Increment;
        } ∷ record { place = at 1 100; what = what.Mark mark.Semicolon } ∷ record {
          place = at 1 102;
          what = what.Name (99 ∷ []);
        } ∷ record { place = at 1 103; what = what.Mark mark.Decrement } ∷ record { place = at 1 105; what = what.Mark mark.Semicolon } ∷ record {
          place =
              at 1 107;
          what = what.Mark mark.CloseBrace;
        } ∷ []);
    end = at 1 108;
  },
  Some (record {
    names = 4;
    formats = [];
    items = (item.Function
        (type_name.Number numeric.Int) (x 1 1 0) [] ((statement.Declare (record {
          of = (type_name.Number numeric.Int);
          name = (x 1 14 1);
          form =
              form.Value (phrase.Number (at 1 18) (pos 1) numeric.Int);
        })) ∷ (statement.Declare (record {
          of = (type_name.Number numeric.Int);
          name = (x 1 21
              2);
          form = form.Array (some_length.Number (at 1 23) (pos 3));
        })) ∷ (statement.Declare (record {
          of = (type_name.Number numeric.Int);
          name = (x 1
              27 3);
          form = form.Plain;
        })) ∷ (statement.Evaluate (phrase.Assign (phrase.Name (x 1 30 1)) (phrase.Chain (phrase.Name (x 1 34 2)) (step.Index
        (phrase.Assign (phrase.Name (x 1 36 3)) (phrase.Number (at 1 40) (pos 2) numeric.Int)) ∷ [])))) ∷ (statement.Evaluate (phrase.Update (phrase.Name
        (x 1 44 1)) operator.Add (phrase.Number (at 1 49) (pos 1) numeric.Int))) ∷ (statement.Evaluate (phrase.Update (phrase.Name (x 1 52 1))
        operator.Subtract (phrase.Number (at 1 57) (pos 2) numeric.Int))) ∷ (statement.Evaluate (phrase.Update (phrase.Name (x 1 60 1)) operator.Multiply
        (phrase.Number (at 1 65) (pos 3) numeric.Int))) ∷ (statement.Evaluate (phrase.Update (phrase.Name (x 1 68 1)) operator.Divide (phrase.Number (at 1
        73) (pos 4) numeric.Int))) ∷ (statement.Evaluate (phrase.Update (phrase.Name (x 1 76 1)) operator.Remainder (phrase.Number (at 1 81) (pos 5)
        numeric.Int))) ∷ (statement.Evaluate (phrase.StepBefore (at 1 84) step_word.Up (phrase.Name (x 1 86 1)))) ∷ (statement.Evaluate (phrase.StepBefore
        (at 1 89) step_word.Down (phrase.Chain (phrase.Name (x 1 91 2)) (step.Index (phrase.Number (at 1 93) (pos 1) numeric.Int) ∷ [])))) ∷
        (statement.Evaluate (phrase.StepAfter (phrase.Name (x 1 97 3)) step_word.Up)) ∷ (statement.Evaluate (phrase.StepAfter (phrase.Name (x 1 102 3))
        step_word.Down)) ∷ []) ∷ []);
  }),
)

-- main() { a < b <= c > d >= e; a && b && c || d || e; a ? b : c ? d : e; (a); 'x' == '\n'; }
abbrev text4 : Row
text4 = (
  record {
    tokens = (record { place = at 1 1; what = what.Name (109 ∷ 97 ∷ 105 ∷ 110 ∷ []) } ∷ record {
      place = at 1 5;
      what = what.Mark
          mark.OpenParenthesis;
    } ∷ record { place = at 1 6; what = what.Mark mark.CloseParenthesis } ∷ record {
      place = at 1 8;
      what = what.Mark
          mark.OpenBrace;
    } ∷ record { place = at 1 10; what = what.Name (97 ∷ []) } ∷ record { place = at 1 12; what = what.Mark mark.Less } ∷ record {
      place = at 1 14;
      what = what.Name (98 ∷ []);
    } ∷ record { place = at 1 16; what = what.Mark mark.LessEqual } ∷ record {
      place = at 1 19;
      what =
          what.Name (99 ∷ []);
    } ∷ record { place = at 1 21; what = what.Mark mark.Greater } ∷ record { place = at 1 23; what = what.Name (100 ∷ []) } ∷
        record { place = at 1 25; what = what.Mark mark.GreaterEqual } ∷ record { place = at 1 28; what = what.Name (101 ∷ []) } ∷ record {
          place = at 1
              29;
          what = what.Mark mark.Semicolon;
        } ∷ record { place = at 1 31; what = what.Name (97 ∷ []) } ∷ record {
          place = at 1 33;
          what = what.Mark
              mark.And;
        } ∷ record { place = at 1 36; what = what.Name (98 ∷ []) } ∷ record { place = at 1 38; what = what.Mark mark.And } ∷ record {
          place = at
              1 41;
          what = what.Name (99 ∷ []);
        } ∷ record { place = at 1 43; what = what.Mark mark.Or } ∷ record {
          place = at 1 46;
          what = what.Name (100 ∷ []);
        } ∷ record { place = at 1 48; what = what.Mark mark.Or } ∷ record { place = at 1 51; what = what.Name (101 ∷ []) } ∷ record {
          place = at 1 52;
          what = what.Mark mark.Semicolon;
        } ∷ record { place = at 1 54; what = what.Name (97 ∷ []) } ∷ record {
          place = at 1 56;
          what = what.Mark
              mark.Question;
        } ∷ record { place = at 1 58; what = what.Name (98 ∷ []) } ∷ record { place = at 1 60; what = what.Mark mark.Colon } ∷ record {
          place = at 1 62;
          what = what.Name (99 ∷ []);
        } ∷ record { place = at 1 64; what = what.Mark mark.Question } ∷ record {
          place = at 1 66;
          what =
              what.Name (100 ∷ []);
        } ∷ record { place = at 1 68; what = what.Mark mark.Colon } ∷ record { place = at 1 70; what = what.Name (101 ∷ []) } ∷
        record { place = at 1 71; what = what.Mark mark.Semicolon } ∷ record { place = at 1 73; what = what.Mark mark.OpenParenthesis } ∷ record {
          place =
              at 1 74;
          what = what.Name (97 ∷ []);
        } ∷ record { place = at 1 75; what = what.Mark mark.CloseParenthesis } ∷ record {
          place = at 1 76;
          what =
              what.Mark mark.Semicolon;
        } ∷ record { place = at 1 78; what = what.Character 120 } ∷ record { place = at 1 82; what = what.Mark mark.Equal } ∷
        record { place = at 1 85; what = what.Character 10 } ∷ record { place = at 1 89; what = what.Mark mark.Semicolon } ∷ record {
          place = at 1 91;
          what = what.Mark mark.CloseBrace;
        } ∷ []);
    end = at 1 92;
  },
  Some (record {
    names = 6;
    formats = [];
    items = (item.Function (type_name.Number
        numeric.Int) (x 1 1 0) [] ((statement.Evaluate (phrase.Compare (phrase.Name (x 1 10 1)) (record {
          comparison = comparison.Less;
          operand =
              (phrase.Name (x 1 14 2));
        } ∷ record { comparison = comparison.AtMost; operand = (phrase.Name (x 1 19 3)) } ∷ record {
          comparison =
              comparison.Greater;
          operand = (phrase.Name (x 1 23 4));
        } ∷ record { comparison = comparison.AtLeast; operand = (phrase.Name (x 1 28 5)) } ∷ [])))
        ∷ (statement.Evaluate (phrase.Either (phrase.Both (phrase.Name (x 1 31 1)) ((phrase.Name (x 1 36 2)) ∷ (phrase.Name (x 1 41 3)) ∷ []))
        ((phrase.Name (x 1 46 4)) ∷ (phrase.Name (x 1 51 5)) ∷ []))) ∷ (statement.Evaluate (phrase.Choose (phrase.Name (x 1 54 1)) (phrase.Name (x 1 58
        2)) (phrase.Choose (phrase.Name (x 1 62 3)) (phrase.Name (x 1 66 4)) (phrase.Name (x 1 70 5))))) ∷ (statement.Evaluate (phrase.Parenthesized (at 1
        73) (phrase.Name (x 1 74 1)))) ∷ (statement.Evaluate (phrase.Compare (phrase.Number (at 1 78) (pos 120) numeric.Int) (record {
          comparison =
              comparison.Equal;
          operand = (phrase.Number (at 1 85) (pos 10) numeric.Int);
        } ∷ []))) ∷ []) ∷ []);
  }),
)

-- main() { within 1 ? p.t(x).u : 3; create p(1, x); getchar(); f(); f(1); a.b[1].c(); x.y++; }
abbrev text5 : Row
text5 = (
  record {
    tokens = (record { place = at 1 1; what = what.Name (109 ∷ 97 ∷ 105 ∷ 110 ∷ []) } ∷ record {
      place = at 1 5;
      what = what.Mark
          mark.OpenParenthesis;
    } ∷ record { place = at 1 6; what = what.Mark mark.CloseParenthesis } ∷ record {
      place = at 1 8;
      what = what.Mark
          mark.OpenBrace;
    } ∷ record { place = at 1 10; what = what.Word word.Within } ∷ record { place = at 1 17; what = what.Number (pos 1) size.Int } ∷
        record { place = at 1 19; what = what.Mark mark.Question } ∷ record { place = at 1 21; what = what.Name (112 ∷ []) } ∷ record {
          place = at 1 22;
          what = what.Mark mark.Dot;
        } ∷ record { place = at 1 23; what = what.Name (116 ∷ []) } ∷ record {
          place = at 1 24;
          what = what.Mark
              mark.OpenParenthesis;
        } ∷ record { place = at 1 25; what = what.Name (120 ∷ []) } ∷ record {
          place = at 1 26;
          what = what.Mark
              mark.CloseParenthesis;
        } ∷ record { place = at 1 27; what = what.Mark mark.Dot } ∷ record { place = at 1 28; what = what.Name (117 ∷ []) } ∷ record
        { place = at 1 30; what = what.Mark mark.Colon } ∷ record { place = at 1 32; what = what.Number (pos 3) size.Int } ∷ record {
          place = at 1 33;
          what = what.Mark mark.Semicolon;
        } ∷ record { place = at 1 35; what = what.Word word.Create } ∷ record {
          place = at 1 42;
          what = what.Name (112 ∷
              []);
        } ∷ record { place = at 1 43; what = what.Mark mark.OpenParenthesis } ∷ record { place = at 1 44; what = what.Number (pos 1) size.Int } ∷
        record { place = at 1 45; what = what.Mark mark.Comma } ∷ record { place = at 1 47; what = what.Name (120 ∷ []) } ∷ record {
          place = at 1 48;
          what
              = what.Mark mark.CloseParenthesis;
        } ∷ record { place = at 1 49; what = what.Mark mark.Semicolon } ∷ record {
          place = at 1 51;
          what = what.Word
              word.Getchar;
        } ∷ record { place = at 1 58; what = what.Mark mark.OpenParenthesis } ∷ record {
          place = at 1 59;
          what = what.Mark
              mark.CloseParenthesis;
        } ∷ record { place = at 1 60; what = what.Mark mark.Semicolon } ∷ record { place = at 1 62; what = what.Name (102 ∷ []) } ∷
        record { place = at 1 63; what = what.Mark mark.OpenParenthesis } ∷ record { place = at 1 64; what = what.Mark mark.CloseParenthesis } ∷ record {
          place = at 1 65;
          what = what.Mark mark.Semicolon;
        } ∷ record { place = at 1 67; what = what.Name (102 ∷ []) } ∷ record {
          place = at 1 68;
          what =
              what.Mark mark.OpenParenthesis;
        } ∷ record { place = at 1 69; what = what.Number (pos 1) size.Int } ∷ record {
          place = at 1 70;
          what = what.Mark
              mark.CloseParenthesis;
        } ∷ record { place = at 1 71; what = what.Mark mark.Semicolon } ∷ record { place = at 1 73; what = what.Name (97 ∷ []) } ∷
        record { place = at 1 74; what = what.Mark mark.Dot } ∷ record { place = at 1 75; what = what.Name (98 ∷ []) } ∷ record {
          place = at 1 76;
          what =
              what.Mark mark.OpenBracket;
        } ∷ record { place = at 1 77; what = what.Number (pos 1) size.Int } ∷ record {
          place = at 1 78;
          what = what.Mark
              mark.CloseBracket;
        } ∷ record { place = at 1 79; what = what.Mark mark.Dot } ∷ record { place = at 1 80; what = what.Name (99 ∷ []) } ∷ record {
          place = at 1 81;
          what = what.Mark mark.OpenParenthesis;
        } ∷ record { place = at 1 82; what = what.Mark mark.CloseParenthesis } ∷ record {
          place =
              at 1 83;
          what = what.Mark mark.Semicolon;
        } ∷ record { place = at 1 85; what = what.Name (120 ∷ []) } ∷ record {
          place = at 1 86;
          what = what.Mark
              mark.Dot;
        } ∷ record { place = at 1 87; what = what.Name (121 ∷ []) } ∷ record { place = at 1 88; what = what.Mark mark.Increment } ∷ record {
          place = at 1 90;
          what = what.Mark mark.Semicolon;
        } ∷ record { place = at 1 92; what = what.Mark mark.CloseBrace } ∷ []);
    end = at 1 93;
  },
  Some
      (record {
        names = 10;
        formats = [];
        items = (item.Function (type_name.Number numeric.Int) (x 1 1 0) [] ((statement.Evaluate (phrase.Within (at 1
            10) (phrase.Number (at 1 17) (pos 1) numeric.Int) (phrase.Chain (phrase.Name (x 1 21 1)) (step.Call (x 1 23 2) ((phrase.Name (x 1 25 3)) ∷ []) ∷
            step.Field (x 1 28 4) ∷ [])) (phrase.Number (at 1 32) (pos 3) numeric.Int))) ∷ (statement.Evaluate (phrase.Create (at 1 35) (x 1 42 1)
            ((phrase.Number (at 1 44) (pos 1) numeric.Int) ∷ (phrase.Name (x 1 47 3)) ∷ []))) ∷ (statement.Evaluate (phrase.GetChar (at 1 51))) ∷
            (statement.Evaluate (phrase.Call (x 1 62 5) [])) ∷ (statement.Evaluate (phrase.Call (x 1 67 5) ((phrase.Number (at 1 69) (pos 1) numeric.Int) ∷
            []))) ∷ (statement.Evaluate (phrase.Chain (phrase.Name (x 1 73 6)) (step.Field (x 1 75 7) ∷ step.Index (phrase.Number (at 1 77) (pos 1)
            numeric.Int) ∷ step.Call (x 1 80 8) [] ∷ []))) ∷ (statement.Evaluate (phrase.StepAfter (phrase.Chain (phrase.Name (x 1 85 3)) (step.Field (x 1 87
            9) ∷ [])) step_word.Up)) ∷ []) ∷ []);
      }),
)

-- main() { if (1) ; else { } if (0) ; while (2) ; do ; while (3); for (a; b; c) ; for (;;) break; continue; return; return 1; treturn; delay 5; }
abbrev text6 : Row
text6 = (
  record {
    tokens = (record { place = at 1 1; what = what.Name (109 ∷ 97 ∷ 105 ∷ 110 ∷ []) } ∷ record {
      place = at 1 5;
      what = what.Mark
          mark.OpenParenthesis;
    } ∷ record { place = at 1 6; what = what.Mark mark.CloseParenthesis } ∷ record {
      place = at 1 8;
      what = what.Mark
          mark.OpenBrace;
    } ∷ record { place = at 1 10; what = what.Word word.If } ∷ record { place = at 1 13; what = what.Mark mark.OpenParenthesis } ∷
        record { place = at 1 14; what = what.Number (pos 1) size.Int } ∷ record { place = at 1 15; what = what.Mark mark.CloseParenthesis } ∷ record {
          place = at 1 17;
          what = what.Mark mark.Semicolon;
        } ∷ record { place = at 1 19; what = what.Word word.Else } ∷ record {
          place = at 1 24;
          what =
              what.Mark mark.OpenBrace;
        } ∷ record { place = at 1 26; what = what.Mark mark.CloseBrace } ∷ record { place = at 1 28; what = what.Word word.If } ∷
        record { place = at 1 31; what = what.Mark mark.OpenParenthesis } ∷ record { place = at 1 32; what = what.Number (pos 0) size.Int } ∷ record {
          place = at 1 33;
          what = what.Mark mark.CloseParenthesis;
        } ∷ record { place = at 1 35; what = what.Mark mark.Semicolon } ∷ record {
          place = at 1
              37;
          what = what.Word word.While;
        } ∷ record { place = at 1 43; what = what.Mark mark.OpenParenthesis } ∷ record {
          place = at 1 44;
          what =
              what.Number (pos 2) size.Int;
        } ∷ record { place = at 1 45; what = what.Mark mark.CloseParenthesis } ∷ record {
          place = at 1 47;
          what = what.Mark
              mark.Semicolon;
        } ∷ record { place = at 1 49; what = what.Word word.Do } ∷ record { place = at 1 52; what = what.Mark mark.Semicolon } ∷ record {
          place = at 1 54;
          what = what.Word word.While;
        } ∷ record { place = at 1 60; what = what.Mark mark.OpenParenthesis } ∷ record {
          place = at 1 61;
          what = what.Number (pos 3) size.Int;
        } ∷ record { place = at 1 62; what = what.Mark mark.CloseParenthesis } ∷ record {
          place = at 1 63;
          what =
              what.Mark mark.Semicolon;
        } ∷ record { place = at 1 65; what = what.Word word.For } ∷ record {
          place = at 1 69;
          what = what.Mark
              mark.OpenParenthesis;
        } ∷ record { place = at 1 70; what = what.Name (97 ∷ []) } ∷ record { place = at 1 71; what = what.Mark mark.Semicolon } ∷
        record { place = at 1 73; what = what.Name (98 ∷ []) } ∷ record { place = at 1 74; what = what.Mark mark.Semicolon } ∷ record {
          place = at 1 76;
          what = what.Name (99 ∷ []);
        } ∷ record { place = at 1 77; what = what.Mark mark.CloseParenthesis } ∷ record {
          place = at 1 79;
          what = what.Mark
              mark.Semicolon;
        } ∷ record { place = at 1 81; what = what.Word word.For } ∷ record { place = at 1 85; what = what.Mark mark.OpenParenthesis } ∷
        record { place = at 1 86; what = what.Mark mark.Semicolon } ∷ record { place = at 1 87; what = what.Mark mark.Semicolon } ∷ record {
          place = at 1
              88;
          what = what.Mark mark.CloseParenthesis;
        } ∷ record { place = at 1 90; what = what.Word word.Break } ∷ record {
          place = at 1 95;
          what =
              what.Mark mark.Semicolon;
        } ∷ record { place = at 1 97; what = what.Word word.Continue } ∷ record {
          place = at 1 105;
          what = what.Mark
              mark.Semicolon;
        } ∷ record { place = at 1 107; what = what.Word word.Return } ∷ record { place = at 1 113; what = what.Mark mark.Semicolon } ∷
        record { place = at 1 115; what = what.Word word.Return } ∷ record { place = at 1 122; what = what.Number (pos 1) size.Int } ∷ record {
          place = at
              1 123;
          what = what.Mark mark.Semicolon;
        } ∷ record { place = at 1 125; what = what.Word word.Treturn } ∷ record {
          place = at 1 132;
          what =
              what.Mark mark.Semicolon;
        } ∷ record { place = at 1 134; what = what.Word word.Delay } ∷ record {
          place = at 1 140;
          what = what.Number (pos 5)
              size.Int;
        } ∷ record { place = at 1 141; what = what.Mark mark.Semicolon } ∷ record { place = at 1 143; what = what.Mark mark.CloseBrace } ∷ []);
    end = at 1 144;
  },
  Some (record {
    names = 4;
    formats = [];
    items = (item.Function (type_name.Number numeric.Int) (x 1 1 0) [] ((statement.IfElse
        (phrase.Number (at 1 14) (pos 1) numeric.Int) statement.Empty (statement.Block [])) ∷ (statement.If (phrase.Number (at 1 32) (pos 0) numeric.Int)
        statement.Empty) ∷ (statement.While (phrase.Number (at 1 44) (pos 2) numeric.Int) statement.Empty) ∷ (statement.DoWhile statement.Empty
        (phrase.Number (at 1 61) (pos 3) numeric.Int)) ∷ (statement.For (Some (phrase.Name (x 1 70 1))) (Some (phrase.Name (x 1 73 2))) (Some (phrase.Name
        (x 1 76 3))) statement.Empty) ∷ (statement.For None None None (statement.Break (at 1 90))) ∷ (statement.Continue (at 1 97)) ∷ (statement.Return
        (at 1 107) None) ∷ (statement.Return (at 1 115) (Some (phrase.Number (at 1 122) (pos 1) numeric.Int))) ∷ (statement.TransactionReturn (at 1 125)
        None) ∷ (statement.Delay (phrase.Number (at 1 140) (pos 5) numeric.Int)) ∷ []) ∷ []);
  }),
)

-- main() { printf("%d\n", 1); printf("x"); printf("%d\n", 2, 3); }
abbrev text7 : Row
text7 = (
  record {
    tokens = (record { place = at 1 1; what = what.Name (109 ∷ 97 ∷ 105 ∷ 110 ∷ []) } ∷ record {
      place = at 1 5;
      what = what.Mark
          mark.OpenParenthesis;
    } ∷ record { place = at 1 6; what = what.Mark mark.CloseParenthesis } ∷ record {
      place = at 1 8;
      what = what.Mark
          mark.OpenBrace;
    } ∷ record { place = at 1 10; what = what.Word word.Printf } ∷ record { place = at 1 16; what = what.Mark mark.OpenParenthesis } ∷
        record { place = at 1 17; what = what.String (37 ∷ 100 ∷ 10 ∷ []) } ∷ record { place = at 1 23; what = what.Mark mark.Comma } ∷ record {
          place =
              at 1 25;
          what = what.Number (pos 1) size.Int;
        } ∷ record { place = at 1 26; what = what.Mark mark.CloseParenthesis } ∷ record {
          place = at 1 27;
          what = what.Mark mark.Semicolon;
        } ∷ record { place = at 1 29; what = what.Word word.Printf } ∷ record {
          place = at 1 35;
          what = what.Mark
              mark.OpenParenthesis;
        } ∷ record { place = at 1 36; what = what.String (120 ∷ []) } ∷ record {
          place = at 1 39;
          what = what.Mark
              mark.CloseParenthesis;
        } ∷ record { place = at 1 40; what = what.Mark mark.Semicolon } ∷ record { place = at 1 42; what = what.Word word.Printf } ∷
        record { place = at 1 48; what = what.Mark mark.OpenParenthesis } ∷ record { place = at 1 49; what = what.String (37 ∷ 100 ∷ 10 ∷ []) } ∷ record {
          place = at 1 55;
          what = what.Mark mark.Comma;
        } ∷ record { place = at 1 57; what = what.Number (pos 2) size.Int } ∷ record {
          place = at 1 58;
          what
              = what.Mark mark.Comma;
        } ∷ record { place = at 1 60; what = what.Number (pos 3) size.Int } ∷ record {
          place = at 1 61;
          what = what.Mark
              mark.CloseParenthesis;
        } ∷ record { place = at 1 62; what = what.Mark mark.Semicolon } ∷ record {
          place = at 1 64;
          what = what.Mark mark.CloseBrace;
        } ∷ []);
    end = at 1 65;
  },
  Some (record {
    names = 1;
    formats = ((37 ∷ 100 ∷ 10 ∷ []) ∷ (120 ∷ []) ∷ []);
    items = (item.Function (type_name.Number
        numeric.Int) (x 1 1 0) [] ((statement.Evaluate (phrase.PrintFormat (at 1 10) (record { place = (at 1 17); number = 0 }) ((phrase.Number (at 1 25)
        (pos 1) numeric.Int) ∷ []))) ∷ (statement.Evaluate (phrase.PrintFormat (at 1 29) (record { place = (at 1 36); number = 1 }) [])) ∷
        (statement.Evaluate (phrase.PrintFormat (at 1 42) (record { place = (at 1 49); number = 0 }) ((phrase.Number (at 1 57) (pos 2) numeric.Int) ∷
        (phrase.Number (at 1 60) (pos 3) numeric.Int) ∷ []))) ∷ []) ∷ []);
  }),
)

-- process body p() { select { (a): accept t(x) by (1) suchthat (x) { } b; c; or delay 1; or immediate; int z; or terminate; } accept t() by (2); }
abbrev text8 : Row
text8 = (
  record {
    tokens = (record { place = at 1 1; what = what.Word word.Process } ∷ record { place = at 1 9; what = what.Word word.Body } ∷ record {
      place = at 1 14;
      what = what.Name (112 ∷ []);
    } ∷ record { place = at 1 15; what = what.Mark mark.OpenParenthesis } ∷ record {
      place = at 1 16;
      what = what.Mark mark.CloseParenthesis;
    } ∷ record { place = at 1 18; what = what.Mark mark.OpenBrace } ∷ record {
      place = at 1 20;
      what =
          what.Word word.Select;
    } ∷ record { place = at 1 27; what = what.Mark mark.OpenBrace } ∷ record {
      place = at 1 29;
      what = what.Mark
          mark.OpenParenthesis;
    } ∷ record { place = at 1 30; what = what.Name (97 ∷ []) } ∷ record {
      place = at 1 31;
      what = what.Mark mark.CloseParenthesis;
    } ∷ record { place = at 1 32; what = what.Mark mark.Colon } ∷ record { place = at 1 34; what = what.Word word.Accept } ∷ record {
      place = at 1 41;
      what = what.Name (116 ∷ []);
    } ∷ record { place = at 1 42; what = what.Mark mark.OpenParenthesis } ∷ record {
      place = at 1 43;
      what = what.Name
          (120 ∷ []);
    } ∷ record { place = at 1 44; what = what.Mark mark.CloseParenthesis } ∷ record { place = at 1 46; what = what.Word word.By } ∷ record
        { place = at 1 49; what = what.Mark mark.OpenParenthesis } ∷ record { place = at 1 50; what = what.Number (pos 1) size.Int } ∷ record {
          place = at
              1 51;
          what = what.Mark mark.CloseParenthesis;
        } ∷ record { place = at 1 53; what = what.Word word.Suchthat } ∷ record {
          place = at 1 62;
          what =
              what.Mark mark.OpenParenthesis;
        } ∷ record { place = at 1 63; what = what.Name (120 ∷ []) } ∷ record {
          place = at 1 64;
          what = what.Mark
              mark.CloseParenthesis;
        } ∷ record { place = at 1 66; what = what.Mark mark.OpenBrace } ∷ record {
          place = at 1 68;
          what = what.Mark mark.CloseBrace;
        } ∷ record { place = at 1 70; what = what.Name (98 ∷ []) } ∷ record { place = at 1 71; what = what.Mark mark.Semicolon } ∷ record {
          place = at 1
              73;
          what = what.Name (99 ∷ []);
        } ∷ record { place = at 1 74; what = what.Mark mark.Semicolon } ∷ record {
          place = at 1 76;
          what = what.Word
              word.Or;
        } ∷ record { place = at 1 79; what = what.Word word.Delay } ∷ record { place = at 1 85; what = what.Number (pos 1) size.Int } ∷ record {
          place = at 1 86;
          what = what.Mark mark.Semicolon;
        } ∷ record { place = at 1 88; what = what.Word word.Or } ∷ record {
          place = at 1 91;
          what =
              what.Word word.Immediate;
        } ∷ record { place = at 1 100; what = what.Mark mark.Semicolon } ∷ record { place = at 1 102; what = what.Word word.Int }
        ∷ record { place = at 1 106; what = what.Name (122 ∷ []) } ∷ record { place = at 1 107; what = what.Mark mark.Semicolon } ∷ record {
          place = at 1
              109;
          what = what.Word word.Or;
        } ∷ record { place = at 1 112; what = what.Word word.Terminate } ∷ record {
          place = at 1 121;
          what = what.Mark
              mark.Semicolon;
        } ∷ record { place = at 1 123; what = what.Mark mark.CloseBrace } ∷ record { place = at 1 125; what = what.Word word.Accept } ∷
        record { place = at 1 132; what = what.Name (116 ∷ []) } ∷ record { place = at 1 133; what = what.Mark mark.OpenParenthesis } ∷ record {
          place =
              at 1 134;
          what = what.Mark mark.CloseParenthesis;
        } ∷ record { place = at 1 136; what = what.Word word.By } ∷ record {
          place = at 1 139;
          what =
              what.Mark mark.OpenParenthesis;
        } ∷ record { place = at 1 140; what = what.Number (pos 2) size.Int } ∷ record {
          place = at 1 141;
          what = what.Mark
              mark.CloseParenthesis;
        } ∷ record { place = at 1 142; what = what.Mark mark.Semicolon } ∷ record {
          place = at 1 144;
          what = what.Mark
              mark.CloseBrace;
        } ∷ []);
    end = at 1 145;
  },
  Some (record {
    names = 8;
    formats = [];
    items = (item.Body (x 1 14 1) [] ((statement.Select (at 1 20)
        (record {
          guard = (Some (phrase.Name (x 1 30 2)));
          choice = (choice.Accept (record {
            head = record {
              place = (at 1 34);
              name = (x 1 41 3);
              names =
                  ((x 1 43 4) ∷ []);
              clauses = (record { word = clause_word.By; expression = (phrase.Number (at 1 50) (pos 1) numeric.Int) } ∷ record {
                word =
                    clause_word.SuchThat;
                expression = (phrase.Name (x 1 63 4));
              } ∷ []);
            };
            block = [];
          }));
          entries = ((statement.Evaluate (phrase.Name (x 1 70 5))) ∷
              (statement.Evaluate (phrase.Name (x 1 73 6))) ∷ []);
        } ∷ record {
          guard = None;
          choice = (choice.Delay (phrase.Number (at 1 85) (pos 1)
              numeric.Int));
          entries = [];
        } ∷ record {
          guard = None;
          choice = choice.Immediate;
          entries = ((statement.Declare (record {
            of = (type_name.Number
                numeric.Int);
            name = (x 1 106 7);
            form = form.Plain;
          })) ∷ []);
        } ∷ record { guard = None; choice = choice.Terminate; entries = [] } ∷ [])) ∷
        (statement.Accept (record {
          head = record {
            place = (at 1 125);
            name = (x 1 132 3);
            names = [];
            clauses = (record {
              word = clause_word.By;
              expression = (phrase.Number (at 1 140) (pos 2) numeric.Int);
            } ∷ []);
          };
          block = [];
        })) ∷ []) ∷ []);
  }),
)

-- void f(void) { char c; long l; struct s t; enum e u; process p v[n]; } enum { a }; char main() { }
abbrev text9 : Row
text9 = (
  record {
    tokens = (record { place = at 1 1; what = what.Word word.Void } ∷ record { place = at 1 6; what = what.Name (102 ∷ []) } ∷ record {
      place = at 1 7;
      what = what.Mark mark.OpenParenthesis;
    } ∷ record { place = at 1 8; what = what.Word word.Void } ∷ record {
      place = at 1 12;
      what =
          what.Mark mark.CloseParenthesis;
    } ∷ record { place = at 1 14; what = what.Mark mark.OpenBrace } ∷ record {
      place = at 1 16;
      what = what.Word
          word.Char;
    } ∷ record { place = at 1 21; what = what.Name (99 ∷ []) } ∷ record { place = at 1 22; what = what.Mark mark.Semicolon } ∷ record {
      place = at 1 24;
      what = what.Word word.Long;
    } ∷ record { place = at 1 29; what = what.Name (108 ∷ []) } ∷ record {
      place = at 1 30;
      what =
          what.Mark mark.Semicolon;
    } ∷ record { place = at 1 32; what = what.Word word.Struct } ∷ record { place = at 1 39; what = what.Name (115 ∷ []) } ∷
        record { place = at 1 41; what = what.Name (116 ∷ []) } ∷ record { place = at 1 42; what = what.Mark mark.Semicolon } ∷ record {
          place = at 1 44;
          what = what.Word word.Enum;
        } ∷ record { place = at 1 49; what = what.Name (101 ∷ []) } ∷ record { place = at 1 51; what = what.Name (117 ∷ []) } ∷
        record { place = at 1 52; what = what.Mark mark.Semicolon } ∷ record { place = at 1 54; what = what.Word word.Process } ∷ record {
          place = at 1
              62;
          what = what.Name (112 ∷ []);
        } ∷ record { place = at 1 64; what = what.Name (118 ∷ []) } ∷ record {
          place = at 1 65;
          what = what.Mark
              mark.OpenBracket;
        } ∷ record { place = at 1 66; what = what.Name (110 ∷ []) } ∷ record { place = at 1 67; what = what.Mark mark.CloseBracket } ∷
        record { place = at 1 68; what = what.Mark mark.Semicolon } ∷ record { place = at 1 70; what = what.Mark mark.CloseBrace } ∷ record {
          place = at 1
              72;
          what = what.Word word.Enum;
        } ∷ record { place = at 1 77; what = what.Mark mark.OpenBrace } ∷ record {
          place = at 1 79;
          what = what.Name (97 ∷
              []);
        } ∷ record { place = at 1 81; what = what.Mark mark.CloseBrace } ∷ record { place = at 1 82; what = what.Mark mark.Semicolon } ∷ record {
          place = at 1 84;
          what = what.Word word.Char;
        } ∷ record { place = at 1 89; what = what.Name (109 ∷ 97 ∷ 105 ∷ 110 ∷ []) } ∷ record {
          place = at 1
              93;
          what = what.Mark mark.OpenParenthesis;
        } ∷ record { place = at 1 94; what = what.Mark mark.CloseParenthesis } ∷ record {
          place = at 1 96;
          what
              = what.Mark mark.OpenBrace;
        } ∷ record { place = at 1 98; what = what.Mark mark.CloseBrace } ∷ []);
    end = at 1 99;
  },
  Some (record {
    names = 12;
    formats = [];
    items = (item.Function (type_name.Void (at 1 1)) (x 1 6 1) [] ((statement.Declare (record {
      of = (type_name.Number numeric.Char);
      name = (x 1 21 2);
      form = form.Plain;
    })) ∷ (statement.Declare (record {
      of = (type_name.Number numeric.Long);
      name = (x 1 29 3);
      form = form.Plain;
    })) ∷ (statement.Declare (record { of = (type_name.Structure (x 1 39 4)); name = (x 1 41 5); form = form.Plain })) ∷ (statement.Declare (record {
      of = (type_name.Enumeration (x 1 49 6));
      name = (x 1 51 7);
      form = form.Plain;
    })) ∷ (statement.Declare (record {
      of = (type_name.Process (x 1 62
          8));
      name = (x 1 64 9);
      form = form.Array (some_length.Name (x 1 66 10));
    })) ∷ []) ∷ item.Enumeration None (record {
      name = (x 1 79 11);
      value =
          None;
    } ∷ []) ∷ item.Function (type_name.Number numeric.Char) (x 1 89 0) [] [] ∷ []);
  }),
)

abbrev pub rows : List Row
rows = text0 ∷ text1 ∷ text2 ∷ text3 ∷ text4 ∷ text5 ∷ text6 ∷ text7 ∷ text8 ∷ text9 ∷ []
