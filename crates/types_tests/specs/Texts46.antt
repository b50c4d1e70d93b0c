-- 26 PureTooDeep: an index adds one to the depth, so does a right operand; a row and `&&` don't
use Rattle.std.specs.Prelude.{pos, List, [], ◌∷◌, Some, None}
use Rattle.cc_base.specs.declared.numbers.NumberType.TheVariants as numeric
use Rattle.cc_base.specs.declared.numbers.Operator.TheVariants as operator
use Rattle.cc_faults.specs.declared.fault.TypeKind.TheVariants as kind
use Rattle.cc_faults.specs.declared.plain.ClauseWord.TheVariants as clause_word
use Rattle.cc_faults.specs.declared.plain.Item.TheVariants as item
use Rattle.cc_faults.specs.declared.plain.Length.TheVariants as some_length
use Rattle.cc_faults.specs.declared.plain.LocalForm.TheVariants as form
use Rattle.cc_faults.specs.declared.plain.Phrase.TheVariants as phrase
use Rattle.cc_faults.specs.declared.plain.Statement.TheVariants as statement
use Rattle.cc_faults.specs.declared.plain.Step.TheVariants as step
use Rattle.cc_faults.specs.declared.plain.StepWord.TheVariants as step_word
use Rattle.cc_faults.specs.declared.plain.TypeName.TheVariants as type_name
use Rattle.types_tests.specs.Seen.{Row, at, fault_at, x}

-- (a longer text)
abbrev text0 : Row
text0 = (
  record {
    names = 5;
    formats = [];
    items = (item.Specification (x 1 14 1) [] (record {
      result = (Some (type_name.Void (at 1 26)));
      name = (x 1 31
          2);
      parameters = ((type_name.Number numeric.Int) ∷ []);
    } ∷ []) ∷ item.Body (x 1 57 1) [] ((statement.Declare (record {
      of = (type_name.Number
          numeric.Int);
      name = (x 1 67 3);
      form = form.Array (some_length.Number (at 1 69) (pos 2));
    })) ∷ (statement.Accept (record {
      head = record {
        place
            = (at 1 73);
        name = (x 1 80 2);
        names = ((x 1 82 4) ∷ []);
        clauses = (record {
          word = clause_word.SuchThat;
          expression = (phrase.Chain
              (phrase.Name (x 1 95 3)) (step.Index (phrase.Chain (phrase.Name (x 1 97 3)) (step.Index (phrase.Chain (phrase.Name (x 1 99 3)) (step.Index
              (phrase.Chain (phrase.Name (x 1 101 3)) (step.Index (phrase.Chain (phrase.Name (x 1 103 3)) (step.Index (phrase.Chain (phrase.Name (x 1 105 3))
              (step.Index (phrase.Chain (phrase.Name (x 1 107 3)) (step.Index (phrase.Chain (phrase.Name (x 1 109 3)) (step.Index (phrase.Chain (phrase.Name (x
              1 111 3)) (step.Index (phrase.Chain (phrase.Name (x 1 113 3)) (step.Index (phrase.Chain (phrase.Name (x 1 115 3)) (step.Index (phrase.Chain
              (phrase.Name (x 1 117 3)) (step.Index (phrase.Chain (phrase.Name (x 1 119 3)) (step.Index (phrase.Chain (phrase.Name (x 1 121 3)) (step.Index
              (phrase.Chain (phrase.Name (x 1 123 3)) (step.Index (phrase.Chain (phrase.Name (x 1 125 3)) (step.Index (phrase.Chain (phrase.Name (x 1 127 3))
              (step.Index (phrase.Chain (phrase.Name (x 1 129 3)) (step.Index (phrase.Chain (phrase.Name (x 1 131 3)) (step.Index (phrase.Chain (phrase.Name (x
              1 133 3)) (step.Index (phrase.Chain (phrase.Name (x 1 135 3)) (step.Index (phrase.Chain (phrase.Name (x 1 137 3)) (step.Index (phrase.Chain
              (phrase.Name (x 1 139 3)) (step.Index (phrase.Chain (phrase.Name (x 1 141 3)) (step.Index (phrase.Chain (phrase.Name (x 1 143 3)) (step.Index
              (phrase.Chain (phrase.Name (x 1 145 3)) (step.Index (phrase.Chain (phrase.Name (x 1 147 3)) (step.Index (phrase.Chain (phrase.Name (x 1 149 3))
              (step.Index (phrase.Chain (phrase.Name (x 1 151 3)) (step.Index (phrase.Chain (phrase.Name (x 1 153 3)) (step.Index (phrase.Chain (phrase.Name (x
              1 155 3)) (step.Index (phrase.Chain (phrase.Name (x 1 157 3)) (step.Index (phrase.Chain (phrase.Name (x 1 159 3)) (step.Index (phrase.Chain
              (phrase.Name (x 1 161 3)) (step.Index (phrase.Chain (phrase.Name (x 1 163 3)) (step.Index (phrase.Chain (phrase.Name (x 1 165 3)) (step.Index
              (phrase.Chain (phrase.Name (x 1 167 3)) (step.Index (phrase.Chain (phrase.Name (x 1 169 3)) (step.Index (phrase.Chain (phrase.Name (x 1 171 3))
              (step.Index (phrase.Chain (phrase.Name (x 1 173 3)) (step.Index (phrase.Chain (phrase.Name (x 1 175 3)) (step.Index (phrase.Chain (phrase.Name (x
              1 177 3)) (step.Index (phrase.Chain (phrase.Name (x 1 179 3)) (step.Index (phrase.Chain (phrase.Name (x 1 181 3)) (step.Index (phrase.Chain
              (phrase.Name (x 1 183 3)) (step.Index (phrase.Chain (phrase.Name (x 1 185 3)) (step.Index (phrase.Chain (phrase.Name (x 1 187 3)) (step.Index
              (phrase.Chain (phrase.Name (x 1 189 3)) (step.Index (phrase.Chain (phrase.Name (x 1 191 3)) (step.Index (phrase.Chain (phrase.Name (x 1 193 3))
              (step.Index (phrase.Chain (phrase.Name (x 1 195 3)) (step.Index (phrase.Chain (phrase.Name (x 1 197 3)) (step.Index (phrase.Chain (phrase.Name (x
              1 199 3)) (step.Index (phrase.Chain (phrase.Name (x 1 201 3)) (step.Index (phrase.Chain (phrase.Name (x 1 203 3)) (step.Index (phrase.Chain
              (phrase.Name (x 1 205 3)) (step.Index (phrase.Chain (phrase.Name (x 1 207 3)) (step.Index (phrase.Chain (phrase.Name (x 1 209 3)) (step.Index
              (phrase.Chain (phrase.Name (x 1 211 3)) (step.Index (phrase.Chain (phrase.Name (x 1 213 3)) (step.Index (phrase.Chain (phrase.Name (x 1 215 3))
              (step.Index (phrase.Chain (phrase.Name (x 1 217 3)) (step.Index (phrase.Chain (phrase.Name (x 1 219 3)) (step.Index (phrase.Name (x 1 221 4)) ∷
              [])) ∷ [])) ∷ [])) ∷ [])) ∷ [])) ∷ [])) ∷ [])) ∷ [])) ∷ [])) ∷ [])) ∷ [])) ∷ [])) ∷ [])) ∷ [])) ∷ [])) ∷ [])) ∷ [])) ∷ [])) ∷ [])) ∷ [])) ∷ [])) ∷
              [])) ∷ [])) ∷ [])) ∷ [])) ∷ [])) ∷ [])) ∷ [])) ∷ [])) ∷ [])) ∷ [])) ∷ [])) ∷ [])) ∷ [])) ∷ [])) ∷ [])) ∷ [])) ∷ [])) ∷ [])) ∷ [])) ∷ [])) ∷ [])) ∷
              [])) ∷ [])) ∷ [])) ∷ [])) ∷ [])) ∷ [])) ∷ [])) ∷ [])) ∷ [])) ∷ [])) ∷ [])) ∷ [])) ∷ [])) ∷ [])) ∷ [])) ∷ [])) ∷ [])) ∷ [])) ∷ [])) ∷ [])) ∷ []));
        }
            ∷ []);
      };
      block = [];
    })) ∷ []) ∷ item.Function (type_name.Number numeric.Int) (x 1 290 0) [] [] ∷ []);
  },
  None,
)

-- (a longer text)
abbrev text1 : Row
text1 = (
  record {
    names = 5;
    formats = [];
    items = (item.Specification (x 1 14 1) [] (record {
      result = (Some (type_name.Void (at 1 26)));
      name = (x 1 31
          2);
      parameters = ((type_name.Number numeric.Int) ∷ []);
    } ∷ []) ∷ item.Body (x 1 57 1) [] ((statement.Declare (record {
      of = (type_name.Number
          numeric.Int);
      name = (x 1 67 3);
      form = form.Array (some_length.Number (at 1 69) (pos 2));
    })) ∷ (statement.Accept (record {
      head = record {
        place
            = (at 1 73);
        name = (x 1 80 2);
        names = ((x 1 82 4) ∷ []);
        clauses = (record {
          word = clause_word.SuchThat;
          expression = (phrase.Chain
              (phrase.Name (x 1 95 3)) (step.Index (phrase.Chain (phrase.Name (x 1 97 3)) (step.Index (phrase.Chain (phrase.Name (x 1 99 3)) (step.Index
              (phrase.Chain (phrase.Name (x 1 101 3)) (step.Index (phrase.Chain (phrase.Name (x 1 103 3)) (step.Index (phrase.Chain (phrase.Name (x 1 105 3))
              (step.Index (phrase.Chain (phrase.Name (x 1 107 3)) (step.Index (phrase.Chain (phrase.Name (x 1 109 3)) (step.Index (phrase.Chain (phrase.Name (x
              1 111 3)) (step.Index (phrase.Chain (phrase.Name (x 1 113 3)) (step.Index (phrase.Chain (phrase.Name (x 1 115 3)) (step.Index (phrase.Chain
              (phrase.Name (x 1 117 3)) (step.Index (phrase.Chain (phrase.Name (x 1 119 3)) (step.Index (phrase.Chain (phrase.Name (x 1 121 3)) (step.Index
              (phrase.Chain (phrase.Name (x 1 123 3)) (step.Index (phrase.Chain (phrase.Name (x 1 125 3)) (step.Index (phrase.Chain (phrase.Name (x 1 127 3))
              (step.Index (phrase.Chain (phrase.Name (x 1 129 3)) (step.Index (phrase.Chain (phrase.Name (x 1 131 3)) (step.Index (phrase.Chain (phrase.Name (x
              1 133 3)) (step.Index (phrase.Chain (phrase.Name (x 1 135 3)) (step.Index (phrase.Chain (phrase.Name (x 1 137 3)) (step.Index (phrase.Chain
              (phrase.Name (x 1 139 3)) (step.Index (phrase.Chain (phrase.Name (x 1 141 3)) (step.Index (phrase.Chain (phrase.Name (x 1 143 3)) (step.Index
              (phrase.Chain (phrase.Name (x 1 145 3)) (step.Index (phrase.Chain (phrase.Name (x 1 147 3)) (step.Index (phrase.Chain (phrase.Name (x 1 149 3))
              (step.Index (phrase.Chain (phrase.Name (x 1 151 3)) (step.Index (phrase.Chain (phrase.Name (x 1 153 3)) (step.Index (phrase.Chain (phrase.Name (x
              1 155 3)) (step.Index (phrase.Chain (phrase.Name (x 1 157 3)) (step.Index (phrase.Chain (phrase.Name (x 1 159 3)) (step.Index (phrase.Chain
              (phrase.Name (x 1 161 3)) (step.Index (phrase.Chain (phrase.Name (x 1 163 3)) (step.Index (phrase.Chain (phrase.Name (x 1 165 3)) (step.Index
              (phrase.Chain (phrase.Name (x 1 167 3)) (step.Index (phrase.Chain (phrase.Name (x 1 169 3)) (step.Index (phrase.Chain (phrase.Name (x 1 171 3))
              (step.Index (phrase.Chain (phrase.Name (x 1 173 3)) (step.Index (phrase.Chain (phrase.Name (x 1 175 3)) (step.Index (phrase.Chain (phrase.Name (x
              1 177 3)) (step.Index (phrase.Chain (phrase.Name (x 1 179 3)) (step.Index (phrase.Chain (phrase.Name (x 1 181 3)) (step.Index (phrase.Chain
              (phrase.Name (x 1 183 3)) (step.Index (phrase.Chain (phrase.Name (x 1 185 3)) (step.Index (phrase.Chain (phrase.Name (x 1 187 3)) (step.Index
              (phrase.Chain (phrase.Name (x 1 189 3)) (step.Index (phrase.Chain (phrase.Name (x 1 191 3)) (step.Index (phrase.Chain (phrase.Name (x 1 193 3))
              (step.Index (phrase.Chain (phrase.Name (x 1 195 3)) (step.Index (phrase.Chain (phrase.Name (x 1 197 3)) (step.Index (phrase.Chain (phrase.Name (x
              1 199 3)) (step.Index (phrase.Chain (phrase.Name (x 1 201 3)) (step.Index (phrase.Chain (phrase.Name (x 1 203 3)) (step.Index (phrase.Chain
              (phrase.Name (x 1 205 3)) (step.Index (phrase.Chain (phrase.Name (x 1 207 3)) (step.Index (phrase.Chain (phrase.Name (x 1 209 3)) (step.Index
              (phrase.Chain (phrase.Name (x 1 211 3)) (step.Index (phrase.Chain (phrase.Name (x 1 213 3)) (step.Index (phrase.Chain (phrase.Name (x 1 215 3))
              (step.Index (phrase.Chain (phrase.Name (x 1 217 3)) (step.Index (phrase.Chain (phrase.Name (x 1 219 3)) (step.Index (phrase.Chain (phrase.Name (x
              1 221 3)) (step.Index (phrase.Name (x 1 223 4)) ∷ [])) ∷ [])) ∷ [])) ∷ [])) ∷ [])) ∷ [])) ∷ [])) ∷ [])) ∷ [])) ∷ [])) ∷ [])) ∷ [])) ∷ [])) ∷ []))
              ∷ [])) ∷ [])) ∷ [])) ∷ [])) ∷ [])) ∷ [])) ∷ [])) ∷ [])) ∷ [])) ∷ [])) ∷ [])) ∷ [])) ∷ [])) ∷ [])) ∷ [])) ∷ [])) ∷ [])) ∷ [])) ∷ [])) ∷ [])) ∷ []))
              ∷ [])) ∷ [])) ∷ [])) ∷ [])) ∷ [])) ∷ [])) ∷ [])) ∷ [])) ∷ [])) ∷ [])) ∷ [])) ∷ [])) ∷ [])) ∷ [])) ∷ [])) ∷ [])) ∷ [])) ∷ [])) ∷ [])) ∷ [])) ∷ []))
              ∷ [])) ∷ [])) ∷ [])) ∷ [])) ∷ [])) ∷ [])) ∷ [])) ∷ []));
        } ∷ []);
      };
      block = [];
    })) ∷ []) ∷ item.Function (type_name.Number numeric.Int) (x 1 293 0)
        [] [] ∷ []);
  },
  Some (fault_at 1 95 kind.PureTooDeep),
)

-- (a longer text)
abbrev text2 : Row
text2 = (
  record {
    names = 4;
    formats = [];
    items = (item.Specification (x 1 14 1) [] (record {
      result = (Some (type_name.Void (at 1 26)));
      name = (x 1 31
          2);
      parameters = ((type_name.Number numeric.Int) ∷ []);
    } ∷ []) ∷ item.Body (x 1 57 1) [] ((statement.Accept (record {
      head = record {
        place = (at
            1 63);
        name = (x 1 70 2);
        names = ((x 1 72 3) ∷ []);
        clauses = (record {
          word = clause_word.By;
          expression = (phrase.Arithmetic (phrase.Name (x 1
              79 3)) (record {
                operator = operator.Add;
                operand = (phrase.Parenthesized (at 1 81) (phrase.Arithmetic (phrase.Name (x 1 82 3)) (record {
                  operator
                      = operator.Add;
                  operand = (phrase.Parenthesized (at 1 84) (phrase.Arithmetic (phrase.Name (x 1 85 3)) (record {
                    operator = operator.Add;
                    operand =
                        (phrase.Parenthesized (at 1 87) (phrase.Arithmetic (phrase.Name (x 1 88 3)) (record {
                          operator = operator.Add;
                          operand = (phrase.Parenthesized (at
                              1 90) (phrase.Arithmetic (phrase.Name (x 1 91 3)) (record {
                                operator = operator.Add;
                                operand = (phrase.Parenthesized (at 1 93) (phrase.Arithmetic
                                    (phrase.Name (x 1 94 3)) (record {
                                      operator = operator.Add;
                                      operand = (phrase.Parenthesized (at 1 96) (phrase.Arithmetic (phrase.Name (x 1 97 3))
                                          (record {
                                            operator = operator.Add;
                                            operand = (phrase.Parenthesized (at 1 99) (phrase.Arithmetic (phrase.Name (x 1 100 3)) (record {
                                              operator =
                                                  operator.Add;
                                              operand = (phrase.Parenthesized (at 1 102) (phrase.Arithmetic (phrase.Name (x 1 103 3)) (record {
                                                operator = operator.Add;
                                                operand =
                                                    (phrase.Parenthesized (at 1 105) (phrase.Arithmetic (phrase.Name (x 1 106 3)) (record {
                                                      operator = operator.Add;
                                                      operand = (phrase.Parenthesized
                                                          (at 1 108) (phrase.Arithmetic (phrase.Name (x 1 109 3)) (record {
                                                            operator = operator.Add;
                                                            operand = (phrase.Parenthesized (at 1 111)
                                                                (phrase.Arithmetic (phrase.Name (x 1 112 3)) (record {
                                                                  operator = operator.Add;
                                                                  operand = (phrase.Parenthesized (at 1 114) (phrase.Arithmetic
                                                                      (phrase.Name (x 1 115 3)) (record {
                                                                        operator = operator.Add;
                                                                        operand = (phrase.Parenthesized (at 1 117) (phrase.Arithmetic (phrase.Name (x 1 118
                                                                            3)) (record {
                                                                              operator = operator.Add;
                                                                              operand = (phrase.Parenthesized (at 1 120) (phrase.Arithmetic (phrase.Name (x 1 121 3)) (record {
                                                                                operator
                                                                                    = operator.Add;
                                                                                operand = (phrase.Parenthesized (at 1 123) (phrase.Arithmetic (phrase.Name (x 1 124 3)) (record {
                                                                                  operator = operator.Add;
                                                                                  operand
                                                                                      = (phrase.Parenthesized (at 1 126) (phrase.Arithmetic (phrase.Name (x 1 127 3)) (record {
                                                                                        operator = operator.Add;
                                                                                        operand = (phrase.Parenthesized
                                                                                            (at 1 129) (phrase.Arithmetic (phrase.Name (x 1 130 3)) (record {
                                                                                              operator = operator.Add;
                                                                                              operand = (phrase.Parenthesized (at 1 132)
                                                                                                  (phrase.Arithmetic (phrase.Name (x 1 133 3)) (record {
                                                                                                    operator = operator.Add;
                                                                                                    operand = (phrase.Parenthesized (at 1 135) (phrase.Arithmetic
                                                                                                        (phrase.Name (x 1 136 3)) (record {
                                                                                                          operator = operator.Add;
                                                                                                          operand = (phrase.Parenthesized (at 1 138) (phrase.Arithmetic (phrase.Name (x 1 139
                                                                                                              3)) (record {
                                                                                                                operator = operator.Add;
                                                                                                                operand = (phrase.Parenthesized (at 1 141) (phrase.Arithmetic (phrase.Name (x 1 142 3)) (record {
                                                                                                                  operator
                                                                                                                      = operator.Add;
                                                                                                                  operand = (phrase.Parenthesized (at 1 144) (phrase.Arithmetic (phrase.Name (x 1 145 3)) (record {
                                                                                                                    operator = operator.Add;
                                                                                                                    operand
                                                                                                                        = (phrase.Parenthesized (at 1 147) (phrase.Arithmetic (phrase.Name (x 1 148 3)) (record {
                                                                                                                          operator = operator.Add;
                                                                                                                          operand = (phrase.Parenthesized
                                                                                                                              (at 1 150) (phrase.Arithmetic (phrase.Name (x 1 151 3)) (record {
                                                                                                                                operator = operator.Add;
                                                                                                                                operand = (phrase.Parenthesized (at 1 153)
                                                                                                                                    (phrase.Arithmetic (phrase.Name (x 1 154 3)) (record {
                                                                                                                                      operator = operator.Add;
                                                                                                                                      operand = (phrase.Parenthesized (at 1 156) (phrase.Arithmetic
                                                                                                                                          (phrase.Name (x 1 157 3)) (record {
                                                                                                                                            operator = operator.Add;
                                                                                                                                            operand = (phrase.Parenthesized (at 1 159) (phrase.Arithmetic (phrase.Name (x 1 160
                                                                                                                                                3)) (record {
                                                                                                                                                  operator = operator.Add;
                                                                                                                                                  operand = (phrase.Parenthesized (at 1 162) (phrase.Arithmetic (phrase.Name (x 1 163 3)) (record {
                                                                                                                                                    operator
                                                                                                                                                        = operator.Add;
                                                                                                                                                    operand = (phrase.Parenthesized (at 1 165) (phrase.Arithmetic (phrase.Name (x 1 166 3)) (record {
                                                                                                                                                      operator = operator.Add;
                                                                                                                                                      operand
                                                                                                                                                          = (phrase.Parenthesized (at 1 168) (phrase.Arithmetic (phrase.Name (x 1 169 3)) (record {
                                                                                                                                                            operator = operator.Add;
                                                                                                                                                            operand = (phrase.Parenthesized
                                                                                                                                                                (at 1 171) (phrase.Arithmetic (phrase.Name (x 1 172 3)) (record {
                                                                                                                                                                  operator = operator.Add;
                                                                                                                                                                  operand = (phrase.Parenthesized (at 1 174)
                                                                                                                                                                      (phrase.Arithmetic (phrase.Name (x 1 175 3)) (record {
                                                                                                                                                                        operator = operator.Add;
                                                                                                                                                                        operand = (phrase.Parenthesized (at 1 177) (phrase.Arithmetic
                                                                                                                                                                            (phrase.Name (x 1 178 3)) (record {
                                                                                                                                                                              operator = operator.Add;
                                                                                                                                                                              operand = (phrase.Parenthesized (at 1 180) (phrase.Arithmetic (phrase.Name (x 1 181
                                                                                                                                                                                  3)) (record {
                                                                                                                                                                                    operator = operator.Add;
                                                                                                                                                                                    operand = (phrase.Parenthesized (at 1 183) (phrase.Arithmetic (phrase.Name (x 1 184 3)) (record {
                                                                                                                                                                                      operator
                                                                                                                                                                                          = operator.Add;
                                                                                                                                                                                      operand = (phrase.Parenthesized (at 1 186) (phrase.Arithmetic (phrase.Name (x 1 187 3)) (record {
                                                                                                                                                                                        operator = operator.Add;
                                                                                                                                                                                        operand
                                                                                                                                                                                            = (phrase.Parenthesized (at 1 189) (phrase.Arithmetic (phrase.Name (x 1 190 3)) (record {
                                                                                                                                                                                              operator = operator.Add;
                                                                                                                                                                                              operand = (phrase.Parenthesized
                                                                                                                                                                                                  (at 1 192) (phrase.Arithmetic (phrase.Name (x 1 193 3)) (record {
                                                                                                                                                                                                    operator = operator.Add;
                                                                                                                                                                                                    operand = (phrase.Parenthesized (at 1 195)
                                                                                                                                                                                                        (phrase.Arithmetic (phrase.Name (x 1 196 3)) (record {
                                                                                                                                                                                                          operator = operator.Add;
                                                                                                                                                                                                          operand = (phrase.Parenthesized (at 1 198) (phrase.Arithmetic
                                                                                                                                                                                                              (phrase.Name (x 1 199 3)) (record {
                                                                                                                                                                                                                operator = operator.Add;
                                                                                                                                                                                                                operand = (phrase.Parenthesized (at 1 201) (phrase.Arithmetic (phrase.Name (x 1 202
                                                                                                                                                                                                                    3)) (record {
                                                                                                                                                                                                                      operator = operator.Add;
                                                                                                                                                                                                                      operand = (phrase.Parenthesized (at 1 204) (phrase.Arithmetic (phrase.Name (x 1 205 3)) (record {
                                                                                                                                                                                                                        operator
                                                                                                                                                                                                                            = operator.Add;
                                                                                                                                                                                                                        operand = (phrase.Parenthesized (at 1 207) (phrase.Arithmetic (phrase.Name (x 1 208 3)) (record {
                                                                                                                                                                                                                          operator = operator.Add;
                                                                                                                                                                                                                          operand
                                                                                                                                                                                                                              = (phrase.Parenthesized (at 1 210) (phrase.Arithmetic (phrase.Name (x 1 211 3)) (record {
                                                                                                                                                                                                                                operator = operator.Add;
                                                                                                                                                                                                                                operand = (phrase.Parenthesized
                                                                                                                                                                                                                                    (at 1 213) (phrase.Arithmetic (phrase.Name (x 1 214 3)) (record {
                                                                                                                                                                                                                                      operator = operator.Add;
                                                                                                                                                                                                                                      operand = (phrase.Parenthesized (at 1 216)
                                                                                                                                                                                                                                          (phrase.Arithmetic (phrase.Name (x 1 217 3)) (record {
                                                                                                                                                                                                                                            operator = operator.Add;
                                                                                                                                                                                                                                            operand = (phrase.Parenthesized (at 1 219) (phrase.Arithmetic
                                                                                                                                                                                                                                                (phrase.Name (x 1 220 3)) (record {
                                                                                                                                                                                                                                                  operator = operator.Add;
                                                                                                                                                                                                                                                  operand = (phrase.Parenthesized (at 1 222) (phrase.Arithmetic (phrase.Name (x 1 223
                                                                                                                                                                                                                                                      3)) (record {
                                                                                                                                                                                                                                                        operator = operator.Add;
                                                                                                                                                                                                                                                        operand = (phrase.Parenthesized (at 1 225) (phrase.Arithmetic (phrase.Name (x 1 226 3)) (record {
                                                                                                                                                                                                                                                          operator
                                                                                                                                                                                                                                                              = operator.Add;
                                                                                                                                                                                                                                                          operand = (phrase.Parenthesized (at 1 228) (phrase.Arithmetic (phrase.Name (x 1 229 3)) (record {
                                                                                                                                                                                                                                                            operator = operator.Add;
                                                                                                                                                                                                                                                            operand
                                                                                                                                                                                                                                                                = (phrase.Parenthesized (at 1 231) (phrase.Arithmetic (phrase.Name (x 1 232 3)) (record {
                                                                                                                                                                                                                                                                  operator = operator.Add;
                                                                                                                                                                                                                                                                  operand = (phrase.Parenthesized
                                                                                                                                                                                                                                                                      (at 1 234) (phrase.Arithmetic (phrase.Name (x 1 235 3)) (record {
                                                                                                                                                                                                                                                                        operator = operator.Add;
                                                                                                                                                                                                                                                                        operand = (phrase.Parenthesized (at 1 237)
                                                                                                                                                                                                                                                                            (phrase.Arithmetic (phrase.Name (x 1 238 3)) (record {
                                                                                                                                                                                                                                                                              operator = operator.Add;
                                                                                                                                                                                                                                                                              operand = (phrase.Parenthesized (at 1 240) (phrase.Arithmetic
                                                                                                                                                                                                                                                                                  (phrase.Name (x 1 241 3)) (record {
                                                                                                                                                                                                                                                                                    operator = operator.Add;
                                                                                                                                                                                                                                                                                    operand = (phrase.Parenthesized (at 1 243) (phrase.Arithmetic (phrase.Name (x 1 244
                                                                                                                                                                                                                                                                                        3)) (record {
                                                                                                                                                                                                                                                                                          operator = operator.Add;
                                                                                                                                                                                                                                                                                          operand = (phrase.Parenthesized (at 1 246) (phrase.Arithmetic (phrase.Name (x 1 247 3)) (record {
                                                                                                                                                                                                                                                                                            operator
                                                                                                                                                                                                                                                                                                = operator.Add;
                                                                                                                                                                                                                                                                                            operand = (phrase.Parenthesized (at 1 249) (phrase.Arithmetic (phrase.Name (x 1 250 3)) (record {
                                                                                                                                                                                                                                                                                              operator = operator.Add;
                                                                                                                                                                                                                                                                                              operand
                                                                                                                                                                                                                                                                                                  = (phrase.Parenthesized (at 1 252) (phrase.Arithmetic (phrase.Name (x 1 253 3)) (record {
                                                                                                                                                                                                                                                                                                    operator = operator.Add;
                                                                                                                                                                                                                                                                                                    operand = (phrase.Parenthesized
                                                                                                                                                                                                                                                                                                        (at 1 255) (phrase.Arithmetic (phrase.Name (x 1 256 3)) (record {
                                                                                                                                                                                                                                                                                                          operator = operator.Add;
                                                                                                                                                                                                                                                                                                          operand = (phrase.Parenthesized (at 1 258)
                                                                                                                                                                                                                                                                                                              (phrase.Arithmetic (phrase.Name (x 1 259 3)) (record {
                                                                                                                                                                                                                                                                                                                operator = operator.Add;
                                                                                                                                                                                                                                                                                                                operand = (phrase.Parenthesized (at 1 261) (phrase.Arithmetic
                                                                                                                                                                                                                                                                                                                    (phrase.Name (x 1 262 3)) (record {
                                                                                                                                                                                                                                                                                                                      operator = operator.Add;
                                                                                                                                                                                                                                                                                                                      operand = (phrase.Parenthesized (at 1 264) (phrase.Arithmetic (phrase.Name (x 1 265
                                                                                                                                                                                                                                                                                                                          3)) (record { operator = operator.Add; operand = (phrase.Parenthesized (at 1 267) (phrase.Name (x 1 268 3))) } ∷ [])));
                                                                                                                                                                                                                                                                                                                    } ∷ [])));
                                                                                                                                                                                                                                                                                                              } ∷ [])));
                                                                                                                                                                                                                                                                                                        } ∷
                                                                                                                                                                                                                                                                                                        [])));
                                                                                                                                                                                                                                                                                                  } ∷ [])));
                                                                                                                                                                                                                                                                                            } ∷ [])));
                                                                                                                                                                                                                                                                                          } ∷ [])));
                                                                                                                                                                                                                                                                                        } ∷ [])));
                                                                                                                                                                                                                                                                                  } ∷ [])));
                                                                                                                                                                                                                                                                            } ∷ [])));
                                                                                                                                                                                                                                                                      } ∷ [])));
                                                                                                                                                                                                                                                                } ∷ [])));
                                                                                                                                                                                                                                                          } ∷ [])));
                                                                                                                                                                                                                                                        } ∷ [])));
                                                                                                                                                                                                                                                      } ∷ [])));
                                                                                                                                                                                                                                                } ∷ [])));
                                                                                                                                                                                                                                          } ∷ [])));
                                                                                                                                                                                                                                    } ∷ [])));
                                                                                                                                                                                                                              } ∷ [])));
                                                                                                                                                                                                                        } ∷ [])));
                                                                                                                                                                                                                      } ∷ [])));
                                                                                                                                                                                                                    } ∷ [])));
                                                                                                                                                                                                              } ∷ [])));
                                                                                                                                                                                                        } ∷ [])));
                                                                                                                                                                                                  } ∷ [])));
                                                                                                                                                                                            } ∷ [])));
                                                                                                                                                                                      } ∷ [])));
                                                                                                                                                                                    } ∷ [])));
                                                                                                                                                                                  } ∷ [])));
                                                                                                                                                                            } ∷ [])));
                                                                                                                                                                      } ∷ [])));
                                                                                                                                                                } ∷ [])));
                                                                                                                                                          } ∷
                                                                                                                                                          [])));
                                                                                                                                                    } ∷ [])));
                                                                                                                                                  } ∷ [])));
                                                                                                                                                } ∷ [])));
                                                                                                                                          } ∷ [])));
                                                                                                                                    } ∷ [])));
                                                                                                                              } ∷ [])));
                                                                                                                        } ∷ [])));
                                                                                                                  } ∷ [])));
                                                                                                                } ∷ [])));
                                                                                                              } ∷ [])));
                                                                                                        } ∷ [])));
                                                                                                  } ∷ [])));
                                                                                            } ∷ [])));
                                                                                      } ∷ [])));
                                                                                } ∷ [])));
                                                                              } ∷ [])));
                                                                            } ∷ [])));
                                                                      } ∷ [])));
                                                                } ∷ [])));
                                                          } ∷ [])));
                                                    } ∷ [])));
                                              } ∷ [])));
                                            } ∷ [])));
                                          } ∷ [])));
                                    } ∷ [])));
                              } ∷ [])));
                        } ∷ [])));
                  } ∷ [])));
                } ∷
                    [])));
              } ∷ []));
        } ∷ []);
      };
      block = [];
    })) ∷ []) ∷ item.Function (type_name.Number numeric.Int) (x 1 337 0) [] [] ∷ []);
  },
  None,
)

-- (a longer text)
abbrev text3 : Row
text3 = (
  record {
    names = 4;
    formats = [];
    items = (item.Specification (x 1 14 1) [] (record {
      result = (Some (type_name.Void (at 1 26)));
      name = (x 1 31
          2);
      parameters = ((type_name.Number numeric.Int) ∷ []);
    } ∷ []) ∷ item.Body (x 1 57 1) [] ((statement.Accept (record {
      head = record {
        place = (at
            1 63);
        name = (x 1 70 2);
        names = ((x 1 72 3) ∷ []);
        clauses = (record {
          word = clause_word.By;
          expression = (phrase.Arithmetic (phrase.Name (x 1
              79 3)) (record {
                operator = operator.Add;
                operand = (phrase.Parenthesized (at 1 81) (phrase.Arithmetic (phrase.Name (x 1 82 3)) (record {
                  operator
                      = operator.Add;
                  operand = (phrase.Parenthesized (at 1 84) (phrase.Arithmetic (phrase.Name (x 1 85 3)) (record {
                    operator = operator.Add;
                    operand =
                        (phrase.Parenthesized (at 1 87) (phrase.Arithmetic (phrase.Name (x 1 88 3)) (record {
                          operator = operator.Add;
                          operand = (phrase.Parenthesized (at
                              1 90) (phrase.Arithmetic (phrase.Name (x 1 91 3)) (record {
                                operator = operator.Add;
                                operand = (phrase.Parenthesized (at 1 93) (phrase.Arithmetic
                                    (phrase.Name (x 1 94 3)) (record {
                                      operator = operator.Add;
                                      operand = (phrase.Parenthesized (at 1 96) (phrase.Arithmetic (phrase.Name (x 1 97 3))
                                          (record {
                                            operator = operator.Add;
                                            operand = (phrase.Parenthesized (at 1 99) (phrase.Arithmetic (phrase.Name (x 1 100 3)) (record {
                                              operator =
                                                  operator.Add;
                                              operand = (phrase.Parenthesized (at 1 102) (phrase.Arithmetic (phrase.Name (x 1 103 3)) (record {
                                                operator = operator.Add;
                                                operand =
                                                    (phrase.Parenthesized (at 1 105) (phrase.Arithmetic (phrase.Name (x 1 106 3)) (record {
                                                      operator = operator.Add;
                                                      operand = (phrase.Parenthesized
                                                          (at 1 108) (phrase.Arithmetic (phrase.Name (x 1 109 3)) (record {
                                                            operator = operator.Add;
                                                            operand = (phrase.Parenthesized (at 1 111)
                                                                (phrase.Arithmetic (phrase.Name (x 1 112 3)) (record {
                                                                  operator = operator.Add;
                                                                  operand = (phrase.Parenthesized (at 1 114) (phrase.Arithmetic
                                                                      (phrase.Name (x 1 115 3)) (record {
                                                                        operator = operator.Add;
                                                                        operand = (phrase.Parenthesized (at 1 117) (phrase.Arithmetic (phrase.Name (x 1 118
                                                                            3)) (record {
                                                                              operator = operator.Add;
                                                                              operand = (phrase.Parenthesized (at 1 120) (phrase.Arithmetic (phrase.Name (x 1 121 3)) (record {
                                                                                operator
                                                                                    = operator.Add;
                                                                                operand = (phrase.Parenthesized (at 1 123) (phrase.Arithmetic (phrase.Name (x 1 124 3)) (record {
                                                                                  operator = operator.Add;
                                                                                  operand
                                                                                      = (phrase.Parenthesized (at 1 126) (phrase.Arithmetic (phrase.Name (x 1 127 3)) (record {
                                                                                        operator = operator.Add;
                                                                                        operand = (phrase.Parenthesized
                                                                                            (at 1 129) (phrase.Arithmetic (phrase.Name (x 1 130 3)) (record {
                                                                                              operator = operator.Add;
                                                                                              operand = (phrase.Parenthesized (at 1 132)
                                                                                                  (phrase.Arithmetic (phrase.Name (x 1 133 3)) (record {
                                                                                                    operator = operator.Add;
                                                                                                    operand = (phrase.Parenthesized (at 1 135) (phrase.Arithmetic
                                                                                                        (phrase.Name (x 1 136 3)) (record {
                                                                                                          operator = operator.Add;
                                                                                                          operand = (phrase.Parenthesized (at 1 138) (phrase.Arithmetic (phrase.Name (x 1 139
                                                                                                              3)) (record {
                                                                                                                operator = operator.Add;
                                                                                                                operand = (phrase.Parenthesized (at 1 141) (phrase.Arithmetic (phrase.Name (x 1 142 3)) (record {
                                                                                                                  operator
                                                                                                                      = operator.Add;
                                                                                                                  operand = (phrase.Parenthesized (at 1 144) (phrase.Arithmetic (phrase.Name (x 1 145 3)) (record {
                                                                                                                    operator = operator.Add;
                                                                                                                    operand
                                                                                                                        = (phrase.Parenthesized (at 1 147) (phrase.Arithmetic (phrase.Name (x 1 148 3)) (record {
                                                                                                                          operator = operator.Add;
                                                                                                                          operand = (phrase.Parenthesized
                                                                                                                              (at 1 150) (phrase.Arithmetic (phrase.Name (x 1 151 3)) (record {
                                                                                                                                operator = operator.Add;
                                                                                                                                operand = (phrase.Parenthesized (at 1 153)
                                                                                                                                    (phrase.Arithmetic (phrase.Name (x 1 154 3)) (record {
                                                                                                                                      operator = operator.Add;
                                                                                                                                      operand = (phrase.Parenthesized (at 1 156) (phrase.Arithmetic
                                                                                                                                          (phrase.Name (x 1 157 3)) (record {
                                                                                                                                            operator = operator.Add;
                                                                                                                                            operand = (phrase.Parenthesized (at 1 159) (phrase.Arithmetic (phrase.Name (x 1 160
                                                                                                                                                3)) (record {
                                                                                                                                                  operator = operator.Add;
                                                                                                                                                  operand = (phrase.Parenthesized (at 1 162) (phrase.Arithmetic (phrase.Name (x 1 163 3)) (record {
                                                                                                                                                    operator
                                                                                                                                                        = operator.Add;
                                                                                                                                                    operand = (phrase.Parenthesized (at 1 165) (phrase.Arithmetic (phrase.Name (x 1 166 3)) (record {
                                                                                                                                                      operator = operator.Add;
                                                                                                                                                      operand
                                                                                                                                                          = (phrase.Parenthesized (at 1 168) (phrase.Arithmetic (phrase.Name (x 1 169 3)) (record {
                                                                                                                                                            operator = operator.Add;
                                                                                                                                                            operand = (phrase.Parenthesized
                                                                                                                                                                (at 1 171) (phrase.Arithmetic (phrase.Name (x 1 172 3)) (record {
                                                                                                                                                                  operator = operator.Add;
                                                                                                                                                                  operand = (phrase.Parenthesized (at 1 174)
                                                                                                                                                                      (phrase.Arithmetic (phrase.Name (x 1 175 3)) (record {
                                                                                                                                                                        operator = operator.Add;
                                                                                                                                                                        operand = (phrase.Parenthesized (at 1 177) (phrase.Arithmetic
                                                                                                                                                                            (phrase.Name (x 1 178 3)) (record {
                                                                                                                                                                              operator = operator.Add;
                                                                                                                                                                              operand = (phrase.Parenthesized (at 1 180) (phrase.Arithmetic (phrase.Name (x 1 181
                                                                                                                                                                                  3)) (record {
                                                                                                                                                                                    operator = operator.Add;
                                                                                                                                                                                    operand = (phrase.Parenthesized (at 1 183) (phrase.Arithmetic (phrase.Name (x 1 184 3)) (record {
                                                                                                                                                                                      operator
                                                                                                                                                                                          = operator.Add;
                                                                                                                                                                                      operand = (phrase.Parenthesized (at 1 186) (phrase.Arithmetic (phrase.Name (x 1 187 3)) (record {
                                                                                                                                                                                        operator = operator.Add;
                                                                                                                                                                                        operand
                                                                                                                                                                                            = (phrase.Parenthesized (at 1 189) (phrase.Arithmetic (phrase.Name (x 1 190 3)) (record {
                                                                                                                                                                                              operator = operator.Add;
                                                                                                                                                                                              operand = (phrase.Parenthesized
                                                                                                                                                                                                  (at 1 192) (phrase.Arithmetic (phrase.Name (x 1 193 3)) (record {
                                                                                                                                                                                                    operator = operator.Add;
                                                                                                                                                                                                    operand = (phrase.Parenthesized (at 1 195)
                                                                                                                                                                                                        (phrase.Arithmetic (phrase.Name (x 1 196 3)) (record {
                                                                                                                                                                                                          operator = operator.Add;
                                                                                                                                                                                                          operand = (phrase.Parenthesized (at 1 198) (phrase.Arithmetic
                                                                                                                                                                                                              (phrase.Name (x 1 199 3)) (record {
                                                                                                                                                                                                                operator = operator.Add;
                                                                                                                                                                                                                operand = (phrase.Parenthesized (at 1 201) (phrase.Arithmetic (phrase.Name (x 1 202
                                                                                                                                                                                                                    3)) (record {
                                                                                                                                                                                                                      operator = operator.Add;
                                                                                                                                                                                                                      operand = (phrase.Parenthesized (at 1 204) (phrase.Arithmetic (phrase.Name (x 1 205 3)) (record {
                                                                                                                                                                                                                        operator
                                                                                                                                                                                                                            = operator.Add;
                                                                                                                                                                                                                        operand = (phrase.Parenthesized (at 1 207) (phrase.Arithmetic (phrase.Name (x 1 208 3)) (record {
                                                                                                                                                                                                                          operator = operator.Add;
                                                                                                                                                                                                                          operand
                                                                                                                                                                                                                              = (phrase.Parenthesized (at 1 210) (phrase.Arithmetic (phrase.Name (x 1 211 3)) (record {
                                                                                                                                                                                                                                operator = operator.Add;
                                                                                                                                                                                                                                operand = (phrase.Parenthesized
                                                                                                                                                                                                                                    (at 1 213) (phrase.Arithmetic (phrase.Name (x 1 214 3)) (record {
                                                                                                                                                                                                                                      operator = operator.Add;
                                                                                                                                                                                                                                      operand = (phrase.Parenthesized (at 1 216)
                                                                                                                                                                                                                                          (phrase.Arithmetic (phrase.Name (x 1 217 3)) (record {
                                                                                                                                                                                                                                            operator = operator.Add;
                                                                                                                                                                                                                                            operand = (phrase.Parenthesized (at 1 219) (phrase.Arithmetic
                                                                                                                                                                                                                                                (phrase.Name (x 1 220 3)) (record {
                                                                                                                                                                                                                                                  operator = operator.Add;
                                                                                                                                                                                                                                                  operand = (phrase.Parenthesized (at 1 222) (phrase.Arithmetic (phrase.Name (x 1 223
                                                                                                                                                                                                                                                      3)) (record {
                                                                                                                                                                                                                                                        operator = operator.Add;
                                                                                                                                                                                                                                                        operand = (phrase.Parenthesized (at 1 225) (phrase.Arithmetic (phrase.Name (x 1 226 3)) (record {
                                                                                                                                                                                                                                                          operator
                                                                                                                                                                                                                                                              = operator.Add;
                                                                                                                                                                                                                                                          operand = (phrase.Parenthesized (at 1 228) (phrase.Arithmetic (phrase.Name (x 1 229 3)) (record {
                                                                                                                                                                                                                                                            operator = operator.Add;
                                                                                                                                                                                                                                                            operand
                                                                                                                                                                                                                                                                = (phrase.Parenthesized (at 1 231) (phrase.Arithmetic (phrase.Name (x 1 232 3)) (record {
                                                                                                                                                                                                                                                                  operator = operator.Add;
                                                                                                                                                                                                                                                                  operand = (phrase.Parenthesized
                                                                                                                                                                                                                                                                      (at 1 234) (phrase.Arithmetic (phrase.Name (x 1 235 3)) (record {
                                                                                                                                                                                                                                                                        operator = operator.Add;
                                                                                                                                                                                                                                                                        operand = (phrase.Parenthesized (at 1 237)
                                                                                                                                                                                                                                                                            (phrase.Arithmetic (phrase.Name (x 1 238 3)) (record {
                                                                                                                                                                                                                                                                              operator = operator.Add;
                                                                                                                                                                                                                                                                              operand = (phrase.Parenthesized (at 1 240) (phrase.Arithmetic
                                                                                                                                                                                                                                                                                  (phrase.Name (x 1 241 3)) (record {
                                                                                                                                                                                                                                                                                    operator = operator.Add;
                                                                                                                                                                                                                                                                                    operand = (phrase.Parenthesized (at 1 243) (phrase.Arithmetic (phrase.Name (x 1 244
                                                                                                                                                                                                                                                                                        3)) (record {
                                                                                                                                                                                                                                                                                          operator = operator.Add;
                                                                                                                                                                                                                                                                                          operand = (phrase.Parenthesized (at 1 246) (phrase.Arithmetic (phrase.Name (x 1 247 3)) (record {
                                                                                                                                                                                                                                                                                            operator
                                                                                                                                                                                                                                                                                                = operator.Add;
                                                                                                                                                                                                                                                                                            operand = (phrase.Parenthesized (at 1 249) (phrase.Arithmetic (phrase.Name (x 1 250 3)) (record {
                                                                                                                                                                                                                                                                                              operator = operator.Add;
                                                                                                                                                                                                                                                                                              operand
                                                                                                                                                                                                                                                                                                  = (phrase.Parenthesized (at 1 252) (phrase.Arithmetic (phrase.Name (x 1 253 3)) (record {
                                                                                                                                                                                                                                                                                                    operator = operator.Add;
                                                                                                                                                                                                                                                                                                    operand = (phrase.Parenthesized
                                                                                                                                                                                                                                                                                                        (at 1 255) (phrase.Arithmetic (phrase.Name (x 1 256 3)) (record {
                                                                                                                                                                                                                                                                                                          operator = operator.Add;
                                                                                                                                                                                                                                                                                                          operand = (phrase.Parenthesized (at 1 258)
                                                                                                                                                                                                                                                                                                              (phrase.Arithmetic (phrase.Name (x 1 259 3)) (record {
                                                                                                                                                                                                                                                                                                                operator = operator.Add;
                                                                                                                                                                                                                                                                                                                operand = (phrase.Parenthesized (at 1 261) (phrase.Arithmetic
                                                                                                                                                                                                                                                                                                                    (phrase.Name (x 1 262 3)) (record {
                                                                                                                                                                                                                                                                                                                      operator = operator.Add;
                                                                                                                                                                                                                                                                                                                      operand = (phrase.Parenthesized (at 1 264) (phrase.Arithmetic (phrase.Name (x 1 265
                                                                                                                                                                                                                                                                                                                          3)) (record {
                                                                                                                                                                                                                                                                                                                            operator = operator.Add;
                                                                                                                                                                                                                                                                                                                            operand = (phrase.Parenthesized (at 1 267) (phrase.Arithmetic (phrase.Name (x 1 268 3)) (record {
                                                                                                                                                                                                                                                                                                                              operator
                                                                                                                                                                                                                                                                                                                                  = operator.Add;
                                                                                                                                                                                                                                                                                                                              operand = (phrase.Parenthesized (at 1 270) (phrase.Name (x 1 271 3)));
                                                                                                                                                                                                                                                                                                                            } ∷ [])));
                                                                                                                                                                                                                                                                                                                          } ∷ [])));
                                                                                                                                                                                                                                                                                                                    } ∷ [])));
                                                                                                                                                                                                                                                                                                              } ∷ [])));
                                                                                                                                                                                                                                                                                                        } ∷ [])));
                                                                                                                                                                                                                                                                                                  } ∷ [])));
                                                                                                                                                                                                                                                                                            } ∷ [])));
                                                                                                                                                                                                                                                                                          } ∷ [])));
                                                                                                                                                                                                                                                                                        } ∷ [])));
                                                                                                                                                                                                                                                                                  } ∷ [])));
                                                                                                                                                                                                                                                                            } ∷ [])));
                                                                                                                                                                                                                                                                      } ∷ [])));
                                                                                                                                                                                                                                                                } ∷ [])));
                                                                                                                                                                                                                                                          } ∷ [])));
                                                                                                                                                                                                                                                        } ∷ [])));
                                                                                                                                                                                                                                                      } ∷ [])));
                                                                                                                                                                                                                                                } ∷ [])));
                                                                                                                                                                                                                                          } ∷ [])));
                                                                                                                                                                                                                                    } ∷ [])));
                                                                                                                                                                                                                              } ∷ [])));
                                                                                                                                                                                                                        } ∷
                                                                                                                                                                                                                            [])));
                                                                                                                                                                                                                      } ∷ [])));
                                                                                                                                                                                                                    } ∷ [])));
                                                                                                                                                                                                              } ∷ [])));
                                                                                                                                                                                                        } ∷ [])));
                                                                                                                                                                                                  } ∷ [])));
                                                                                                                                                                                            } ∷ [])));
                                                                                                                                                                                      } ∷ [])));
                                                                                                                                                                                    } ∷ [])));
                                                                                                                                                                                  } ∷ [])));
                                                                                                                                                                            } ∷ [])));
                                                                                                                                                                      } ∷ [])));
                                                                                                                                                                } ∷ [])));
                                                                                                                                                          } ∷ [])));
                                                                                                                                                    } ∷ [])));
                                                                                                                                                  } ∷ [])));
                                                                                                                                                } ∷ [])));
                                                                                                                                          } ∷ [])));
                                                                                                                                    } ∷ [])));
                                                                                                                              } ∷ [])));
                                                                                                                        } ∷ [])));
                                                                                                                  } ∷ [])));
                                                                                                                } ∷ [])));
                                                                                                              } ∷ [])));
                                                                                                        } ∷ [])));
                                                                                                  } ∷ [])));
                                                                                            } ∷ [])));
                                                                                      } ∷ [])));
                                                                                } ∷ [])));
                                                                              } ∷
                                                                                  [])));
                                                                            } ∷ [])));
                                                                      } ∷ [])));
                                                                } ∷ [])));
                                                          } ∷ [])));
                                                    } ∷ [])));
                                              } ∷ [])));
                                            } ∷ [])));
                                          } ∷ [])));
                                    } ∷ [])));
                              } ∷ [])));
                        } ∷ [])));
                  } ∷ [])));
                } ∷ [])));
              } ∷ []));
        }
            ∷ []);
      };
      block = [];
    })) ∷ []) ∷ item.Function (type_name.Number numeric.Int) (x 1 341 0) [] [] ∷ []);
  },
  Some (fault_at 1 79 kind.PureTooDeep),
)

-- (a longer text)
abbrev text4 : Row
text4 = (
  record {
    names = 4;
    formats = [];
    items = (item.Specification (x 1 14 1) [] (record {
      result = (Some (type_name.Void (at 1 26)));
      name = (x 1 31
          2);
      parameters = ((type_name.Number numeric.Int) ∷ []);
    } ∷ []) ∷ item.Body (x 1 57 1) [] ((statement.Accept (record {
      head = record {
        place = (at
            1 63);
        name = (x 1 70 2);
        names = ((x 1 72 3) ∷ []);
        clauses = (record {
          word = clause_word.By;
          expression = (phrase.Arithmetic (phrase.Name (x 1
              79 3)) (record { operator = operator.Add; operand = (phrase.Name (x 1 81 3)) } ∷ record {
                operator = operator.Add;
                operand = (phrase.Name (x 1 83
                    3));
              } ∷ record { operator = operator.Add; operand = (phrase.Name (x 1 85 3)) } ∷ record {
                operator = operator.Add;
                operand = (phrase.Name (x 1 87
                    3));
              } ∷ record { operator = operator.Add; operand = (phrase.Name (x 1 89 3)) } ∷ record {
                operator = operator.Add;
                operand = (phrase.Name (x 1 91
                    3));
              } ∷ record { operator = operator.Add; operand = (phrase.Name (x 1 93 3)) } ∷ record {
                operator = operator.Add;
                operand = (phrase.Name (x 1 95
                    3));
              } ∷ record { operator = operator.Add; operand = (phrase.Name (x 1 97 3)) } ∷ record {
                operator = operator.Add;
                operand = (phrase.Name (x 1 99
                    3));
              } ∷ record { operator = operator.Add; operand = (phrase.Name (x 1 101 3)) } ∷ record {
                operator = operator.Add;
                operand = (phrase.Name (x 1
                    103 3));
              } ∷ record { operator = operator.Add; operand = (phrase.Name (x 1 105 3)) } ∷ record {
                operator = operator.Add;
                operand = (phrase.Name (x
                    1 107 3));
              } ∷ record { operator = operator.Add; operand = (phrase.Name (x 1 109 3)) } ∷ record {
                operator = operator.Add;
                operand = (phrase.Name
                    (x 1 111 3));
              } ∷ record { operator = operator.Add; operand = (phrase.Name (x 1 113 3)) } ∷ record {
                operator = operator.Add;
                operand =
                    (phrase.Name (x 1 115 3));
              } ∷ record { operator = operator.Add; operand = (phrase.Name (x 1 117 3)) } ∷ record {
                operator = operator.Add;
                operand
                    = (phrase.Name (x 1 119 3));
              } ∷ record { operator = operator.Add; operand = (phrase.Name (x 1 121 3)) } ∷ record {
                operator = operator.Add;
                operand = (phrase.Name (x 1 123 3));
              } ∷ record { operator = operator.Add; operand = (phrase.Name (x 1 125 3)) } ∷ record {
                operator =
                    operator.Add;
                operand = (phrase.Name (x 1 127 3));
              } ∷ record { operator = operator.Add; operand = (phrase.Name (x 1 129 3)) } ∷ record {
                operator
                    = operator.Add;
                operand = (phrase.Name (x 1 131 3));
              } ∷ record { operator = operator.Add; operand = (phrase.Name (x 1 133 3)) } ∷ record {
                operator = operator.Add;
                operand = (phrase.Name (x 1 135 3));
              } ∷ record { operator = operator.Add; operand = (phrase.Name (x 1 137 3)) } ∷ record
              { operator = operator.Add; operand = (phrase.Name (x 1 139 3)) } ∷ record { operator = operator.Add; operand = (phrase.Name (x 1 141 3)) } ∷
              record { operator = operator.Add; operand = (phrase.Name (x 1 143 3)) } ∷ record { operator = operator.Add; operand = (phrase.Name (x 1 145 3)) }
              ∷ record { operator = operator.Add; operand = (phrase.Name (x 1 147 3)) } ∷ record {
                operator = operator.Add;
                operand = (phrase.Name (x 1 149 3));
              } ∷ record { operator = operator.Add; operand = (phrase.Name (x 1 151 3)) } ∷ record {
                operator = operator.Add;
                operand = (phrase.Name (x 1 153
                    3));
              } ∷ record { operator = operator.Add; operand = (phrase.Name (x 1 155 3)) } ∷ record {
                operator = operator.Add;
                operand = (phrase.Name (x 1
                    157 3));
              } ∷ record { operator = operator.Add; operand = (phrase.Name (x 1 159 3)) } ∷ record {
                operator = operator.Add;
                operand = (phrase.Name (x
                    1 161 3));
              } ∷ record { operator = operator.Add; operand = (phrase.Name (x 1 163 3)) } ∷ record {
                operator = operator.Add;
                operand = (phrase.Name
                    (x 1 165 3));
              } ∷ record { operator = operator.Add; operand = (phrase.Name (x 1 167 3)) } ∷ record {
                operator = operator.Add;
                operand =
                    (phrase.Name (x 1 169 3));
              } ∷ record { operator = operator.Add; operand = (phrase.Name (x 1 171 3)) } ∷ record {
                operator = operator.Add;
                operand
                    = (phrase.Name (x 1 173 3));
              } ∷ record { operator = operator.Add; operand = (phrase.Name (x 1 175 3)) } ∷ record {
                operator = operator.Add;
                operand = (phrase.Name (x 1 177 3));
              } ∷ record { operator = operator.Add; operand = (phrase.Name (x 1 179 3)) } ∷ record {
                operator =
                    operator.Add;
                operand = (phrase.Name (x 1 181 3));
              } ∷ record { operator = operator.Add; operand = (phrase.Name (x 1 183 3)) } ∷ record {
                operator
                    = operator.Add;
                operand = (phrase.Name (x 1 185 3));
              } ∷ record { operator = operator.Add; operand = (phrase.Name (x 1 187 3)) } ∷ record {
                operator = operator.Add;
                operand = (phrase.Name (x 1 189 3));
              } ∷ record { operator = operator.Add; operand = (phrase.Name (x 1 191 3)) } ∷ record
              { operator = operator.Add; operand = (phrase.Name (x 1 193 3)) } ∷ record { operator = operator.Add; operand = (phrase.Name (x 1 195 3)) } ∷
              record { operator = operator.Add; operand = (phrase.Name (x 1 197 3)) } ∷ record { operator = operator.Add; operand = (phrase.Name (x 1 199 3)) }
              ∷ record { operator = operator.Add; operand = (phrase.Name (x 1 201 3)) } ∷ record {
                operator = operator.Add;
                operand = (phrase.Name (x 1 203 3));
              } ∷ record { operator = operator.Add; operand = (phrase.Name (x 1 205 3)) } ∷ record {
                operator = operator.Add;
                operand = (phrase.Name (x 1 207
                    3));
              } ∷ record { operator = operator.Add; operand = (phrase.Name (x 1 209 3)) } ∷ record {
                operator = operator.Add;
                operand = (phrase.Name (x 1
                    211 3));
              } ∷ record { operator = operator.Add; operand = (phrase.Name (x 1 213 3)) } ∷ record {
                operator = operator.Add;
                operand = (phrase.Name (x
                    1 215 3));
              } ∷ record { operator = operator.Add; operand = (phrase.Name (x 1 217 3)) } ∷ record {
                operator = operator.Add;
                operand = (phrase.Name
                    (x 1 219 3));
              } ∷ record { operator = operator.Add; operand = (phrase.Name (x 1 221 3)) } ∷ record {
                operator = operator.Add;
                operand =
                    (phrase.Name (x 1 223 3));
              } ∷ record { operator = operator.Add; operand = (phrase.Name (x 1 225 3)) } ∷ record {
                operator = operator.Add;
                operand
                    = (phrase.Name (x 1 227 3));
              } ∷ record { operator = operator.Add; operand = (phrase.Name (x 1 229 3)) } ∷ record {
                operator = operator.Add;
                operand = (phrase.Name (x 1 231 3));
              } ∷ record { operator = operator.Add; operand = (phrase.Name (x 1 233 3)) } ∷ record {
                operator =
                    operator.Add;
                operand = (phrase.Name (x 1 235 3));
              } ∷ record { operator = operator.Add; operand = (phrase.Name (x 1 237 3)) } ∷ record {
                operator
                    = operator.Add;
                operand = (phrase.Name (x 1 239 3));
              } ∷ record { operator = operator.Add; operand = (phrase.Name (x 1 241 3)) } ∷ record {
                operator = operator.Add;
                operand = (phrase.Name (x 1 243 3));
              } ∷ record { operator = operator.Add; operand = (phrase.Name (x 1 245 3)) } ∷ record
              { operator = operator.Add; operand = (phrase.Name (x 1 247 3)) } ∷ record { operator = operator.Add; operand = (phrase.Name (x 1 249 3)) } ∷
              record { operator = operator.Add; operand = (phrase.Name (x 1 251 3)) } ∷ record { operator = operator.Add; operand = (phrase.Name (x 1 253 3)) }
              ∷ record { operator = operator.Add; operand = (phrase.Name (x 1 255 3)) } ∷ record {
                operator = operator.Add;
                operand = (phrase.Name (x 1 257 3));
              } ∷ record { operator = operator.Add; operand = (phrase.Name (x 1 259 3)) } ∷ []));
        } ∷ []);
      };
      block = [];
    })) ∷ []) ∷ item.Function
        (type_name.Number numeric.Int) (x 1 265 0) [] [] ∷ []);
  },
  None,
)

-- (a longer text)
abbrev text5 : Row
text5 = (
  record {
    names = 4;
    formats = [];
    items = (item.Specification (x 1 14 1) [] (record {
      result = (Some (type_name.Void (at 1 26)));
      name = (x 1 31
          2);
      parameters = ((type_name.Number numeric.Int) ∷ []);
    } ∷ []) ∷ item.Body (x 1 57 1) [] ((statement.Accept (record {
      head = record {
        place = (at
            1 63);
        name = (x 1 70 2);
        names = ((x 1 72 3) ∷ []);
        clauses = (record {
          word = clause_word.By;
          expression = (phrase.Both (phrase.Name (x 1 79 3))
              ((phrase.Name (x 1 82 3)) ∷ (phrase.Name (x 1 85 3)) ∷ (phrase.Name (x 1 88 3)) ∷ (phrase.Name (x 1 91 3)) ∷ (phrase.Name (x 1 94 3)) ∷
              (phrase.Name (x 1 97 3)) ∷ (phrase.Name (x 1 100 3)) ∷ (phrase.Name (x 1 103 3)) ∷ (phrase.Name (x 1 106 3)) ∷ (phrase.Name (x 1 109 3)) ∷
              (phrase.Name (x 1 112 3)) ∷ (phrase.Name (x 1 115 3)) ∷ (phrase.Name (x 1 118 3)) ∷ (phrase.Name (x 1 121 3)) ∷ (phrase.Name (x 1 124 3)) ∷
              (phrase.Name (x 1 127 3)) ∷ (phrase.Name (x 1 130 3)) ∷ (phrase.Name (x 1 133 3)) ∷ (phrase.Name (x 1 136 3)) ∷ (phrase.Name (x 1 139 3)) ∷
              (phrase.Name (x 1 142 3)) ∷ (phrase.Name (x 1 145 3)) ∷ (phrase.Name (x 1 148 3)) ∷ (phrase.Name (x 1 151 3)) ∷ (phrase.Name (x 1 154 3)) ∷
              (phrase.Name (x 1 157 3)) ∷ (phrase.Name (x 1 160 3)) ∷ (phrase.Name (x 1 163 3)) ∷ (phrase.Name (x 1 166 3)) ∷ (phrase.Name (x 1 169 3)) ∷
              (phrase.Name (x 1 172 3)) ∷ (phrase.Name (x 1 175 3)) ∷ (phrase.Name (x 1 178 3)) ∷ (phrase.Name (x 1 181 3)) ∷ (phrase.Name (x 1 184 3)) ∷
              (phrase.Name (x 1 187 3)) ∷ (phrase.Name (x 1 190 3)) ∷ (phrase.Name (x 1 193 3)) ∷ (phrase.Name (x 1 196 3)) ∷ (phrase.Name (x 1 199 3)) ∷
              (phrase.Name (x 1 202 3)) ∷ (phrase.Name (x 1 205 3)) ∷ (phrase.Name (x 1 208 3)) ∷ (phrase.Name (x 1 211 3)) ∷ (phrase.Name (x 1 214 3)) ∷
              (phrase.Name (x 1 217 3)) ∷ (phrase.Name (x 1 220 3)) ∷ (phrase.Name (x 1 223 3)) ∷ (phrase.Name (x 1 226 3)) ∷ (phrase.Name (x 1 229 3)) ∷
              (phrase.Name (x 1 232 3)) ∷ (phrase.Name (x 1 235 3)) ∷ (phrase.Name (x 1 238 3)) ∷ (phrase.Name (x 1 241 3)) ∷ (phrase.Name (x 1 244 3)) ∷
              (phrase.Name (x 1 247 3)) ∷ (phrase.Name (x 1 250 3)) ∷ (phrase.Name (x 1 253 3)) ∷ (phrase.Name (x 1 256 3)) ∷ (phrase.Name (x 1 259 3)) ∷
              (phrase.Name (x 1 262 3)) ∷ (phrase.Name (x 1 265 3)) ∷ (phrase.Name (x 1 268 3)) ∷ (phrase.Name (x 1 271 3)) ∷ (phrase.Name (x 1 274 3)) ∷
              (phrase.Name (x 1 277 3)) ∷ (phrase.Name (x 1 280 3)) ∷ (phrase.Name (x 1 283 3)) ∷ (phrase.Name (x 1 286 3)) ∷ (phrase.Name (x 1 289 3)) ∷
              (phrase.Name (x 1 292 3)) ∷ (phrase.Name (x 1 295 3)) ∷ (phrase.Name (x 1 298 3)) ∷ (phrase.Name (x 1 301 3)) ∷ (phrase.Name (x 1 304 3)) ∷
              (phrase.Name (x 1 307 3)) ∷ (phrase.Name (x 1 310 3)) ∷ (phrase.Name (x 1 313 3)) ∷ (phrase.Name (x 1 316 3)) ∷ (phrase.Name (x 1 319 3)) ∷
              (phrase.Name (x 1 322 3)) ∷ (phrase.Name (x 1 325 3)) ∷ (phrase.Name (x 1 328 3)) ∷ (phrase.Name (x 1 331 3)) ∷ (phrase.Name (x 1 334 3)) ∷
              (phrase.Name (x 1 337 3)) ∷ (phrase.Name (x 1 340 3)) ∷ (phrase.Name (x 1 343 3)) ∷ (phrase.Name (x 1 346 3)) ∷ (phrase.Name (x 1 349 3)) ∷ []));
        }
            ∷ []);
      };
      block = [];
    })) ∷ []) ∷ item.Function (type_name.Number numeric.Int) (x 1 355 0) [] [] ∷ []);
  },
  None,
)

-- (a longer text)
abbrev text6 : Row
text6 = (
  record {
    names = 6;
    formats = [];
    items = (item.Specification (x 1 14 1) [] (record {
      result = (Some (type_name.Void (at 1 26)));
      name = (x 1 31
          2);
      parameters = ((type_name.Number numeric.Int) ∷ []);
    } ∷ []) ∷ item.Body (x 1 57 1) [] ((statement.Declare (record {
      of = (type_name.Process (x
          1 71 1));
      name = (x 1 73 3);
      form = form.Array (some_length.Number (at 1 75) (pos 2));
    })) ∷ (statement.Declare (record {
      of = (type_name.Number
          numeric.Int);
      name = (x 1 83 4);
      form = form.Array (some_length.Number (at 1 85) (pos 2));
    })) ∷ (statement.Accept (record {
      head = record {
        place
            = (at 1 89);
        name = (x 1 96 2);
        names = ((x 1 98 5) ∷ []);
        clauses = (record {
          word = clause_word.SuchThat;
          expression = (phrase.Chain
              (phrase.Name (x 1 111 3)) (step.Index (phrase.Chain (phrase.Name (x 1 113 4)) (step.Index (phrase.Chain (phrase.Name (x 1 115 4)) (step.Index
              (phrase.Chain (phrase.Name (x 1 117 4)) (step.Index (phrase.Chain (phrase.Name (x 1 119 4)) (step.Index (phrase.Chain (phrase.Name (x 1 121 4))
              (step.Index (phrase.Chain (phrase.Name (x 1 123 4)) (step.Index (phrase.Chain (phrase.Name (x 1 125 4)) (step.Index (phrase.Chain (phrase.Name (x
              1 127 4)) (step.Index (phrase.Chain (phrase.Name (x 1 129 4)) (step.Index (phrase.Chain (phrase.Name (x 1 131 4)) (step.Index (phrase.Chain
              (phrase.Name (x 1 133 4)) (step.Index (phrase.Chain (phrase.Name (x 1 135 4)) (step.Index (phrase.Chain (phrase.Name (x 1 137 4)) (step.Index
              (phrase.Chain (phrase.Name (x 1 139 4)) (step.Index (phrase.Chain (phrase.Name (x 1 141 4)) (step.Index (phrase.Chain (phrase.Name (x 1 143 4))
              (step.Index (phrase.Chain (phrase.Name (x 1 145 4)) (step.Index (phrase.Chain (phrase.Name (x 1 147 4)) (step.Index (phrase.Chain (phrase.Name (x
              1 149 4)) (step.Index (phrase.Chain (phrase.Name (x 1 151 4)) (step.Index (phrase.Chain (phrase.Name (x 1 153 4)) (step.Index (phrase.Chain
              (phrase.Name (x 1 155 4)) (step.Index (phrase.Chain (phrase.Name (x 1 157 4)) (step.Index (phrase.Chain (phrase.Name (x 1 159 4)) (step.Index
              (phrase.Chain (phrase.Name (x 1 161 4)) (step.Index (phrase.Chain (phrase.Name (x 1 163 4)) (step.Index (phrase.Chain (phrase.Name (x 1 165 4))
              (step.Index (phrase.Chain (phrase.Name (x 1 167 4)) (step.Index (phrase.Chain (phrase.Name (x 1 169 4)) (step.Index (phrase.Chain (phrase.Name (x
              1 171 4)) (step.Index (phrase.Chain (phrase.Name (x 1 173 4)) (step.Index (phrase.Chain (phrase.Name (x 1 175 4)) (step.Index (phrase.Chain
              (phrase.Name (x 1 177 4)) (step.Index (phrase.Chain (phrase.Name (x 1 179 4)) (step.Index (phrase.Chain (phrase.Name (x 1 181 4)) (step.Index
              (phrase.Chain (phrase.Name (x 1 183 4)) (step.Index (phrase.Chain (phrase.Name (x 1 185 4)) (step.Index (phrase.Chain (phrase.Name (x 1 187 4))
              (step.Index (phrase.Chain (phrase.Name (x 1 189 4)) (step.Index (phrase.Chain (phrase.Name (x 1 191 4)) (step.Index (phrase.Chain (phrase.Name (x
              1 193 4)) (step.Index (phrase.Chain (phrase.Name (x 1 195 4)) (step.Index (phrase.Chain (phrase.Name (x 1 197 4)) (step.Index (phrase.Chain
              (phrase.Name (x 1 199 4)) (step.Index (phrase.Chain (phrase.Name (x 1 201 4)) (step.Index (phrase.Chain (phrase.Name (x 1 203 4)) (step.Index
              (phrase.Chain (phrase.Name (x 1 205 4)) (step.Index (phrase.Chain (phrase.Name (x 1 207 4)) (step.Index (phrase.Chain (phrase.Name (x 1 209 4))
              (step.Index (phrase.Chain (phrase.Name (x 1 211 4)) (step.Index (phrase.Chain (phrase.Name (x 1 213 4)) (step.Index (phrase.Chain (phrase.Name (x
              1 215 4)) (step.Index (phrase.Chain (phrase.Name (x 1 217 4)) (step.Index (phrase.Chain (phrase.Name (x 1 219 4)) (step.Index (phrase.Chain
              (phrase.Name (x 1 221 4)) (step.Index (phrase.Chain (phrase.Name (x 1 223 4)) (step.Index (phrase.Chain (phrase.Name (x 1 225 4)) (step.Index
              (phrase.Chain (phrase.Name (x 1 227 4)) (step.Index (phrase.Chain (phrase.Name (x 1 229 4)) (step.Index (phrase.Chain (phrase.Name (x 1 231 4))
              (step.Index (phrase.Chain (phrase.Name (x 1 233 4)) (step.Index (phrase.Chain (phrase.Name (x 1 235 4)) (step.Index (phrase.Chain (phrase.Name (x
              1 237 4)) (step.Index (phrase.Chain (phrase.Name (x 1 239 4)) (step.Index (phrase.Name (x 1 241 5)) ∷ [])) ∷ [])) ∷ [])) ∷ [])) ∷ [])) ∷ [])) ∷
              [])) ∷ [])) ∷ [])) ∷ [])) ∷ [])) ∷ [])) ∷ [])) ∷ [])) ∷ [])) ∷ [])) ∷ [])) ∷ [])) ∷ [])) ∷ [])) ∷ [])) ∷ [])) ∷ [])) ∷ [])) ∷ [])) ∷ [])) ∷ [])) ∷
              [])) ∷ [])) ∷ [])) ∷ [])) ∷ [])) ∷ [])) ∷ [])) ∷ [])) ∷ [])) ∷ [])) ∷ [])) ∷ [])) ∷ [])) ∷ [])) ∷ [])) ∷ [])) ∷ [])) ∷ [])) ∷ [])) ∷ [])) ∷ [])) ∷
              [])) ∷ [])) ∷ [])) ∷ [])) ∷ [])) ∷ [])) ∷ [])) ∷ [])) ∷ [])) ∷ [])) ∷ [])) ∷ [])) ∷ [])) ∷ [])) ∷ [])) ∷ [])) ∷ []));
        } ∷ []);
      };
      block = [];
    })) ∷
        []) ∷ item.Function (type_name.Number numeric.Int) (x 1 312 0) [] [] ∷ []);
  },
  Some (fault_at 1 111 kind.Mismatch),
)

-- (a longer text)
abbrev text7 : Row
text7 = (
  record {
    names = 4;
    formats = [];
    items = (item.Specification (x 1 14 1) [] (record {
      result = (Some (type_name.Void (at 1 26)));
      name = (x 1 31
          2);
      parameters = ((type_name.Number numeric.Int) ∷ []);
    } ∷ []) ∷ item.Body (x 1 57 1) [] ((statement.Accept (record {
      head = record {
        place = (at
            1 63);
        name = (x 1 70 2);
        names = ((x 1 72 3) ∷ []);
        clauses = (record {
          word = clause_word.By;
          expression = (phrase.Arithmetic (phrase.StepAfter
              (phrase.Name (x 1 79 3)) step_word.Up) (record {
                operator = operator.Add;
                operand = (phrase.Parenthesized (at 1 83) (phrase.Arithmetic
                    (phrase.Name (x 1 84 3)) (record {
                      operator = operator.Add;
                      operand = (phrase.Parenthesized (at 1 86) (phrase.Arithmetic (phrase.Name (x 1 87 3))
                          (record {
                            operator = operator.Add;
                            operand = (phrase.Parenthesized (at 1 89) (phrase.Arithmetic (phrase.Name (x 1 90 3)) (record {
                              operator =
                                  operator.Add;
                              operand = (phrase.Parenthesized (at 1 92) (phrase.Arithmetic (phrase.Name (x 1 93 3)) (record {
                                operator = operator.Add;
                                operand =
                                    (phrase.Parenthesized (at 1 95) (phrase.Arithmetic (phrase.Name (x 1 96 3)) (record {
                                      operator = operator.Add;
                                      operand = (phrase.Parenthesized (at
                                          1 98) (phrase.Arithmetic (phrase.Name (x 1 99 3)) (record {
                                            operator = operator.Add;
                                            operand = (phrase.Parenthesized (at 1 101) (phrase.Arithmetic
                                                (phrase.Name (x 1 102 3)) (record {
                                                  operator = operator.Add;
                                                  operand = (phrase.Parenthesized (at 1 104) (phrase.Arithmetic (phrase.Name (x 1 105
                                                      3)) (record {
                                                        operator = operator.Add;
                                                        operand = (phrase.Parenthesized (at 1 107) (phrase.Arithmetic (phrase.Name (x 1 108 3)) (record {
                                                          operator
                                                              = operator.Add;
                                                          operand = (phrase.Parenthesized (at 1 110) (phrase.Arithmetic (phrase.Name (x 1 111 3)) (record {
                                                            operator = operator.Add;
                                                            operand
                                                                = (phrase.Parenthesized (at 1 113) (phrase.Arithmetic (phrase.Name (x 1 114 3)) (record {
                                                                  operator = operator.Add;
                                                                  operand = (phrase.Parenthesized
                                                                      (at 1 116) (phrase.Arithmetic (phrase.Name (x 1 117 3)) (record {
                                                                        operator = operator.Add;
                                                                        operand = (phrase.Parenthesized (at 1 119)
                                                                            (phrase.Arithmetic (phrase.Name (x 1 120 3)) (record {
                                                                              operator = operator.Add;
                                                                              operand = (phrase.Parenthesized (at 1 122) (phrase.Arithmetic
                                                                                  (phrase.Name (x 1 123 3)) (record {
                                                                                    operator = operator.Add;
                                                                                    operand = (phrase.Parenthesized (at 1 125) (phrase.Arithmetic (phrase.Name (x 1 126
                                                                                        3)) (record {
                                                                                          operator = operator.Add;
                                                                                          operand = (phrase.Parenthesized (at 1 128) (phrase.Arithmetic (phrase.Name (x 1 129 3)) (record {
                                                                                            operator
                                                                                                = operator.Add;
                                                                                            operand = (phrase.Parenthesized (at 1 131) (phrase.Arithmetic (phrase.Name (x 1 132 3)) (record {
                                                                                              operator = operator.Add;
                                                                                              operand
                                                                                                  = (phrase.Parenthesized (at 1 134) (phrase.Arithmetic (phrase.Name (x 1 135 3)) (record {
                                                                                                    operator = operator.Add;
                                                                                                    operand = (phrase.Parenthesized
                                                                                                        (at 1 137) (phrase.Arithmetic (phrase.Name (x 1 138 3)) (record {
                                                                                                          operator = operator.Add;
                                                                                                          operand = (phrase.Parenthesized (at 1 140)
                                                                                                              (phrase.Arithmetic (phrase.Name (x 1 141 3)) (record {
                                                                                                                operator = operator.Add;
                                                                                                                operand = (phrase.Parenthesized (at 1 143) (phrase.Arithmetic
                                                                                                                    (phrase.Name (x 1 144 3)) (record {
                                                                                                                      operator = operator.Add;
                                                                                                                      operand = (phrase.Parenthesized (at 1 146) (phrase.Arithmetic (phrase.Name (x 1 147
                                                                                                                          3)) (record {
                                                                                                                            operator = operator.Add;
                                                                                                                            operand = (phrase.Parenthesized (at 1 149) (phrase.Arithmetic (phrase.Name (x 1 150 3)) (record {
                                                                                                                              operator
                                                                                                                                  = operator.Add;
                                                                                                                              operand = (phrase.Parenthesized (at 1 152) (phrase.Arithmetic (phrase.Name (x 1 153 3)) (record {
                                                                                                                                operator = operator.Add;
                                                                                                                                operand
                                                                                                                                    = (phrase.Parenthesized (at 1 155) (phrase.Arithmetic (phrase.Name (x 1 156 3)) (record {
                                                                                                                                      operator = operator.Add;
                                                                                                                                      operand = (phrase.Parenthesized
                                                                                                                                          (at 1 158) (phrase.Arithmetic (phrase.Name (x 1 159 3)) (record {
                                                                                                                                            operator = operator.Add;
                                                                                                                                            operand = (phrase.Parenthesized (at 1 161)
                                                                                                                                                (phrase.Arithmetic (phrase.Name (x 1 162 3)) (record {
                                                                                                                                                  operator = operator.Add;
                                                                                                                                                  operand = (phrase.Parenthesized (at 1 164) (phrase.Arithmetic
                                                                                                                                                      (phrase.Name (x 1 165 3)) (record {
                                                                                                                                                        operator = operator.Add;
                                                                                                                                                        operand = (phrase.Parenthesized (at 1 167) (phrase.Arithmetic (phrase.Name (x 1 168
                                                                                                                                                            3)) (record {
                                                                                                                                                              operator = operator.Add;
                                                                                                                                                              operand = (phrase.Parenthesized (at 1 170) (phrase.Arithmetic (phrase.Name (x 1 171 3)) (record {
                                                                                                                                                                operator
                                                                                                                                                                    = operator.Add;
                                                                                                                                                                operand = (phrase.Parenthesized (at 1 173) (phrase.Arithmetic (phrase.Name (x 1 174 3)) (record {
                                                                                                                                                                  operator = operator.Add;
                                                                                                                                                                  operand
                                                                                                                                                                      = (phrase.Parenthesized (at 1 176) (phrase.Arithmetic (phrase.Name (x 1 177 3)) (record {
                                                                                                                                                                        operator = operator.Add;
                                                                                                                                                                        operand = (phrase.Parenthesized
                                                                                                                                                                            (at 1 179) (phrase.Arithmetic (phrase.Name (x 1 180 3)) (record {
                                                                                                                                                                              operator = operator.Add;
                                                                                                                                                                              operand = (phrase.Parenthesized (at 1 182)
                                                                                                                                                                                  (phrase.Arithmetic (phrase.Name (x 1 183 3)) (record {
                                                                                                                                                                                    operator = operator.Add;
                                                                                                                                                                                    operand = (phrase.Parenthesized (at 1 185) (phrase.Arithmetic
                                                                                                                                                                                        (phrase.Name (x 1 186 3)) (record {
                                                                                                                                                                                          operator = operator.Add;
                                                                                                                                                                                          operand = (phrase.Parenthesized (at 1 188) (phrase.Arithmetic (phrase.Name (x 1 189
                                                                                                                                                                                              3)) (record {
                                                                                                                                                                                                operator = operator.Add;
                                                                                                                                                                                                operand = (phrase.Parenthesized (at 1 191) (phrase.Arithmetic (phrase.Name (x 1 192 3)) (record {
                                                                                                                                                                                                  operator
                                                                                                                                                                                                      = operator.Add;
                                                                                                                                                                                                  operand = (phrase.Parenthesized (at 1 194) (phrase.Arithmetic (phrase.Name (x 1 195 3)) (record {
                                                                                                                                                                                                    operator = operator.Add;
                                                                                                                                                                                                    operand
                                                                                                                                                                                                        = (phrase.Parenthesized (at 1 197) (phrase.Arithmetic (phrase.Name (x 1 198 3)) (record {
                                                                                                                                                                                                          operator = operator.Add;
                                                                                                                                                                                                          operand = (phrase.Parenthesized
                                                                                                                                                                                                              (at 1 200) (phrase.Arithmetic (phrase.Name (x 1 201 3)) (record {
                                                                                                                                                                                                                operator = operator.Add;
                                                                                                                                                                                                                operand = (phrase.Parenthesized (at 1 203)
                                                                                                                                                                                                                    (phrase.Arithmetic (phrase.Name (x 1 204 3)) (record {
                                                                                                                                                                                                                      operator = operator.Add;
                                                                                                                                                                                                                      operand = (phrase.Parenthesized (at 1 206) (phrase.Arithmetic
                                                                                                                                                                                                                          (phrase.Name (x 1 207 3)) (record {
                                                                                                                                                                                                                            operator = operator.Add;
                                                                                                                                                                                                                            operand = (phrase.Parenthesized (at 1 209) (phrase.Arithmetic (phrase.Name (x 1 210
                                                                                                                                                                                                                                3)) (record {
                                                                                                                                                                                                                                  operator = operator.Add;
                                                                                                                                                                                                                                  operand = (phrase.Parenthesized (at 1 212) (phrase.Arithmetic (phrase.Name (x 1 213 3)) (record {
                                                                                                                                                                                                                                    operator
                                                                                                                                                                                                                                        = operator.Add;
                                                                                                                                                                                                                                    operand = (phrase.Parenthesized (at 1 215) (phrase.Arithmetic (phrase.Name (x 1 216 3)) (record {
                                                                                                                                                                                                                                      operator = operator.Add;
                                                                                                                                                                                                                                      operand
                                                                                                                                                                                                                                          = (phrase.Parenthesized (at 1 218) (phrase.Arithmetic (phrase.Name (x 1 219 3)) (record {
                                                                                                                                                                                                                                            operator = operator.Add;
                                                                                                                                                                                                                                            operand = (phrase.Parenthesized
                                                                                                                                                                                                                                                (at 1 221) (phrase.Arithmetic (phrase.Name (x 1 222 3)) (record {
                                                                                                                                                                                                                                                  operator = operator.Add;
                                                                                                                                                                                                                                                  operand = (phrase.Parenthesized (at 1 224)
                                                                                                                                                                                                                                                      (phrase.Arithmetic (phrase.Name (x 1 225 3)) (record {
                                                                                                                                                                                                                                                        operator = operator.Add;
                                                                                                                                                                                                                                                        operand = (phrase.Parenthesized (at 1 227) (phrase.Arithmetic
                                                                                                                                                                                                                                                            (phrase.Name (x 1 228 3)) (record {
                                                                                                                                                                                                                                                              operator = operator.Add;
                                                                                                                                                                                                                                                              operand = (phrase.Parenthesized (at 1 230) (phrase.Arithmetic (phrase.Name (x 1 231
                                                                                                                                                                                                                                                                  3)) (record {
                                                                                                                                                                                                                                                                    operator = operator.Add;
                                                                                                                                                                                                                                                                    operand = (phrase.Parenthesized (at 1 233) (phrase.Arithmetic (phrase.Name (x 1 234 3)) (record {
                                                                                                                                                                                                                                                                      operator
                                                                                                                                                                                                                                                                          = operator.Add;
                                                                                                                                                                                                                                                                      operand = (phrase.Parenthesized (at 1 236) (phrase.Arithmetic (phrase.Name (x 1 237 3)) (record {
                                                                                                                                                                                                                                                                        operator = operator.Add;
                                                                                                                                                                                                                                                                        operand
                                                                                                                                                                                                                                                                            = (phrase.Parenthesized (at 1 239) (phrase.Arithmetic (phrase.Name (x 1 240 3)) (record {
                                                                                                                                                                                                                                                                              operator = operator.Add;
                                                                                                                                                                                                                                                                              operand = (phrase.Parenthesized
                                                                                                                                                                                                                                                                                  (at 1 242) (phrase.Arithmetic (phrase.Name (x 1 243 3)) (record {
                                                                                                                                                                                                                                                                                    operator = operator.Add;
                                                                                                                                                                                                                                                                                    operand = (phrase.Parenthesized (at 1 245)
                                                                                                                                                                                                                                                                                        (phrase.Arithmetic (phrase.Name (x 1 246 3)) (record {
                                                                                                                                                                                                                                                                                          operator = operator.Add;
                                                                                                                                                                                                                                                                                          operand = (phrase.Parenthesized (at 1 248) (phrase.Arithmetic
                                                                                                                                                                                                                                                                                              (phrase.Name (x 1 249 3)) (record {
                                                                                                                                                                                                                                                                                                operator = operator.Add;
                                                                                                                                                                                                                                                                                                operand = (phrase.Parenthesized (at 1 251) (phrase.Arithmetic (phrase.Name (x 1 252
                                                                                                                                                                                                                                                                                                    3)) (record {
                                                                                                                                                                                                                                                                                                      operator = operator.Add;
                                                                                                                                                                                                                                                                                                      operand = (phrase.Parenthesized (at 1 254) (phrase.Arithmetic (phrase.Name (x 1 255 3)) (record {
                                                                                                                                                                                                                                                                                                        operator
                                                                                                                                                                                                                                                                                                            = operator.Add;
                                                                                                                                                                                                                                                                                                        operand = (phrase.Parenthesized (at 1 257) (phrase.Arithmetic (phrase.Name (x 1 258 3)) (record {
                                                                                                                                                                                                                                                                                                          operator = operator.Add;
                                                                                                                                                                                                                                                                                                          operand
                                                                                                                                                                                                                                                                                                              = (phrase.Parenthesized (at 1 260) (phrase.Arithmetic (phrase.Name (x 1 261 3)) (record {
                                                                                                                                                                                                                                                                                                                operator = operator.Add;
                                                                                                                                                                                                                                                                                                                operand = (phrase.Parenthesized
                                                                                                                                                                                                                                                                                                                    (at 1 263) (phrase.Arithmetic (phrase.Name (x 1 264 3)) (record {
                                                                                                                                                                                                                                                                                                                      operator = operator.Add;
                                                                                                                                                                                                                                                                                                                      operand = (phrase.Parenthesized (at 1 266)
                                                                                                                                                                                                                                                                                                                          (phrase.Arithmetic (phrase.Name (x 1 267 3)) (record {
                                                                                                                                                                                                                                                                                                                            operator = operator.Add;
                                                                                                                                                                                                                                                                                                                            operand = (phrase.Parenthesized (at 1 269) (phrase.Arithmetic
                                                                                                                                                                                                                                                                                                                                (phrase.Name (x 1 270 3)) (record { operator = operator.Add; operand = (phrase.Parenthesized (at 1 272) (phrase.Name (x 1 273 3))) } ∷ [])));
                                                                                                                                                                                                                                                                                                                          } ∷
                                                                                                                                                                                                                                                                                                                          [])));
                                                                                                                                                                                                                                                                                                                    } ∷ [])));
                                                                                                                                                                                                                                                                                                              } ∷ [])));
                                                                                                                                                                                                                                                                                                        } ∷ [])));
                                                                                                                                                                                                                                                                                                      } ∷ [])));
                                                                                                                                                                                                                                                                                                    } ∷ [])));
                                                                                                                                                                                                                                                                                              } ∷ [])));
                                                                                                                                                                                                                                                                                        } ∷ [])));
                                                                                                                                                                                                                                                                                  } ∷ [])));
                                                                                                                                                                                                                                                                            } ∷ [])));
                                                                                                                                                                                                                                                                      } ∷ [])));
                                                                                                                                                                                                                                                                    } ∷ [])));
                                                                                                                                                                                                                                                                  } ∷ [])));
                                                                                                                                                                                                                                                            } ∷ [])));
                                                                                                                                                                                                                                                      } ∷ [])));
                                                                                                                                                                                                                                                } ∷ [])));
                                                                                                                                                                                                                                          } ∷ [])));
                                                                                                                                                                                                                                    } ∷ [])));
                                                                                                                                                                                                                                  } ∷ [])));
                                                                                                                                                                                                                                } ∷ [])));
                                                                                                                                                                                                                          } ∷ [])));
                                                                                                                                                                                                                    } ∷ [])));
                                                                                                                                                                                                              } ∷ [])));
                                                                                                                                                                                                        } ∷ [])));
                                                                                                                                                                                                  } ∷ [])));
                                                                                                                                                                                                } ∷ [])));
                                                                                                                                                                                              } ∷ [])));
                                                                                                                                                                                        } ∷ [])));
                                                                                                                                                                                  } ∷ [])));
                                                                                                                                                                            } ∷
                                                                                                                                                                            [])));
                                                                                                                                                                      } ∷ [])));
                                                                                                                                                                } ∷ [])));
                                                                                                                                                              } ∷ [])));
                                                                                                                                                            } ∷ [])));
                                                                                                                                                      } ∷ [])));
                                                                                                                                                } ∷ [])));
                                                                                                                                          } ∷ [])));
                                                                                                                                    } ∷ [])));
                                                                                                                              } ∷ [])));
                                                                                                                            } ∷ [])));
                                                                                                                          } ∷ [])));
                                                                                                                    } ∷ [])));
                                                                                                              } ∷ [])));
                                                                                                        } ∷ [])));
                                                                                                  } ∷ [])));
                                                                                            } ∷ [])));
                                                                                          } ∷ [])));
                                                                                        } ∷ [])));
                                                                                  } ∷ [])));
                                                                            } ∷ [])));
                                                                      } ∷ [])));
                                                                } ∷ [])));
                                                          } ∷ [])));
                                                        } ∷ [])));
                                                      } ∷ [])));
                                                } ∷ [])));
                                          } ∷ [])));
                                    } ∷ [])));
                              } ∷
                                  [])));
                            } ∷ [])));
                          } ∷ [])));
                    } ∷ [])));
              } ∷ []));
        } ∷ []);
      };
      block = [];
    })) ∷ []) ∷ item.Function (type_name.Number numeric.Int) (x 1 343 0) [] [] ∷
        []);
  },
  Some (fault_at 1 79 kind.NotPure),
)

-- (a longer text)
abbrev text8 : Row
text8 = (
  record {
    names = 4;
    formats = [];
    items = (item.Specification (x 1 14 1) [] (record {
      result = (Some (type_name.Void (at 1 26)));
      name = (x 1 31
          2);
      parameters = ((type_name.Number numeric.Int) ∷ []);
    } ∷ []) ∷ item.Body (x 1 57 1) [] ((statement.Accept (record {
      head = record {
        place = (at
            1 63);
        name = (x 1 70 2);
        names = ((x 1 72 3) ∷ []);
        clauses = (record {
          word = clause_word.By;
          expression = (phrase.Arithmetic (phrase.Not (at 1
              79) (phrase.Name (x 1 80 3))) (record {
                operator = operator.Add;
                operand = (phrase.Parenthesized (at 1 82) (phrase.Arithmetic (phrase.Name (x 1 83
                    3)) (record {
                      operator = operator.Add;
                      operand = (phrase.Parenthesized (at 1 85) (phrase.Arithmetic (phrase.Name (x 1 86 3)) (record {
                        operator =
                            operator.Add;
                        operand = (phrase.Parenthesized (at 1 88) (phrase.Arithmetic (phrase.Name (x 1 89 3)) (record {
                          operator = operator.Add;
                          operand =
                              (phrase.Parenthesized (at 1 91) (phrase.Arithmetic (phrase.Name (x 1 92 3)) (record {
                                operator = operator.Add;
                                operand = (phrase.Parenthesized (at
                                    1 94) (phrase.Arithmetic (phrase.Name (x 1 95 3)) (record {
                                      operator = operator.Add;
                                      operand = (phrase.Parenthesized (at 1 97) (phrase.Arithmetic
                                          (phrase.Name (x 1 98 3)) (record {
                                            operator = operator.Add;
                                            operand = (phrase.Parenthesized (at 1 100) (phrase.Arithmetic (phrase.Name (x 1 101
                                                3)) (record {
                                                  operator = operator.Add;
                                                  operand = (phrase.Parenthesized (at 1 103) (phrase.Arithmetic (phrase.Name (x 1 104 3)) (record {
                                                    operator
                                                        = operator.Add;
                                                    operand = (phrase.Parenthesized (at 1 106) (phrase.Arithmetic (phrase.Name (x 1 107 3)) (record {
                                                      operator = operator.Add;
                                                      operand
                                                          = (phrase.Parenthesized (at 1 109) (phrase.Arithmetic (phrase.Name (x 1 110 3)) (record {
                                                            operator = operator.Add;
                                                            operand = (phrase.Parenthesized
                                                                (at 1 112) (phrase.Arithmetic (phrase.Name (x 1 113 3)) (record {
                                                                  operator = operator.Add;
                                                                  operand = (phrase.Parenthesized (at 1 115)
                                                                      (phrase.Arithmetic (phrase.Name (x 1 116 3)) (record {
                                                                        operator = operator.Add;
                                                                        operand = (phrase.Parenthesized (at 1 118) (phrase.Arithmetic
                                                                            (phrase.Name (x 1 119 3)) (record {
                                                                              operator = operator.Add;
                                                                              operand = (phrase.Parenthesized (at 1 121) (phrase.Arithmetic (phrase.Name (x 1 122
                                                                                  3)) (record {
                                                                                    operator = operator.Add;
                                                                                    operand = (phrase.Parenthesized (at 1 124) (phrase.Arithmetic (phrase.Name (x 1 125 3)) (record {
                                                                                      operator
                                                                                          = operator.Add;
                                                                                      operand = (phrase.Parenthesized (at 1 127) (phrase.Arithmetic (phrase.Name (x 1 128 3)) (record {
                                                                                        operator = operator.Add;
                                                                                        operand
                                                                                            = (phrase.Parenthesized (at 1 130) (phrase.Arithmetic (phrase.Name (x 1 131 3)) (record {
                                                                                              operator = operator.Add;
                                                                                              operand = (phrase.Parenthesized
                                                                                                  (at 1 133) (phrase.Arithmetic (phrase.Name (x 1 134 3)) (record {
                                                                                                    operator = operator.Add;
                                                                                                    operand = (phrase.Parenthesized (at 1 136)
                                                                                                        (phrase.Arithmetic (phrase.Name (x 1 137 3)) (record {
                                                                                                          operator = operator.Add;
                                                                                                          operand = (phrase.Parenthesized (at 1 139) (phrase.Arithmetic
                                                                                                              (phrase.Name (x 1 140 3)) (record {
                                                                                                                operator = operator.Add;
                                                                                                                operand = (phrase.Parenthesized (at 1 142) (phrase.Arithmetic (phrase.Name (x 1 143
                                                                                                                    3)) (record {
                                                                                                                      operator = operator.Add;
                                                                                                                      operand = (phrase.Parenthesized (at 1 145) (phrase.Arithmetic (phrase.Name (x 1 146 3)) (record {
                                                                                                                        operator
                                                                                                                            = operator.Add;
                                                                                                                        operand = (phrase.Parenthesized (at 1 148) (phrase.Arithmetic (phrase.Name (x 1 149 3)) (record {
                                                                                                                          operator = operator.Add;
                                                                                                                          operand
                                                                                                                              = (phrase.Parenthesized (at 1 151) (phrase.Arithmetic (phrase.Name (x 1 152 3)) (record {
                                                                                                                                operator = operator.Add;
                                                                                                                                operand = (phrase.Parenthesized
                                                                                                                                    (at 1 154) (phrase.Arithmetic (phrase.Name (x 1 155 3)) (record {
                                                                                                                                      operator = operator.Add;
                                                                                                                                      operand = (phrase.Parenthesized (at 1 157)
                                                                                                                                          (phrase.Arithmetic (phrase.Name (x 1 158 3)) (record {
                                                                                                                                            operator = operator.Add;
                                                                                                                                            operand = (phrase.Parenthesized (at 1 160) (phrase.Arithmetic
                                                                                                                                                (phrase.Name (x 1 161 3)) (record {
                                                                                                                                                  operator = operator.Add;
                                                                                                                                                  operand = (phrase.Parenthesized (at 1 163) (phrase.Arithmetic (phrase.Name (x 1 164
                                                                                                                                                      3)) (record {
                                                                                                                                                        operator = operator.Add;
                                                                                                                                                        operand = (phrase.Parenthesized (at 1 166) (phrase.Arithmetic (phrase.Name (x 1 167 3)) (record {
                                                                                                                                                          operator
                                                                                                                                                              = operator.Add;
                                                                                                                                                          operand = (phrase.Parenthesized (at 1 169) (phrase.Arithmetic (phrase.Name (x 1 170 3)) (record {
                                                                                                                                                            operator = operator.Add;
                                                                                                                                                            operand
                                                                                                                                                                = (phrase.Parenthesized (at 1 172) (phrase.Arithmetic (phrase.Name (x 1 173 3)) (record {
                                                                                                                                                                  operator = operator.Add;
                                                                                                                                                                  operand = (phrase.Parenthesized
                                                                                                                                                                      (at 1 175) (phrase.Arithmetic (phrase.Name (x 1 176 3)) (record {
                                                                                                                                                                        operator = operator.Add;
                                                                                                                                                                        operand = (phrase.Parenthesized (at 1 178)
                                                                                                                                                                            (phrase.Arithmetic (phrase.Name (x 1 179 3)) (record {
                                                                                                                                                                              operator = operator.Add;
                                                                                                                                                                              operand = (phrase.Parenthesized (at 1 181) (phrase.Arithmetic
                                                                                                                                                                                  (phrase.Name (x 1 182 3)) (record {
                                                                                                                                                                                    operator = operator.Add;
                                                                                                                                                                                    operand = (phrase.Parenthesized (at 1 184) (phrase.Arithmetic (phrase.Name (x 1 185
                                                                                                                                                                                        3)) (record {
                                                                                                                                                                                          operator = operator.Add;
                                                                                                                                                                                          operand = (phrase.Parenthesized (at 1 187) (phrase.Arithmetic (phrase.Name (x 1 188 3)) (record {
                                                                                                                                                                                            operator
                                                                                                                                                                                                = operator.Add;
                                                                                                                                                                                            operand = (phrase.Parenthesized (at 1 190) (phrase.Arithmetic (phrase.Name (x 1 191 3)) (record {
                                                                                                                                                                                              operator = operator.Add;
                                                                                                                                                                                              operand
                                                                                                                                                                                                  = (phrase.Parenthesized (at 1 193) (phrase.Arithmetic (phrase.Name (x 1 194 3)) (record {
                                                                                                                                                                                                    operator = operator.Add;
                                                                                                                                                                                                    operand = (phrase.Parenthesized
                                                                                                                                                                                                        (at 1 196) (phrase.Arithmetic (phrase.Name (x 1 197 3)) (record {
                                                                                                                                                                                                          operator = operator.Add;
                                                                                                                                                                                                          operand = (phrase.Parenthesized (at 1 199)
                                                                                                                                                                                                              (phrase.Arithmetic (phrase.Name (x 1 200 3)) (record {
                                                                                                                                                                                                                operator = operator.Add;
                                                                                                                                                                                                                operand = (phrase.Parenthesized (at 1 202) (phrase.Arithmetic
                                                                                                                                                                                                                    (phrase.Name (x 1 203 3)) (record {
                                                                                                                                                                                                                      operator = operator.Add;
                                                                                                                                                                                                                      operand = (phrase.Parenthesized (at 1 205) (phrase.Arithmetic (phrase.Name (x 1 206
                                                                                                                                                                                                                          3)) (record {
                                                                                                                                                                                                                            operator = operator.Add;
                                                                                                                                                                                                                            operand = (phrase.Parenthesized (at 1 208) (phrase.Arithmetic (phrase.Name (x 1 209 3)) (record {
                                                                                                                                                                                                                              operator
                                                                                                                                                                                                                                  = operator.Add;
                                                                                                                                                                                                                              operand = (phrase.Parenthesized (at 1 211) (phrase.Arithmetic (phrase.Name (x 1 212 3)) (record {
                                                                                                                                                                                                                                operator = operator.Add;
                                                                                                                                                                                                                                operand
                                                                                                                                                                                                                                    = (phrase.Parenthesized (at 1 214) (phrase.Arithmetic (phrase.Name (x 1 215 3)) (record {
                                                                                                                                                                                                                                      operator = operator.Add;
                                                                                                                                                                                                                                      operand = (phrase.Parenthesized
                                                                                                                                                                                                                                          (at 1 217) (phrase.Arithmetic (phrase.Name (x 1 218 3)) (record {
                                                                                                                                                                                                                                            operator = operator.Add;
                                                                                                                                                                                                                                            operand = (phrase.Parenthesized (at 1 220)
                                                                                                                                                                                                                                                (phrase.Arithmetic (phrase.Name (x 1 221 3)) (record {
                                                                                                                                                                                                                                                  operator = operator.Add;
                                                                                                                                                                                                                                                  operand = (phrase.Parenthesized (at 1 223) (phrase.Arithmetic
                                                                                                                                                                                                                                                      (phrase.Name (x 1 224 3)) (record {
                                                                                                                                                                                                                                                        operator = operator.Add;
                                                                                                                                                                                                                                                        operand = (phrase.Parenthesized (at 1 226) (phrase.Arithmetic (phrase.Name (x 1 227
                                                                                                                                                                                                                                                            3)) (record {
                                                                                                                                                                                                                                                              operator = operator.Add;
                                                                                                                                                                                                                                                              operand = (phrase.Parenthesized (at 1 229) (phrase.Arithmetic (phrase.Name (x 1 230 3)) (record {
                                                                                                                                                                                                                                                                operator
                                                                                                                                                                                                                                                                    = operator.Add;
                                                                                                                                                                                                                                                                operand = (phrase.Parenthesized (at 1 232) (phrase.Arithmetic (phrase.Name (x 1 233 3)) (record {
                                                                                                                                                                                                                                                                  operator = operator.Add;
                                                                                                                                                                                                                                                                  operand
                                                                                                                                                                                                                                                                      = (phrase.Parenthesized (at 1 235) (phrase.Arithmetic (phrase.Name (x 1 236 3)) (record {
                                                                                                                                                                                                                                                                        operator = operator.Add;
                                                                                                                                                                                                                                                                        operand = (phrase.Parenthesized
                                                                                                                                                                                                                                                                            (at 1 238) (phrase.Arithmetic (phrase.Name (x 1 239 3)) (record {
                                                                                                                                                                                                                                                                              operator = operator.Add;
                                                                                                                                                                                                                                                                              operand = (phrase.Parenthesized (at 1 241)
                                                                                                                                                                                                                                                                                  (phrase.Arithmetic (phrase.Name (x 1 242 3)) (record {
                                                                                                                                                                                                                                                                                    operator = operator.Add;
                                                                                                                                                                                                                                                                                    operand = (phrase.Parenthesized (at 1 244) (phrase.Arithmetic
                                                                                                                                                                                                                                                                                        (phrase.Name (x 1 245 3)) (record {
                                                                                                                                                                                                                                                                                          operator = operator.Add;
                                                                                                                                                                                                                                                                                          operand = (phrase.Parenthesized (at 1 247) (phrase.Arithmetic (phrase.Name (x 1 248
                                                                                                                                                                                                                                                                                              3)) (record {
                                                                                                                                                                                                                                                                                                operator = operator.Add;
                                                                                                                                                                                                                                                                                                operand = (phrase.Parenthesized (at 1 250) (phrase.Arithmetic (phrase.Name (x 1 251 3)) (record {
                                                                                                                                                                                                                                                                                                  operator
                                                                                                                                                                                                                                                                                                      = operator.Add;
                                                                                                                                                                                                                                                                                                  operand = (phrase.Parenthesized (at 1 253) (phrase.Arithmetic (phrase.Name (x 1 254 3)) (record {
                                                                                                                                                                                                                                                                                                    operator = operator.Add;
                                                                                                                                                                                                                                                                                                    operand
                                                                                                                                                                                                                                                                                                        = (phrase.Parenthesized (at 1 256) (phrase.Arithmetic (phrase.Name (x 1 257 3)) (record {
                                                                                                                                                                                                                                                                                                          operator = operator.Add;
                                                                                                                                                                                                                                                                                                          operand = (phrase.Parenthesized
                                                                                                                                                                                                                                                                                                              (at 1 259) (phrase.Arithmetic (phrase.Name (x 1 260 3)) (record {
                                                                                                                                                                                                                                                                                                                operator = operator.Add;
                                                                                                                                                                                                                                                                                                                operand = (phrase.Parenthesized (at 1 262)
                                                                                                                                                                                                                                                                                                                    (phrase.Arithmetic (phrase.Name (x 1 263 3)) (record {
                                                                                                                                                                                                                                                                                                                      operator = operator.Add;
                                                                                                                                                                                                                                                                                                                      operand = (phrase.Parenthesized (at 1 265) (phrase.Arithmetic
                                                                                                                                                                                                                                                                                                                          (phrase.Name (x 1 266 3)) (record {
                                                                                                                                                                                                                                                                                                                            operator = operator.Add;
                                                                                                                                                                                                                                                                                                                            operand = (phrase.Parenthesized (at 1 268) (phrase.Arithmetic (phrase.Name (x 1 269
                                                                                                                                                                                                                                                                                                                                3)) (record { operator = operator.Add; operand = (phrase.Parenthesized (at 1 271) (phrase.Name (x 1 272 3))) } ∷ [])));
                                                                                                                                                                                                                                                                                                                          } ∷ [])));
                                                                                                                                                                                                                                                                                                                    } ∷ [])));
                                                                                                                                                                                                                                                                                                              } ∷
                                                                                                                                                                                                                                                                                                              [])));
                                                                                                                                                                                                                                                                                                        } ∷ [])));
                                                                                                                                                                                                                                                                                                  } ∷ [])));
                                                                                                                                                                                                                                                                                                } ∷ [])));
                                                                                                                                                                                                                                                                                              } ∷ [])));
                                                                                                                                                                                                                                                                                        } ∷ [])));
                                                                                                                                                                                                                                                                                  } ∷ [])));
                                                                                                                                                                                                                                                                            } ∷ [])));
                                                                                                                                                                                                                                                                      } ∷ [])));
                                                                                                                                                                                                                                                                } ∷ [])));
                                                                                                                                                                                                                                                              } ∷ [])));
                                                                                                                                                                                                                                                            } ∷ [])));
                                                                                                                                                                                                                                                      } ∷ [])));
                                                                                                                                                                                                                                                } ∷ [])));
                                                                                                                                                                                                                                          } ∷ [])));
                                                                                                                                                                                                                                    } ∷ [])));
                                                                                                                                                                                                                              } ∷ [])));
                                                                                                                                                                                                                            } ∷ [])));
                                                                                                                                                                                                                          } ∷ [])));
                                                                                                                                                                                                                    } ∷ [])));
                                                                                                                                                                                                              } ∷ [])));
                                                                                                                                                                                                        } ∷ [])));
                                                                                                                                                                                                  } ∷ [])));
                                                                                                                                                                                            } ∷ [])));
                                                                                                                                                                                          } ∷ [])));
                                                                                                                                                                                        } ∷ [])));
                                                                                                                                                                                  } ∷ [])));
                                                                                                                                                                            } ∷ [])));
                                                                                                                                                                      } ∷ [])));
                                                                                                                                                                } ∷
                                                                                                                                                                [])));
                                                                                                                                                          } ∷ [])));
                                                                                                                                                        } ∷ [])));
                                                                                                                                                      } ∷ [])));
                                                                                                                                                } ∷ [])));
                                                                                                                                          } ∷ [])));
                                                                                                                                    } ∷ [])));
                                                                                                                              } ∷ [])));
                                                                                                                        } ∷ [])));
                                                                                                                      } ∷ [])));
                                                                                                                    } ∷ [])));
                                                                                                              } ∷ [])));
                                                                                                        } ∷ [])));
                                                                                                  } ∷ [])));
                                                                                            } ∷ [])));
                                                                                      } ∷ [])));
                                                                                    } ∷ [])));
                                                                                  } ∷ [])));
                                                                            } ∷ [])));
                                                                      } ∷ [])));
                                                                } ∷ [])));
                                                          } ∷ [])));
                                                    } ∷ [])));
                                                  } ∷ [])));
                                                } ∷ [])));
                                          } ∷ [])));
                                    } ∷ [])));
                              } ∷ [])));
                        } ∷ [])));
                      } ∷
                          [])));
                    } ∷ [])));
              } ∷ []));
        } ∷ []);
      };
      block = [];
    })) ∷ []) ∷ item.Function (type_name.Number numeric.Int) (x 1 342 0) [] [] ∷ []);
  },
  Some (fault_at
      1 79 kind.PureTooDeep),
)

-- (a longer text)
abbrev text9 : Row
text9 = (
  record {
    names = 4;
    formats = [];
    items = (item.Body (x 1 14 1) [] ((statement.Accept (record {
      head = record {
        place = (at 1 20);
        name = (x 1 27
            2);
        names = ((x 1 29 3) ∷ []);
        clauses = (record {
          word = clause_word.By;
          expression = (phrase.Arithmetic (phrase.Name (x 1 36 3)) (record {
            operator = operator.Add;
            operand = (phrase.Parenthesized (at 1 38) (phrase.Arithmetic (phrase.Name (x 1 39 3)) (record {
              operator = operator.Add;
              operand = (phrase.Parenthesized (at 1 41) (phrase.Arithmetic (phrase.Name (x 1 42 3)) (record {
                operator = operator.Add;
                operand =
                    (phrase.Parenthesized (at 1 44) (phrase.Arithmetic (phrase.Name (x 1 45 3)) (record {
                      operator = operator.Add;
                      operand = (phrase.Parenthesized (at
                          1 47) (phrase.Arithmetic (phrase.Name (x 1 48 3)) (record {
                            operator = operator.Add;
                            operand = (phrase.Parenthesized (at 1 50) (phrase.Arithmetic
                                (phrase.Name (x 1 51 3)) (record {
                                  operator = operator.Add;
                                  operand = (phrase.Parenthesized (at 1 53) (phrase.Arithmetic (phrase.Name (x 1 54 3))
                                      (record {
                                        operator = operator.Add;
                                        operand = (phrase.Parenthesized (at 1 56) (phrase.Arithmetic (phrase.Name (x 1 57 3)) (record {
                                          operator =
                                              operator.Add;
                                          operand = (phrase.Parenthesized (at 1 59) (phrase.Arithmetic (phrase.Name (x 1 60 3)) (record {
                                            operator = operator.Add;
                                            operand =
                                                (phrase.Parenthesized (at 1 62) (phrase.Arithmetic (phrase.Name (x 1 63 3)) (record {
                                                  operator = operator.Add;
                                                  operand = (phrase.Parenthesized (at
                                                      1 65) (phrase.Arithmetic (phrase.Name (x 1 66 3)) (record {
                                                        operator = operator.Add;
                                                        operand = (phrase.Parenthesized (at 1 68) (phrase.Arithmetic
                                                            (phrase.Name (x 1 69 3)) (record {
                                                              operator = operator.Add;
                                                              operand = (phrase.Parenthesized (at 1 71) (phrase.Arithmetic (phrase.Name (x 1 72 3))
                                                                  (record {
                                                                    operator = operator.Add;
                                                                    operand = (phrase.Parenthesized (at 1 74) (phrase.Arithmetic (phrase.Name (x 1 75 3)) (record {
                                                                      operator =
                                                                          operator.Add;
                                                                      operand = (phrase.Parenthesized (at 1 77) (phrase.Arithmetic (phrase.Name (x 1 78 3)) (record {
                                                                        operator = operator.Add;
                                                                        operand =
                                                                            (phrase.Parenthesized (at 1 80) (phrase.Arithmetic (phrase.Name (x 1 81 3)) (record {
                                                                              operator = operator.Add;
                                                                              operand = (phrase.Parenthesized (at
                                                                                  1 83) (phrase.Arithmetic (phrase.Name (x 1 84 3)) (record {
                                                                                    operator = operator.Add;
                                                                                    operand = (phrase.Parenthesized (at 1 86) (phrase.Arithmetic
                                                                                        (phrase.Name (x 1 87 3)) (record {
                                                                                          operator = operator.Add;
                                                                                          operand = (phrase.Parenthesized (at 1 89) (phrase.Arithmetic (phrase.Name (x 1 90 3))
                                                                                              (record {
                                                                                                operator = operator.Add;
                                                                                                operand = (phrase.Parenthesized (at 1 92) (phrase.Arithmetic (phrase.Name (x 1 93 3)) (record {
                                                                                                  operator =
                                                                                                      operator.Add;
                                                                                                  operand = (phrase.Parenthesized (at 1 95) (phrase.Arithmetic (phrase.Name (x 1 96 3)) (record {
                                                                                                    operator = operator.Add;
                                                                                                    operand =
                                                                                                        (phrase.Parenthesized (at 1 98) (phrase.Arithmetic (phrase.Name (x 1 99 3)) (record {
                                                                                                          operator = operator.Add;
                                                                                                          operand = (phrase.Parenthesized (at
                                                                                                              1 101) (phrase.Arithmetic (phrase.Name (x 1 102 3)) (record {
                                                                                                                operator = operator.Add;
                                                                                                                operand = (phrase.Parenthesized (at 1 104)
                                                                                                                    (phrase.Arithmetic (phrase.Name (x 1 105 3)) (record {
                                                                                                                      operator = operator.Add;
                                                                                                                      operand = (phrase.Parenthesized (at 1 107) (phrase.Arithmetic
                                                                                                                          (phrase.Name (x 1 108 3)) (record {
                                                                                                                            operator = operator.Add;
                                                                                                                            operand = (phrase.Parenthesized (at 1 110) (phrase.Arithmetic (phrase.Name (x 1 111
                                                                                                                                3)) (record {
                                                                                                                                  operator = operator.Add;
                                                                                                                                  operand = (phrase.Parenthesized (at 1 113) (phrase.Arithmetic (phrase.Name (x 1 114 3)) (record {
                                                                                                                                    operator
                                                                                                                                        = operator.Add;
                                                                                                                                    operand = (phrase.Parenthesized (at 1 116) (phrase.Arithmetic (phrase.Name (x 1 117 3)) (record {
                                                                                                                                      operator = operator.Add;
                                                                                                                                      operand
                                                                                                                                          = (phrase.Parenthesized (at 1 119) (phrase.Arithmetic (phrase.Name (x 1 120 3)) (record {
                                                                                                                                            operator = operator.Add;
                                                                                                                                            operand = (phrase.Parenthesized
                                                                                                                                                (at 1 122) (phrase.Arithmetic (phrase.Name (x 1 123 3)) (record {
                                                                                                                                                  operator = operator.Add;
                                                                                                                                                  operand = (phrase.Parenthesized (at 1 125)
                                                                                                                                                      (phrase.Arithmetic (phrase.Name (x 1 126 3)) (record {
                                                                                                                                                        operator = operator.Add;
                                                                                                                                                        operand = (phrase.Parenthesized (at 1 128) (phrase.Arithmetic
                                                                                                                                                            (phrase.Name (x 1 129 3)) (record {
                                                                                                                                                              operator = operator.Add;
                                                                                                                                                              operand = (phrase.Parenthesized (at 1 131) (phrase.Arithmetic (phrase.Name (x 1 132
                                                                                                                                                                  3)) (record {
                                                                                                                                                                    operator = operator.Add;
                                                                                                                                                                    operand = (phrase.Parenthesized (at 1 134) (phrase.Arithmetic (phrase.Name (x 1 135 3)) (record {
                                                                                                                                                                      operator
                                                                                                                                                                          = operator.Add;
                                                                                                                                                                      operand = (phrase.Parenthesized (at 1 137) (phrase.Arithmetic (phrase.Name (x 1 138 3)) (record {
                                                                                                                                                                        operator = operator.Add;
                                                                                                                                                                        operand
                                                                                                                                                                            = (phrase.Parenthesized (at 1 140) (phrase.Arithmetic (phrase.Name (x 1 141 3)) (record {
                                                                                                                                                                              operator = operator.Add;
                                                                                                                                                                              operand = (phrase.Parenthesized
                                                                                                                                                                                  (at 1 143) (phrase.Arithmetic (phrase.Name (x 1 144 3)) (record {
                                                                                                                                                                                    operator = operator.Add;
                                                                                                                                                                                    operand = (phrase.Parenthesized (at 1 146)
                                                                                                                                                                                        (phrase.Arithmetic (phrase.Name (x 1 147 3)) (record {
                                                                                                                                                                                          operator = operator.Add;
                                                                                                                                                                                          operand = (phrase.Parenthesized (at 1 149) (phrase.Arithmetic
                                                                                                                                                                                              (phrase.Name (x 1 150 3)) (record {
                                                                                                                                                                                                operator = operator.Add;
                                                                                                                                                                                                operand = (phrase.Parenthesized (at 1 152) (phrase.Arithmetic (phrase.Name (x 1 153
                                                                                                                                                                                                    3)) (record {
                                                                                                                                                                                                      operator = operator.Add;
                                                                                                                                                                                                      operand = (phrase.Parenthesized (at 1 155) (phrase.Arithmetic (phrase.Name (x 1 156 3)) (record {
                                                                                                                                                                                                        operator
                                                                                                                                                                                                            = operator.Add;
                                                                                                                                                                                                        operand = (phrase.Parenthesized (at 1 158) (phrase.Arithmetic (phrase.Name (x 1 159 3)) (record {
                                                                                                                                                                                                          operator = operator.Add;
                                                                                                                                                                                                          operand
                                                                                                                                                                                                              = (phrase.Parenthesized (at 1 161) (phrase.Arithmetic (phrase.Name (x 1 162 3)) (record {
                                                                                                                                                                                                                operator = operator.Add;
                                                                                                                                                                                                                operand = (phrase.Parenthesized
                                                                                                                                                                                                                    (at 1 164) (phrase.Arithmetic (phrase.Name (x 1 165 3)) (record {
                                                                                                                                                                                                                      operator = operator.Add;
                                                                                                                                                                                                                      operand = (phrase.Parenthesized (at 1 167)
                                                                                                                                                                                                                          (phrase.Arithmetic (phrase.Name (x 1 168 3)) (record {
                                                                                                                                                                                                                            operator = operator.Add;
                                                                                                                                                                                                                            operand = (phrase.Parenthesized (at 1 170) (phrase.Arithmetic
                                                                                                                                                                                                                                (phrase.Name (x 1 171 3)) (record {
                                                                                                                                                                                                                                  operator = operator.Add;
                                                                                                                                                                                                                                  operand = (phrase.Parenthesized (at 1 173) (phrase.Arithmetic (phrase.Name (x 1 174
                                                                                                                                                                                                                                      3)) (record {
                                                                                                                                                                                                                                        operator = operator.Add;
                                                                                                                                                                                                                                        operand = (phrase.Parenthesized (at 1 176) (phrase.Arithmetic (phrase.Name (x 1 177 3)) (record {
                                                                                                                                                                                                                                          operator
                                                                                                                                                                                                                                              = operator.Add;
                                                                                                                                                                                                                                          operand = (phrase.Parenthesized (at 1 179) (phrase.Arithmetic (phrase.Name (x 1 180 3)) (record {
                                                                                                                                                                                                                                            operator = operator.Add;
                                                                                                                                                                                                                                            operand
                                                                                                                                                                                                                                                = (phrase.Parenthesized (at 1 182) (phrase.Arithmetic (phrase.Name (x 1 183 3)) (record {
                                                                                                                                                                                                                                                  operator = operator.Add;
                                                                                                                                                                                                                                                  operand = (phrase.Parenthesized
                                                                                                                                                                                                                                                      (at 1 185) (phrase.Arithmetic (phrase.Name (x 1 186 3)) (record {
                                                                                                                                                                                                                                                        operator = operator.Add;
                                                                                                                                                                                                                                                        operand = (phrase.Parenthesized (at 1 188)
                                                                                                                                                                                                                                                            (phrase.Arithmetic (phrase.Name (x 1 189 3)) (record {
                                                                                                                                                                                                                                                              operator = operator.Add;
                                                                                                                                                                                                                                                              operand = (phrase.Parenthesized (at 1 191) (phrase.Arithmetic
                                                                                                                                                                                                                                                                  (phrase.Name (x 1 192 3)) (record {
                                                                                                                                                                                                                                                                    operator = operator.Add;
                                                                                                                                                                                                                                                                    operand = (phrase.Parenthesized (at 1 194) (phrase.Arithmetic (phrase.Name (x 1 195
                                                                                                                                                                                                                                                                        3)) (record {
                                                                                                                                                                                                                                                                          operator = operator.Add;
                                                                                                                                                                                                                                                                          operand = (phrase.Parenthesized (at 1 197) (phrase.Arithmetic (phrase.Name (x 1 198 3)) (record {
                                                                                                                                                                                                                                                                            operator
                                                                                                                                                                                                                                                                                = operator.Add;
                                                                                                                                                                                                                                                                            operand = (phrase.Parenthesized (at 1 200) (phrase.Arithmetic (phrase.Name (x 1 201 3)) (record {
                                                                                                                                                                                                                                                                              operator = operator.Add;
                                                                                                                                                                                                                                                                              operand
                                                                                                                                                                                                                                                                                  = (phrase.Parenthesized (at 1 203) (phrase.Arithmetic (phrase.Name (x 1 204 3)) (record {
                                                                                                                                                                                                                                                                                    operator = operator.Add;
                                                                                                                                                                                                                                                                                    operand = (phrase.Parenthesized
                                                                                                                                                                                                                                                                                        (at 1 206) (phrase.Arithmetic (phrase.Name (x 1 207 3)) (record {
                                                                                                                                                                                                                                                                                          operator = operator.Add;
                                                                                                                                                                                                                                                                                          operand = (phrase.Parenthesized (at 1 209)
                                                                                                                                                                                                                                                                                              (phrase.Arithmetic (phrase.Name (x 1 210 3)) (record {
                                                                                                                                                                                                                                                                                                operator = operator.Add;
                                                                                                                                                                                                                                                                                                operand = (phrase.Parenthesized (at 1 212) (phrase.Arithmetic
                                                                                                                                                                                                                                                                                                    (phrase.Name (x 1 213 3)) (record {
                                                                                                                                                                                                                                                                                                      operator = operator.Add;
                                                                                                                                                                                                                                                                                                      operand = (phrase.Parenthesized (at 1 215) (phrase.Arithmetic (phrase.Name (x 1 216
                                                                                                                                                                                                                                                                                                          3)) (record {
                                                                                                                                                                                                                                                                                                            operator = operator.Add;
                                                                                                                                                                                                                                                                                                            operand = (phrase.Parenthesized (at 1 218) (phrase.Arithmetic (phrase.Name (x 1 219 3)) (record {
                                                                                                                                                                                                                                                                                                              operator
                                                                                                                                                                                                                                                                                                                  = operator.Add;
                                                                                                                                                                                                                                                                                                              operand = (phrase.Parenthesized (at 1 221) (phrase.Arithmetic (phrase.Name (x 1 222 3)) (record {
                                                                                                                                                                                                                                                                                                                operator = operator.Add;
                                                                                                                                                                                                                                                                                                                operand
                                                                                                                                                                                                                                                                                                                    = (phrase.Parenthesized (at 1 224) (phrase.Arithmetic (phrase.Name (x 1 225 3)) (record {
                                                                                                                                                                                                                                                                                                                      operator = operator.Add;
                                                                                                                                                                                                                                                                                                                      operand = (phrase.Parenthesized
                                                                                                                                                                                                                                                                                                                          (at 1 227) (phrase.Name (x 1 228 3)));
                                                                                                                                                                                                                                                                                                                    } ∷ [])));
                                                                                                                                                                                                                                                                                                              } ∷ [])));
                                                                                                                                                                                                                                                                                                            } ∷ [])));
                                                                                                                                                                                                                                                                                                          } ∷ [])));
                                                                                                                                                                                                                                                                                                    } ∷ [])));
                                                                                                                                                                                                                                                                                              } ∷ [])));
                                                                                                                                                                                                                                                                                        } ∷ [])));
                                                                                                                                                                                                                                                                                  } ∷ [])));
                                                                                                                                                                                                                                                                            } ∷ [])));
                                                                                                                                                                                                                                                                          } ∷ [])));
                                                                                                                                                                                                                                                                        } ∷
                                                                                                                                                                                                                                                                        [])));
                                                                                                                                                                                                                                                                  } ∷ [])));
                                                                                                                                                                                                                                                            } ∷ [])));
                                                                                                                                                                                                                                                      } ∷ [])));
                                                                                                                                                                                                                                                } ∷ [])));
                                                                                                                                                                                                                                          } ∷ [])));
                                                                                                                                                                                                                                        } ∷ [])));
                                                                                                                                                                                                                                      } ∷ [])));
                                                                                                                                                                                                                                } ∷ [])));
                                                                                                                                                                                                                          } ∷ [])));
                                                                                                                                                                                                                    } ∷ [])));
                                                                                                                                                                                                              } ∷ [])));
                                                                                                                                                                                                        } ∷ [])));
                                                                                                                                                                                                      } ∷ [])));
                                                                                                                                                                                                    } ∷ [])));
                                                                                                                                                                                              } ∷ [])));
                                                                                                                                                                                        } ∷ [])));
                                                                                                                                                                                  } ∷ [])));
                                                                                                                                                                            } ∷ [])));
                                                                                                                                                                      } ∷ [])));
                                                                                                                                                                    } ∷ [])));
                                                                                                                                                                  } ∷ [])));
                                                                                                                                                            } ∷ [])));
                                                                                                                                                      } ∷ [])));
                                                                                                                                                } ∷ [])));
                                                                                                                                          } ∷ [])));
                                                                                                                                    } ∷ [])));
                                                                                                                                  } ∷ [])));
                                                                                                                                } ∷ [])));
                                                                                                                          } ∷
                                                                                                                          [])));
                                                                                                                    } ∷ [])));
                                                                                                              } ∷ [])));
                                                                                                        } ∷ [])));
                                                                                                  } ∷ [])));
                                                                                                } ∷ [])));
                                                                                              } ∷ [])));
                                                                                        } ∷ [])));
                                                                                  } ∷ [])));
                                                                            } ∷ [])));
                                                                      } ∷ [])));
                                                                    } ∷ [])));
                                                                  } ∷ [])));
                                                            } ∷ [])));
                                                      } ∷ [])));
                                                } ∷ [])));
                                          } ∷ [])));
                                        } ∷ [])));
                                      } ∷ [])));
                                } ∷ [])));
                          } ∷ [])));
                    } ∷ [])));
              } ∷ [])));
            } ∷ [])));
          } ∷ []));
        } ∷ []);
      };
      block = [];
    })) ∷ []) ∷
        item.Specification (x 1 311 1) [] (record {
          result = (Some (type_name.Void (at 1 323)));
          name = (x 1 328 2);
          parameters = ((type_name.Void (at 1
              330)) ∷ []);
        } ∷ []) ∷ item.Function (type_name.Number numeric.Int) (x 1 342 0) [] [] ∷ []);
  },
  Some (fault_at 1 36 kind.PureTooDeep),
)

-- (a longer text)
abbrev text10 : Row
text10 = (
  record {
    names = 4;
    formats = [];
    items = (item.Body (x 1 14 1) [] ((statement.Accept (record {
      head = record {
        place = (at 1 20);
        name = (x 1 27
            2);
        names = ((x 1 29 3) ∷ []);
        clauses = (record {
          word = clause_word.By;
          expression = (phrase.Arithmetic (phrase.Name (x 1 36 3)) (record {
            operator = operator.Add;
            operand = (phrase.Parenthesized (at 1 38) (phrase.Arithmetic (phrase.Name (x 1 39 3)) (record {
              operator = operator.Add;
              operand = (phrase.Parenthesized (at 1 41) (phrase.Arithmetic (phrase.Name (x 1 42 3)) (record {
                operator = operator.Add;
                operand =
                    (phrase.Parenthesized (at 1 44) (phrase.Arithmetic (phrase.Name (x 1 45 3)) (record {
                      operator = operator.Add;
                      operand = (phrase.Parenthesized (at
                          1 47) (phrase.Arithmetic (phrase.Name (x 1 48 3)) (record {
                            operator = operator.Add;
                            operand = (phrase.Parenthesized (at 1 50) (phrase.Arithmetic
                                (phrase.Name (x 1 51 3)) (record {
                                  operator = operator.Add;
                                  operand = (phrase.Parenthesized (at 1 53) (phrase.Arithmetic (phrase.Name (x 1 54 3))
                                      (record {
                                        operator = operator.Add;
                                        operand = (phrase.Parenthesized (at 1 56) (phrase.Arithmetic (phrase.Name (x 1 57 3)) (record {
                                          operator =
                                              operator.Add;
                                          operand = (phrase.Parenthesized (at 1 59) (phrase.Arithmetic (phrase.Name (x 1 60 3)) (record {
                                            operator = operator.Add;
                                            operand =
                                                (phrase.Parenthesized (at 1 62) (phrase.Arithmetic (phrase.Name (x 1 63 3)) (record {
                                                  operator = operator.Add;
                                                  operand = (phrase.Parenthesized (at
                                                      1 65) (phrase.Arithmetic (phrase.Name (x 1 66 3)) (record {
                                                        operator = operator.Add;
                                                        operand = (phrase.Parenthesized (at 1 68) (phrase.Arithmetic
                                                            (phrase.Name (x 1 69 3)) (record {
                                                              operator = operator.Add;
                                                              operand = (phrase.Parenthesized (at 1 71) (phrase.Arithmetic (phrase.Name (x 1 72 3))
                                                                  (record {
                                                                    operator = operator.Add;
                                                                    operand = (phrase.Parenthesized (at 1 74) (phrase.Arithmetic (phrase.Name (x 1 75 3)) (record {
                                                                      operator =
                                                                          operator.Add;
                                                                      operand = (phrase.Parenthesized (at 1 77) (phrase.Arithmetic (phrase.Name (x 1 78 3)) (record {
                                                                        operator = operator.Add;
                                                                        operand =
                                                                            (phrase.Parenthesized (at 1 80) (phrase.Arithmetic (phrase.Name (x 1 81 3)) (record {
                                                                              operator = operator.Add;
                                                                              operand = (phrase.Parenthesized (at
                                                                                  1 83) (phrase.Arithmetic (phrase.Name (x 1 84 3)) (record {
                                                                                    operator = operator.Add;
                                                                                    operand = (phrase.Parenthesized (at 1 86) (phrase.Arithmetic
                                                                                        (phrase.Name (x 1 87 3)) (record {
                                                                                          operator = operator.Add;
                                                                                          operand = (phrase.Parenthesized (at 1 89) (phrase.Arithmetic (phrase.Name (x 1 90 3))
                                                                                              (record {
                                                                                                operator = operator.Add;
                                                                                                operand = (phrase.Parenthesized (at 1 92) (phrase.Arithmetic (phrase.Name (x 1 93 3)) (record {
                                                                                                  operator =
                                                                                                      operator.Add;
                                                                                                  operand = (phrase.Parenthesized (at 1 95) (phrase.Arithmetic (phrase.Name (x 1 96 3)) (record {
                                                                                                    operator = operator.Add;
                                                                                                    operand =
                                                                                                        (phrase.Parenthesized (at 1 98) (phrase.Arithmetic (phrase.Name (x 1 99 3)) (record {
                                                                                                          operator = operator.Add;
                                                                                                          operand = (phrase.Parenthesized (at
                                                                                                              1 101) (phrase.Arithmetic (phrase.Name (x 1 102 3)) (record {
                                                                                                                operator = operator.Add;
                                                                                                                operand = (phrase.Parenthesized (at 1 104)
                                                                                                                    (phrase.Arithmetic (phrase.Name (x 1 105 3)) (record {
                                                                                                                      operator = operator.Add;
                                                                                                                      operand = (phrase.Parenthesized (at 1 107) (phrase.Arithmetic
                                                                                                                          (phrase.Name (x 1 108 3)) (record {
                                                                                                                            operator = operator.Add;
                                                                                                                            operand = (phrase.Parenthesized (at 1 110) (phrase.Arithmetic (phrase.Name (x 1 111
                                                                                                                                3)) (record {
                                                                                                                                  operator = operator.Add;
                                                                                                                                  operand = (phrase.Parenthesized (at 1 113) (phrase.Arithmetic (phrase.Name (x 1 114 3)) (record {
                                                                                                                                    operator
                                                                                                                                        = operator.Add;
                                                                                                                                    operand = (phrase.Parenthesized (at 1 116) (phrase.Arithmetic (phrase.Name (x 1 117 3)) (record {
                                                                                                                                      operator = operator.Add;
                                                                                                                                      operand
                                                                                                                                          = (phrase.Parenthesized (at 1 119) (phrase.Arithmetic (phrase.Name (x 1 120 3)) (record {
                                                                                                                                            operator = operator.Add;
                                                                                                                                            operand = (phrase.Parenthesized
                                                                                                                                                (at 1 122) (phrase.Arithmetic (phrase.Name (x 1 123 3)) (record {
                                                                                                                                                  operator = operator.Add;
                                                                                                                                                  operand = (phrase.Parenthesized (at 1 125)
                                                                                                                                                      (phrase.Arithmetic (phrase.Name (x 1 126 3)) (record {
                                                                                                                                                        operator = operator.Add;
                                                                                                                                                        operand = (phrase.Parenthesized (at 1 128) (phrase.Arithmetic
                                                                                                                                                            (phrase.Name (x 1 129 3)) (record {
                                                                                                                                                              operator = operator.Add;
                                                                                                                                                              operand = (phrase.Parenthesized (at 1 131) (phrase.Arithmetic (phrase.Name (x 1 132
                                                                                                                                                                  3)) (record {
                                                                                                                                                                    operator = operator.Add;
                                                                                                                                                                    operand = (phrase.Parenthesized (at 1 134) (phrase.Arithmetic (phrase.Name (x 1 135 3)) (record {
                                                                                                                                                                      operator
                                                                                                                                                                          = operator.Add;
                                                                                                                                                                      operand = (phrase.Parenthesized (at 1 137) (phrase.Arithmetic (phrase.Name (x 1 138 3)) (record {
                                                                                                                                                                        operator = operator.Add;
                                                                                                                                                                        operand
                                                                                                                                                                            = (phrase.Parenthesized (at 1 140) (phrase.Arithmetic (phrase.Name (x 1 141 3)) (record {
                                                                                                                                                                              operator = operator.Add;
                                                                                                                                                                              operand = (phrase.Parenthesized
                                                                                                                                                                                  (at 1 143) (phrase.Arithmetic (phrase.Name (x 1 144 3)) (record {
                                                                                                                                                                                    operator = operator.Add;
                                                                                                                                                                                    operand = (phrase.Parenthesized (at 1 146)
                                                                                                                                                                                        (phrase.Arithmetic (phrase.Name (x 1 147 3)) (record {
                                                                                                                                                                                          operator = operator.Add;
                                                                                                                                                                                          operand = (phrase.Parenthesized (at 1 149) (phrase.Arithmetic
                                                                                                                                                                                              (phrase.Name (x 1 150 3)) (record {
                                                                                                                                                                                                operator = operator.Add;
                                                                                                                                                                                                operand = (phrase.Parenthesized (at 1 152) (phrase.Arithmetic (phrase.Name (x 1 153
                                                                                                                                                                                                    3)) (record {
                                                                                                                                                                                                      operator = operator.Add;
                                                                                                                                                                                                      operand = (phrase.Parenthesized (at 1 155) (phrase.Arithmetic (phrase.Name (x 1 156 3)) (record {
                                                                                                                                                                                                        operator
                                                                                                                                                                                                            = operator.Add;
                                                                                                                                                                                                        operand = (phrase.Parenthesized (at 1 158) (phrase.Arithmetic (phrase.Name (x 1 159 3)) (record {
                                                                                                                                                                                                          operator = operator.Add;
                                                                                                                                                                                                          operand
                                                                                                                                                                                                              = (phrase.Parenthesized (at 1 161) (phrase.Arithmetic (phrase.Name (x 1 162 3)) (record {
                                                                                                                                                                                                                operator = operator.Add;
                                                                                                                                                                                                                operand = (phrase.Parenthesized
                                                                                                                                                                                                                    (at 1 164) (phrase.Arithmetic (phrase.Name (x 1 165 3)) (record {
                                                                                                                                                                                                                      operator = operator.Add;
                                                                                                                                                                                                                      operand = (phrase.Parenthesized (at 1 167)
                                                                                                                                                                                                                          (phrase.Arithmetic (phrase.Name (x 1 168 3)) (record {
                                                                                                                                                                                                                            operator = operator.Add;
                                                                                                                                                                                                                            operand = (phrase.Parenthesized (at 1 170) (phrase.Arithmetic
                                                                                                                                                                                                                                (phrase.Name (x 1 171 3)) (record {
                                                                                                                                                                                                                                  operator = operator.Add;
                                                                                                                                                                                                                                  operand = (phrase.Parenthesized (at 1 173) (phrase.Arithmetic (phrase.Name (x 1 174
                                                                                                                                                                                                                                      3)) (record {
                                                                                                                                                                                                                                        operator = operator.Add;
                                                                                                                                                                                                                                        operand = (phrase.Parenthesized (at 1 176) (phrase.Arithmetic (phrase.Name (x 1 177 3)) (record {
                                                                                                                                                                                                                                          operator
                                                                                                                                                                                                                                              = operator.Add;
                                                                                                                                                                                                                                          operand = (phrase.Parenthesized (at 1 179) (phrase.Arithmetic (phrase.Name (x 1 180 3)) (record {
                                                                                                                                                                                                                                            operator = operator.Add;
                                                                                                                                                                                                                                            operand
                                                                                                                                                                                                                                                = (phrase.Parenthesized (at 1 182) (phrase.Arithmetic (phrase.Name (x 1 183 3)) (record {
                                                                                                                                                                                                                                                  operator = operator.Add;
                                                                                                                                                                                                                                                  operand = (phrase.Parenthesized
                                                                                                                                                                                                                                                      (at 1 185) (phrase.Arithmetic (phrase.Name (x 1 186 3)) (record {
                                                                                                                                                                                                                                                        operator = operator.Add;
                                                                                                                                                                                                                                                        operand = (phrase.Parenthesized (at 1 188)
                                                                                                                                                                                                                                                            (phrase.Arithmetic (phrase.Name (x 1 189 3)) (record {
                                                                                                                                                                                                                                                              operator = operator.Add;
                                                                                                                                                                                                                                                              operand = (phrase.Parenthesized (at 1 191) (phrase.Arithmetic
                                                                                                                                                                                                                                                                  (phrase.Name (x 1 192 3)) (record {
                                                                                                                                                                                                                                                                    operator = operator.Add;
                                                                                                                                                                                                                                                                    operand = (phrase.Parenthesized (at 1 194) (phrase.Arithmetic (phrase.Name (x 1 195
                                                                                                                                                                                                                                                                        3)) (record {
                                                                                                                                                                                                                                                                          operator = operator.Add;
                                                                                                                                                                                                                                                                          operand = (phrase.Parenthesized (at 1 197) (phrase.Arithmetic (phrase.Name (x 1 198 3)) (record {
                                                                                                                                                                                                                                                                            operator
                                                                                                                                                                                                                                                                                = operator.Add;
                                                                                                                                                                                                                                                                            operand = (phrase.Parenthesized (at 1 200) (phrase.Arithmetic (phrase.Name (x 1 201 3)) (record {
                                                                                                                                                                                                                                                                              operator = operator.Add;
                                                                                                                                                                                                                                                                              operand
                                                                                                                                                                                                                                                                                  = (phrase.Parenthesized (at 1 203) (phrase.Arithmetic (phrase.Name (x 1 204 3)) (record {
                                                                                                                                                                                                                                                                                    operator = operator.Add;
                                                                                                                                                                                                                                                                                    operand = (phrase.Parenthesized
                                                                                                                                                                                                                                                                                        (at 1 206) (phrase.Arithmetic (phrase.Name (x 1 207 3)) (record {
                                                                                                                                                                                                                                                                                          operator = operator.Add;
                                                                                                                                                                                                                                                                                          operand = (phrase.Parenthesized (at 1 209)
                                                                                                                                                                                                                                                                                              (phrase.Arithmetic (phrase.Name (x 1 210 3)) (record {
                                                                                                                                                                                                                                                                                                operator = operator.Add;
                                                                                                                                                                                                                                                                                                operand = (phrase.Parenthesized (at 1 212) (phrase.Arithmetic
                                                                                                                                                                                                                                                                                                    (phrase.Name (x 1 213 3)) (record {
                                                                                                                                                                                                                                                                                                      operator = operator.Add;
                                                                                                                                                                                                                                                                                                      operand = (phrase.Parenthesized (at 1 215) (phrase.Arithmetic (phrase.Name (x 1 216
                                                                                                                                                                                                                                                                                                          3)) (record {
                                                                                                                                                                                                                                                                                                            operator = operator.Add;
                                                                                                                                                                                                                                                                                                            operand = (phrase.Parenthesized (at 1 218) (phrase.Arithmetic (phrase.Name (x 1 219 3)) (record {
                                                                                                                                                                                                                                                                                                              operator
                                                                                                                                                                                                                                                                                                                  = operator.Add;
                                                                                                                                                                                                                                                                                                              operand = (phrase.Parenthesized (at 1 221) (phrase.Arithmetic (phrase.Name (x 1 222 3)) (record {
                                                                                                                                                                                                                                                                                                                operator = operator.Add;
                                                                                                                                                                                                                                                                                                                operand
                                                                                                                                                                                                                                                                                                                    = (phrase.Parenthesized (at 1 224) (phrase.Name (x 1 225 3)));
                                                                                                                                                                                                                                                                                                              } ∷ [])));
                                                                                                                                                                                                                                                                                                            } ∷ [])));
                                                                                                                                                                                                                                                                                                          } ∷ [])));
                                                                                                                                                                                                                                                                                                    } ∷ [])));
                                                                                                                                                                                                                                                                                              } ∷ [])));
                                                                                                                                                                                                                                                                                        } ∷ [])));
                                                                                                                                                                                                                                                                                  } ∷ [])));
                                                                                                                                                                                                                                                                            } ∷ [])));
                                                                                                                                                                                                                                                                          } ∷
                                                                                                                                                                                                                                                                              [])));
                                                                                                                                                                                                                                                                        } ∷ [])));
                                                                                                                                                                                                                                                                  } ∷ [])));
                                                                                                                                                                                                                                                            } ∷ [])));
                                                                                                                                                                                                                                                      } ∷ [])));
                                                                                                                                                                                                                                                } ∷ [])));
                                                                                                                                                                                                                                          } ∷ [])));
                                                                                                                                                                                                                                        } ∷ [])));
                                                                                                                                                                                                                                      } ∷ [])));
                                                                                                                                                                                                                                } ∷ [])));
                                                                                                                                                                                                                          } ∷ [])));
                                                                                                                                                                                                                    } ∷ [])));
                                                                                                                                                                                                              } ∷ [])));
                                                                                                                                                                                                        } ∷ [])));
                                                                                                                                                                                                      } ∷ [])));
                                                                                                                                                                                                    } ∷ [])));
                                                                                                                                                                                              } ∷ [])));
                                                                                                                                                                                        } ∷ [])));
                                                                                                                                                                                  } ∷ [])));
                                                                                                                                                                            } ∷ [])));
                                                                                                                                                                      } ∷ [])));
                                                                                                                                                                    } ∷ [])));
                                                                                                                                                                  } ∷ [])));
                                                                                                                                                            } ∷ [])));
                                                                                                                                                      } ∷ [])));
                                                                                                                                                } ∷ [])));
                                                                                                                                          } ∷ [])));
                                                                                                                                    } ∷ [])));
                                                                                                                                  } ∷ [])));
                                                                                                                                } ∷
                                                                                                                                [])));
                                                                                                                          } ∷ [])));
                                                                                                                    } ∷ [])));
                                                                                                              } ∷ [])));
                                                                                                        } ∷ [])));
                                                                                                  } ∷ [])));
                                                                                                } ∷ [])));
                                                                                              } ∷ [])));
                                                                                        } ∷ [])));
                                                                                  } ∷ [])));
                                                                            } ∷ [])));
                                                                      } ∷ [])));
                                                                    } ∷ [])));
                                                                  } ∷ [])));
                                                            } ∷ [])));
                                                      } ∷ [])));
                                                } ∷ [])));
                                          } ∷ [])));
                                        } ∷ [])));
                                      } ∷ [])));
                                } ∷ [])));
                          } ∷ [])));
                    } ∷ [])));
              } ∷ [])));
            } ∷ [])));
          } ∷ []));
        } ∷ []);
      };
      block = [];
    })) ∷ []) ∷
        item.Specification (x 1 307 1) [] (record {
          result = (Some (type_name.Void (at 1 319)));
          name = (x 1 324 2);
          parameters = ((type_name.Void (at 1
              326)) ∷ []);
        } ∷ []) ∷ item.Function (type_name.Number numeric.Int) (x 1 338 0) [] [] ∷ []);
  },
  Some (fault_at 1 326 kind.VoidHere),
)

abbrev pub rows : List Row
rows = text0 ∷ text1 ∷ text2 ∷ text3 ∷ text4 ∷ text5 ∷ text6 ∷ text7 ∷ text8 ∷ text9 ∷ text10 ∷ []
