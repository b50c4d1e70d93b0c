-- an earlier token wins over a lower number
use Rattle.std.specs.Prelude.{pos, List, [], ◌∷◌, Some}
use Rattle.cc_base.specs.declared.numbers.NumberType.TheVariants as numeric
use Rattle.cc_base.specs.declared.numbers.Operator.TheVariants as operator
use Rattle.cc_faults.specs.declared.fault.TypeKind.TheVariants as kind
use Rattle.cc_faults.specs.declared.plain.ClauseWord.TheVariants as clause_word
use Rattle.cc_faults.specs.declared.plain.Item.TheVariants as item
use Rattle.cc_faults.specs.declared.plain.LocalForm.TheVariants as form
use Rattle.cc_faults.specs.declared.plain.Phrase.TheVariants as phrase
use Rattle.cc_faults.specs.declared.plain.Statement.TheVariants as statement
use Rattle.cc_faults.specs.declared.plain.TypeName.TheVariants as type_name
use Rattle.types_tests.specs.Seen.{Row, at, fault_at, x}

-- g() { } main() { g(x); }
abbrev text0 : Row
text0 = (
  record {
    names = 3;
    formats = [];
    items = (item.Function (type_name.Number numeric.Int) (x 1 1 1) [] [] ∷ item.Function (type_name.Number
        numeric.Int) (x 1 9 0) [] ((statement.Evaluate (phrase.Call (x 1 18 1) ((phrase.Name (x 1 20 2)) ∷ []))) ∷ []) ∷ []);
  },
  Some (fault_at 1 18
      kind.Arity),
)

-- process spec p(); process body p() { } main() { process p x; x + u; }
abbrev text1 : Row
text1 = (
  record {
    names = 4;
    formats = [];
    items = (item.Specification (x 1 14 1) [] [] ∷ item.Body (x 1 32 1) [] [] ∷ item.Function (type_name.Number
        numeric.Int) (x 1 40 0) [] ((statement.Declare (record { of = (type_name.Process (x 1 57 1)); name = (x 1 59 2); form = form.Plain })) ∷
        (statement.Evaluate (phrase.Arithmetic (phrase.Name (x 1 62 2)) (record { operator = operator.Add; operand = (phrase.Name (x 1 66 3)) } ∷ []))) ∷
        []) ∷ []);
  },
  Some (fault_at 1 62 kind.Mismatch),
)

-- main() { 1 = u; }
abbrev text2 : Row
text2 = (
  record {
    names = 2;
    formats = [];
    items = (item.Function (type_name.Number numeric.Int) (x 1 1 0) [] ((statement.Evaluate (phrase.Assign
        (phrase.Number (at 1 10) (pos 1) numeric.Int) (phrase.Name (x 1 14 1)))) ∷ []) ∷ []);
  },
  Some (fault_at 1 10 kind.NotAPlace),
)

-- main() { main(u, v); }
abbrev text3 : Row
text3 = (
  record {
    names = 3;
    formats = [];
    items = (item.Function (type_name.Number numeric.Int) (x 1 1 0) [] ((statement.Evaluate (phrase.Call (x 1 10 0)
        ((phrase.Name (x 1 15 1)) ∷ (phrase.Name (x 1 18 2)) ∷ []))) ∷ []) ∷ []);
  },
  Some (fault_at 1 10 kind.NotAFunction),
)

-- main() { printf("%", u); }
abbrev text4 : Row
text4 = (
  record {
    names = 2;
    formats = ((37 ∷ []) ∷ []);
    items = (item.Function (type_name.Number numeric.Int) (x 1 1 0) [] ((statement.Evaluate
        (phrase.PrintFormat (at 1 10) (record { place = (at 1 17); number = 0 }) ((phrase.Name (x 1 22 1)) ∷ []))) ∷ []) ∷ []);
  },
  Some (fault_at 1 17
      kind.BadFormat),
)

-- main() { accept t(x) suchthat (u); }
abbrev text5 : Row
text5 = (
  record {
    names = 4;
    formats = [];
    items = (item.Function (type_name.Number numeric.Int) (x 1 1 0) [] ((statement.Accept (record {
      head = record {
        place = (at 1 10);
        name = (x 1 17 1);
        names = ((x 1 19 2) ∷ []);
        clauses = (record {
          word = clause_word.SuchThat;
          expression = (phrase.Name (x 1
              32 3));
        } ∷ []);
      };
      block = [];
    })) ∷ []) ∷ []);
  },
  Some (fault_at 1 10 kind.AcceptPlace),
)

abbrev pub rows : List Row
rows = text0 ∷ text1 ∷ text2 ∷ text3 ∷ text4 ∷ text5 ∷ []
