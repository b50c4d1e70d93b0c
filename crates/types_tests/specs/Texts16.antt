-- 13 Arity
use Rattle.std.specs.Prelude.{pos, List, [], ◌∷◌, Some, None}
use Rattle.cc_base.specs.declared.numbers.NumberType.TheVariants as numeric
use Rattle.cc_faults.specs.declared.fault.TypeKind.TheVariants as kind
use Rattle.cc_faults.specs.declared.plain.Item.TheVariants as item
use Rattle.cc_faults.specs.declared.plain.LocalForm.TheVariants as form
use Rattle.cc_faults.specs.declared.plain.Phrase.TheVariants as phrase
use Rattle.cc_faults.specs.declared.plain.Statement.TheVariants as statement
use Rattle.cc_faults.specs.declared.plain.Step.TheVariants as step
use Rattle.cc_faults.specs.declared.plain.TypeName.TheVariants as type_name
use Rattle.types_tests.specs.Seen.{Row, at, fault_at, x}

-- main() { f(1); } f() { }
abbrev text0 : Row
text0 = (
  record {
    names = 2;
    formats = [];
    items = (item.Function (type_name.Number numeric.Int) (x 1 1 0) [] ((statement.Evaluate (phrase.Call (x 1 10 1)
        ((phrase.Number (at 1 12) (pos 1) numeric.Int) ∷ []))) ∷ []) ∷ item.Function (type_name.Number numeric.Int) (x 1 18 1) [] [] ∷ []);
  },
  Some
      (fault_at 1 10 kind.Arity),
)

-- f(int a, int b) { } main() { f(1, u, v); }
abbrev text1 : Row
text1 = (
  record {
    names = 6;
    formats = [];
    items = (item.Function (type_name.Number numeric.Int) (x 1 1 1) (record {
      of = (type_name.Number numeric.Int);
      name = (x 1 7 2);
    } ∷ record { of = (type_name.Number numeric.Int); name = (x 1 14 3) } ∷ []) [] ∷ item.Function (type_name.Number numeric.Int) (x
        1 21 0) [] ((statement.Evaluate (phrase.Call (x 1 30 1) ((phrase.Number (at 1 32) (pos 1) numeric.Int) ∷ (phrase.Name (x 1 35 4)) ∷ (phrase.Name
        (x 1 38 5)) ∷ []))) ∷ []) ∷ []);
  },
  Some (fault_at 1 30 kind.Arity),
)

-- main() { create p(1); } process spec p(); process body p() { }
abbrev text2 : Row
text2 = (
  record {
    names = 2;
    formats = [];
    items = (item.Function (type_name.Number numeric.Int) (x 1 1 0) [] ((statement.Evaluate (phrase.Create (at 1
        10) (x 1 17 1) ((phrase.Number (at 1 19) (pos 1) numeric.Int) ∷ []))) ∷ []) ∷ item.Specification (x 1 38 1) [] [] ∷ item.Body (x 1 56 1) [] [] ∷
        []);
  },
  Some (fault_at 1 17 kind.Arity),
)

-- process spec p() { trans int t(int a); }; process body p() { } main() { process p x; x.t(); }
abbrev text3 : Row
text3 = (
  record {
    names = 4;
    formats = [];
    items = (item.Specification (x 1 14 1) [] (record {
      result = (Some (type_name.Number numeric.Int));
      name = (x 1
          30 2);
      parameters = ((type_name.Number numeric.Int) ∷ []);
    } ∷ []) ∷ item.Body (x 1 56 1) [] [] ∷ item.Function (type_name.Number numeric.Int) (x 1
        64 0) [] ((statement.Declare (record { of = (type_name.Process (x 1 81 1)); name = (x 1 83 3); form = form.Plain })) ∷ (statement.Evaluate
        (phrase.Chain (phrase.Name (x 1 86 3)) (step.Call (x 1 88 2) [] ∷ []))) ∷ []) ∷ []);
  },
  Some (fault_at 1 88 kind.Arity),
)

-- process spec p() { trans void t(int a); }; process body p() { accept t(x, y) { x.z; } } main() { }
abbrev text4 : Row
text4 = (
  record {
    names = 6;
    formats = [];
    items = (item.Specification (x 1 14 1) [] (record {
      result = (Some (type_name.Void (at 1 26)));
      name = (x 1 31
          2);
      parameters = ((type_name.Number numeric.Int) ∷ []);
    } ∷ []) ∷ item.Body (x 1 57 1) [] ((statement.Accept (record {
      head = record {
        place = (at
            1 63);
        name = (x 1 70 2);
        names = ((x 1 72 3) ∷ (x 1 75 4) ∷ []);
        clauses = [];
      };
      block = ((statement.Evaluate (phrase.Chain (phrase.Name (x 1 80
          3)) (step.Field (x 1 82 5) ∷ []))) ∷ []);
    })) ∷ []) ∷ item.Function (type_name.Number numeric.Int) (x 1 89 0) [] [] ∷ []);
  },
  Some (fault_at 1 70
      kind.Arity),
)

-- main() { printf("%d %c %%", 1); }
abbrev text5 : Row
text5 = (
  record {
    names = 1;
    formats = ((37 ∷ 100 ∷ 32 ∷ 37 ∷ 99 ∷ 32 ∷ 37 ∷ 37 ∷ []) ∷ []);
    items = (item.Function (type_name.Number numeric.Int) (x 1 1
        0) [] ((statement.Evaluate (phrase.PrintFormat (at 1 10) (record { place = (at 1 17); number = 0 }) ((phrase.Number (at 1 29) (pos 1) numeric.Int)
        ∷ []))) ∷ []) ∷ []);
  },
  Some (fault_at 1 10 kind.Arity),
)

-- main() { printf("", 1); }
abbrev text6 : Row
text6 = (
  record {
    names = 1;
    formats = ([] ∷ []);
    items = (item.Function (type_name.Number numeric.Int) (x 1 1 0) [] ((statement.Evaluate
        (phrase.PrintFormat (at 1 10) (record { place = (at 1 17); number = 0 }) ((phrase.Number (at 1 21) (pos 1) numeric.Int) ∷ []))) ∷ []) ∷ []);
  },
  Some (fault_at 1 10 kind.Arity),
)

-- main(int x) { }
abbrev text7 : Row
text7 = (
  record {
    names = 2;
    formats = [];
    items = (item.Function (type_name.Number numeric.Int) (x 1 1 0) (record {
      of = (type_name.Number numeric.Int);
      name = (x 1 10 1);
    } ∷ []) [] ∷ []);
  },
  Some (fault_at 1 1 kind.Arity),
)

-- g(int a, int b) { } main() { g(x); }
abbrev text8 : Row
text8 = (
  record {
    names = 5;
    formats = [];
    items = (item.Function (type_name.Number numeric.Int) (x 1 1 1) (record {
      of = (type_name.Number numeric.Int);
      name = (x 1 7 2);
    } ∷ record { of = (type_name.Number numeric.Int); name = (x 1 14 3) } ∷ []) [] ∷ item.Function (type_name.Number numeric.Int) (x
        1 21 0) [] ((statement.Evaluate (phrase.Call (x 1 30 1) ((phrase.Name (x 1 32 4)) ∷ []))) ∷ []) ∷ []);
  },
  Some (fault_at 1 30 kind.Arity),
)

-- main() { printf("%d%ld%c%%", 1, 2L, 'c'); }
abbrev text9 : Row
text9 = (
  record {
    names = 1;
    formats = ((37 ∷ 100 ∷ 37 ∷ 108 ∷ 100 ∷ 37 ∷ 99 ∷ 37 ∷ 37 ∷ []) ∷ []);
    items = (item.Function (type_name.Number numeric.Int)
        (x 1 1 0) [] ((statement.Evaluate (phrase.PrintFormat (at 1 10) (record { place = (at 1 17); number = 0 }) ((phrase.Number (at 1 30) (pos 1)
        numeric.Int) ∷ (phrase.Number (at 1 33) (pos 2) numeric.Long) ∷ (phrase.Number (at 1 37) (pos 99) numeric.Int) ∷ []))) ∷ []) ∷ []);
  },
  None,
)

abbrev pub rows : List Row
rows = text0 ∷ text1 ∷ text2 ∷ text3 ∷ text4 ∷ text5 ∷ text6 ∷ text7 ∷ text8 ∷ text9 ∷ []
