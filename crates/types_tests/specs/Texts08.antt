-- 5 VoidHere
use Rattle.std.specs.Prelude.{pos, List, [], ◌∷◌, Some, None}
use Rattle.cc_base.specs.declared.numbers.NumberType.TheVariants as numeric
use Rattle.cc_faults.specs.declared.fault.TypeKind.TheVariants as kind
use Rattle.cc_faults.specs.declared.plain.Item.TheVariants as item
use Rattle.cc_faults.specs.declared.plain.Length.TheVariants as some_length
use Rattle.cc_faults.specs.declared.plain.LocalForm.TheVariants as form
use Rattle.cc_faults.specs.declared.plain.Phrase.TheVariants as phrase
use Rattle.cc_faults.specs.declared.plain.Statement.TheVariants as statement
use Rattle.cc_faults.specs.declared.plain.TypeName.TheVariants as type_name
use Rattle.types_tests.specs.Seen.{Row, at, fault_at, x}

-- main() { void x; }
abbrev text0 : Row
text0 = (
  record {
    names = 2;
    formats = [];
    items = (item.Function (type_name.Number numeric.Int) (x 1 1 0) [] ((statement.Declare (record {
      of =
          (type_name.Void (at 1 10));
      name = (x 1 15 1);
      form = form.Plain;
    })) ∷ []) ∷ []);
  },
  Some (fault_at 1 10 kind.VoidHere),
)

-- f(void x) { } main() { }
abbrev text1 : Row
text1 = (
  record {
    names = 3;
    formats = [];
    items = (item.Function (type_name.Number numeric.Int) (x 1 1 1) (record {
      of = (type_name.Void (at 1 3));
      name
          = (x 1 8 2);
    } ∷ []) [] ∷ item.Function (type_name.Number numeric.Int) (x 1 15 0) [] [] ∷ []);
  },
  Some (fault_at 1 3 kind.VoidHere),
)

-- struct s { void a; }; main() { }
abbrev text2 : Row
text2 = (
  record {
    names = 3;
    formats = [];
    items = (item.Structure (x 1 8 1) (record { of = (type_name.Void (at 1 12)); name = (x 1 17 2); length = None }
        ∷ []) ∷ item.Function (type_name.Number numeric.Int) (x 1 23 0) [] [] ∷ []);
  },
  Some (fault_at 1 12 kind.VoidHere),
)

-- process spec p(void x); process body p(y) { } main() { }
abbrev text3 : Row
text3 = (
  record {
    names = 3;
    formats = [];
    items = (item.Specification (x 1 14 1) ((type_name.Void (at 1 16)) ∷ []) [] ∷ item.Body (x 1 38 1) ((x 1 40 2)
        ∷ []) [] ∷ item.Function (type_name.Number numeric.Int) (x 1 47 0) [] [] ∷ []);
  },
  Some (fault_at 1 16 kind.VoidHere),
)

-- process spec p(void, int a); process body p(y, z) { } main() { }
abbrev text4 : Row
text4 = (
  record {
    names = 4;
    formats = [];
    items = (item.Specification (x 1 14 1) ((type_name.Void (at 1 16)) ∷ (type_name.Number numeric.Int) ∷ []) [] ∷
        item.Body (x 1 43 1) ((x 1 45 2) ∷ (x 1 48 3) ∷ []) [] ∷ item.Function (type_name.Number numeric.Int) (x 1 55 0) [] [] ∷ []);
  },
  Some (fault_at 1
      16 kind.VoidHere),
)

-- process spec p() { trans void t(void x); }; process body p() { } main() { }
abbrev text5 : Row
text5 = (
  record {
    names = 3;
    formats = [];
    items = (item.Specification (x 1 14 1) [] (record {
      result = (Some (type_name.Void (at 1 26)));
      name = (x 1 31
          2);
      parameters = ((type_name.Void (at 1 33)) ∷ []);
    } ∷ []) ∷ item.Body (x 1 58 1) [] [] ∷ item.Function (type_name.Number numeric.Int) (x 1 66 0)
        [] [] ∷ []);
  },
  Some (fault_at 1 33 kind.VoidHere),
)

-- main() { void a[0]; }
abbrev text6 : Row
text6 = (
  record {
    names = 2;
    formats = [];
    items = (item.Function (type_name.Number numeric.Int) (x 1 1 0) [] ((statement.Declare (record {
      of =
          (type_name.Void (at 1 10));
      name = (x 1 15 1);
      form = form.Array (some_length.Number (at 1 17) (pos 0));
    })) ∷ []) ∷ []);
  },
  Some (fault_at 1 10
      kind.VoidHere),
)

-- process spec p(void) { trans void t(void); }; process body p() { } f(void) { } main(void) { create p(); }
abbrev text7 : Row
text7 = (
  record {
    names = 4;
    formats = [];
    items = (item.Specification (x 1 14 1) [] (record {
      result = (Some (type_name.Void (at 1 30)));
      name = (x 1 35
          2);
      parameters = [];
    } ∷ []) ∷ item.Body (x 1 60 1) [] [] ∷ item.Function (type_name.Number numeric.Int) (x 1 68 3) [] [] ∷ item.Function
        (type_name.Number numeric.Int) (x 1 80 0) [] ((statement.Evaluate (phrase.Create (at 1 93) (x 1 100 1) [])) ∷ []) ∷ []);
  },
  None,
)

abbrev pub rows : List Row
rows = text0 ∷ text1 ∷ text2 ∷ text3 ∷ text4 ∷ text5 ∷ text6 ∷ text7 ∷ []
